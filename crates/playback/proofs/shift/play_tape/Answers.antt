use Rattle.std.proofs.Common.{◌≡◌, ℕ, ◌+◌, ◌-◌, ◌<◌, List, [], ◌∷◌, ◌++◌, length, Some, None, Ok, vec_items, Option, Result, sym, ap, ◌∙◌, subst, rules}
use mathlib.Core.Path.{Path}
use Rattle.std.proofs.lemmas.Simd.{Each1-from_get_or}
use Rattle.fault.specs.declared.Fault.{Fault}
use Rattle.tape.specs.Records.{Request, request, next_record}
use Rattle.playback.specs.declared.lines.Line.TheVariants.{Refused, End}
use Rattle.playback.specs.Lines.{tape_lines}
use Rattle.playback.proofs.Turns.{first_turn, turn, ended, faulted, less_left}
use Rattle.playback.proofs.Wholes.{records_are_whole}
use Rattle.playback.proofs.shift.play_tape.Goals as goal
use Rattle.playback.proofs.shift.play_tape.Goals.{in-Ok-None, in-Err+in_ok-push-in-Err}

pub loop-item-init : goal.loop-item-init
loop-item-init g c =
    let start = first_turn g.F.Field.arithmetic g.F.Coordinates.layout g.F.CodedField.bits c.args.pads.now c.args.tape.now c.args.validator in
    record { tape = c.new-reader.ensures.tape; so_far = rw (c.new-reader.ensures.at, c.new-lines.ensures.items) start }

pub loop-item-preserved : goal.loop-item-preserved
loop-item-preserved g c =
    let l = c.loop-item in
    let count : c.len-number.result ≡ length (vec_items l.lines) = c.len-number.ensures ∙ l.lines.ok.0 in
    let found : Path (Result (Option Request) Fault) (Ok (Some (request c.in-Ok-Some.item))) (next_record l.reader.tape.now l.reader.at) = search rules in
    record {
      tape = ap (λ r. r.now) c.next.ensures.tape ∙ l.invariant.tape;
      so_far =
          turn g.F.Field.arithmetic g.F.Coordinates.layout g.F.CodedField.bits c.args.pads.now c.args.tape.now c.args.validator l.reader.at l.validator (vec_items l.lines) l.invariant.so_far
          l.reader.tape.now l.invariant.tape (request c.in-Ok-Some.item) found
          _ c.next.ensures.at _ c.answer.ensures.state _ count _ c.answer.ensures.line _ c.in_ok-push-in-Ok-Some.ensures.items;
    }

pub loop-item-smaller : goal.loop-item-smaller
loop-item-smaller g c =
    let l = c.loop-item in
    let found : Path (Result (Option Request) Fault) (Ok (Some (request c.in-Ok-Some.item))) (next_record l.reader.tape.now l.reader.at) = search rules in
    subst (λ (t : List ℕ). length t - c.next.new.self.at < length t - l.reader.at) l.invariant.tape
    (less_left l.reader.tape.now l.reader.at (request c.in-Ok-Some.item) found _ c.next.ensures.at)

pub returns-clause-lines : goal.returns-clause-lines
returns-clause-lines g c =
    let a = g.F.Field.arithmetic in
    let b = g.F.Coordinates.layout in
    let w = g.F.CodedField.bits in
    let l = c.loop-item in
    let lines = vec_items c.match-next.lines in
    let ls = vec_items l.lines in
    let count : c.len-number.result ≡ length ls = c.len-number.ensures ∙ l.lines.ok.0 in
    let here : next_record l.reader.tape.now l.reader.at ≡ next_record c.args.tape.now l.reader.at = ap (λ (t : List ℕ). next_record t l.reader.at) l.invariant.tape in
    let whole : lines ++ End (length lines) ∷ [] ≡ tape_lines a b w c.args.validator c.args.pads.now c.args.tape.now =
    elim c.match-next.branch [
      | in-Ok-None v ↦
          let found : Path (Result (Option Request) Fault) (Ok None) (next_record l.reader.tape.now l.reader.at) = search rules in
          ended a b w c.args.pads.now c.args.tape.now c.args.validator l.reader.at l.validator ls l.invariant.so_far (sym (found ∙ here)) lines (ap vec_items v.lines-is)
      | in-Err+in_ok-push-in-Err v ↦
          faulted a b w c.args.pads.now c.args.tape.now c.args.validator l.reader.at l.validator ls l.invariant.so_far v.in-Err.fault (sym (v.in-Err.ensures.answer ∙ here)) lines
          (ap vec_items v.lines-is ∙ v.in_ok-push-in-Err.ensures.items ∙ ap (λ (n : ℕ). ls ++ Refused (n + 1) v.in-Err.fault ∷ []) count)
    ] in
    c.in_ok-push.ensures.items ∙ ap (λ (n : ℕ). lines ++ End n ∷ []) (c.len-count.ensures ∙ c.match-next.lines.ok.0) ∙ whole

pub returns-clause-whole : goal.returns-clause-whole
returns-clause-whole g c = records_are_whole c.args.tape.now (Each1-from_get_or (λ n. n < 256) c.args.tape.now 0 (λ i l. (c.type_inv.tape i).fits))
