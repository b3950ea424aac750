-- The lines of reports, over the calls before each.
use Rattle.std.proofs.Common.{◌≡◌, ℕ, zero, suc, ◌+◌, ◌<◌, List, [], ◌∷◌, ◌++◌, map, length, get_or, take, Ok, Err, Result, sym, refl, ap, ◌∙◌, subst, ap₂, append_assoc, append-nil, arith}
use mathlib.Core.Path.{Path}
use Rattle.std.specs.Result.{IfOk, OnOk}
use Rattle.std.proofs.lemmas.List.{length-map, get_or_append_left, get_or-map, take-map}
use Rattle.fault.specs.declared.Fault.{Fault}
use Rattle.field.specs.Fields.{Arithmetic}
use Rattle.field.specs.Coordinates.{Layout}
use Rattle.tape.specs.Records.{Request, cancel, report, next_record, Fits, EachFits}
use Rattle.validator.specs.declared.Validator.{Validator}
use Rattle.validator.specs.Calls as calls
use Rattle.validator.specs.Calls.{Call, blank, check_answer, after_check, after_cancel, cancel_answer, ticket_number_of, after}
use Rattle.validator.specs.Shifts as shifts
use Rattle.validator.specs.Shifts.{Reached, begun, called}
use Rattle.validator.proofs.Rides.{reached_rides}
use Rattle.playback.specs.declared.lines.Line.{Line}
use Rattle.playback.specs.declared.lines.Line.TheVariants.{Rides, End}
use Rattle.playback.specs.Inputs.{Parts, Begun}
use Rattle.playback.specs.Lines.{records, reading_end, call, report_line, closing, line_of, call_lines, tape_lines, of_meanings, started_lines, shift_lines, RecordsAreWhole, Played, PlaysTheWholeTape}

-- a record of those that fit does
fits_at : (rs : List Request) (i : ℕ) → i < length rs → EachFits rs → Fits (get_or rs i (cancel 0))
fits_at [] i m h = absurd (omega arith)
fits_at (r ∷ rs) zero m h = h.0
fits_at (r ∷ rs) (suc i) m h = fits_at rs i (omega arith) h.1

module _ {V : Type 0} (a : Arithmetic V) (l : Layout) (w : ℕ) where
  lines_as_many : (n : ℕ) (v : Validator V) (cs : List Call) → length (call_lines a l w n v cs) ≡ length cs
  unfolding call_lines
  lines_as_many n v [] = refl
  lines_as_many n v (c ∷ cs) = ap suc (lines_as_many (suc n) (after a l w v c) cs)

  -- the lines of reports among calls that follow those of a history
  report_lines : (k : V) (h : List Call) (v : Validator V) → Reached a l w k h v → (n : ℕ) (cs : List Call) (i r : ℕ) → i < length cs → get_or cs i (calls.cancel 0) ≡ calls.report r → r < 64
      → (c : ℕ) × (get_or (call_lines a l w n v cs) i (End 0) ≡ Rides (suc (n + i)) c) × shifts.Rides a l w k (h ++ take i cs) r c
  unfolding call_lines
  report_lines k h v reached n [] i r m q small = absurd (omega arith)
  report_lines k h v reached n (c ∷ cs) zero r m q small =
      let (count, answer, rides) = reached_rides a l w k v r h reached small in
      let number : suc n ≡ suc (n + 0) = omega arith in (
        count,
        ap (line_of a l w (suc n) v) q ∙ ap (report_line (suc n)) answer ∙ ap (λ (x : ℕ). Rides x count) number,
        subst (λ (xs : List Call). shifts.Rides a l w k xs r count) (sym (append-nil h)) rides,
      )
  report_lines k h v reached n (c ∷ cs) (suc i) r m q small =
      let (count, line, rides) = report_lines k (h ++ c ∷ []) (after a l w v c) (called c reached) (suc n) cs i r (omega arith) q small in
      let number : suc (suc n + i) ≡ suc (n + suc i) = omega arith in (
        count,
        line ∙ ap (λ (x : ℕ). Rides x count) number,
        subst (λ (xs : List Call). shifts.Rides a l w k xs r count) (append_assoc h (c ∷ []) (take i cs)) rides,
      )

module _ {V : Type 0} (a : Arithmetic V) (l : Layout) (w : ℕ) where
  -- A validator and the same with the meaning of its key answer alike.
  abbrev pub meant : Validator V → Validator (List ℕ)
  meant v = record { key = a.meaning v.key; marks = v.marks; counts = v.counts }

  meant_line : (n : ℕ) (v : Validator V) (c : Call) → line_of a l w n v c ≡ line_of (of_meanings a) l w n (meant v) c
  meant_line n v (calls.check t p) = refl
  meant_line n v (calls.cancel m) = refl
  meant_line n v (calls.report r) = refl

  meant_after : (v : Validator V) (c : Call) → meant (after a l w v c) ≡ after (of_meanings a) l w (meant v) c
  meant_after v (calls.check t p) = go (check_answer a l w v t p)
    where
      go : (x : Result ℕ Fault) → meant (after_check v (ticket_number_of a l w t) x) ≡ after_check (meant v) (ticket_number_of (of_meanings a) l w t) x
      go (Ok route) = refl
      go (Err f) = refl
  meant_after v (calls.cancel m) = go (cancel_answer v m)
    where
      go : (x : Result _ Fault) → meant (after_cancel v m x) ≡ after_cancel (meant v) m x
      go (Ok mark) = refl
      go (Err f) = refl
  meant_after v (calls.report r) = refl

  meant_lines : (n : ℕ) (v : Validator V) (cs : List Call) → call_lines a l w n v cs ≡ call_lines (of_meanings a) l w n (meant v) cs
  unfolding call_lines
  meant_lines n v [] = refl
  meant_lines n v (c ∷ cs) =
      ap₂ ◌∷◌ (meant_line (suc n) v c) (meant_lines (suc n) (after a l w v c) cs ∙ ap (λ u. call_lines (of_meanings a) l w (suc n) u cs) (meant_after v c))

  -- the lines of a tape, by the meaning of the key
  lines_by_meaning : (v : Validator V) (pads tape : List ℕ) → v ≡ blank v.key → tape_lines a l w v pads tape ≡ tape_lines (of_meanings a) l w (blank (a.meaning v.key)) pads tape
  lines_by_meaning v pads tape e =
      ap (λ xs. xs ++ closing (length (records tape)) (next_record tape (reading_end tape)))
      (meant_lines 0 v (map (call pads) (records tape)) ∙ ap (λ u. call_lines (of_meanings a) l w 0 (meant u) (map (call pads) (records tape))) e)

  module _ (p : Parts) (whole : RecordsAreWhole p.tape) where
    abbrev asked : List Call
    asked = map (call p.pads) (records p.tape)

    abbrev lines : List Line
    lines = call_lines (of_meanings a) l w 0 (blank p.key) asked

    report_line_of : (i r : ℕ) → i < length (records p.tape) → get_or (records p.tape) i (cancel 0) ≡ report r
        → (c : ℕ) × (get_or (tape_lines (of_meanings a) l w (blank p.key) p.pads p.tape) i (End 0) ≡ Rides (suc i) c) × shifts.Rides (of_meanings a) l w p.key (map (call p.pads) (take i (records p.tape))) r c
    report_line_of i r m q =
        let small : r < 64 = subst Fits q (fits_at (records p.tape) i m whole.held.0) in
        let many : length asked ≡ length (records p.tape) = length-map (records p.tape) (call p.pads) in
        let as_many = lines_as_many (of_meanings a) l w 0 (blank p.key) asked in
        let here : get_or asked i (calls.cancel 0) ≡ calls.report r = get_or-map (call p.pads) (records p.tape) i (cancel 0) (calls.cancel 0) m ∙ ap (call p.pads) q in
        let (c, line, rides) = report_lines (of_meanings a) l w p.key [] (blank p.key) begun 0 asked i r (omega arith) here small in
        let number : suc (0 + i) ≡ suc i = omega arith in (
          c,
          get_or_append_left lines _ (End 0) i (omega arith) ∙ line ∙ ap (λ (x : ℕ). Rides x c) number,
          subst (λ (xs : List Call). shifts.Rides (of_meanings a) l w p.key xs r c) (take-map (call p.pads) i (records p.tape)) rides,
        )

    played : Played a l w p (tape_lines (of_meanings a) l w (blank p.key) p.pads p.tape)
    played = record { whole = whole; reports = report_line_of }

  -- the lines of a shift that has begun, where there was memory for them
  module _ (input : List ℕ) (v : Validator V) (pads tape : List ℕ) (begun : Begun a l w input v pads tape) where
    lines_of_shift : (ls : List Line) → ls ≡ tape_lines a l w v pads tape → ls ≡ shift_lines a l w input
    lines_of_shift ls e = e ∙ lines_by_meaning v pads tape begun.0 ∙ sym (ap (started_lines a l w) begun.1)

    whole_of_shift : (ls : List Line) → ls ≡ tape_lines a l w v pads tape → RecordsAreWhole tape → PlaysTheWholeTape a l w input ls
    whole_of_shift ls e whole p q =
        let parts : Parts = record { key = a.meaning v.key; pads = pads; tape = tape } in
        let same : parts ≡ p = (let r : Path (Result Parts Fault) (Ok parts) (Ok p) = sym begun.1 ∙ q in cc) in
        subst (λ x. Played a l w x ls) same (subst (Played a l w parts) (sym (e ∙ lines_by_meaning v pads tape begun.0)) (played parts whole))

    pub shift_played : {X E : Type 0} (items : X → List Line) (r : Result X E) → IfOk r (λ x. items x ≡ tape_lines a l w v pads tape) → OnOk r (RecordsAreWhole tape)
        → IfOk r (λ x. items x ≡ shift_lines a l w input) × IfOk r (λ x. PlaysTheWholeTape a l w input (items x))
    shift_played items (Ok x) e whole = (lines_of_shift (items x) e, whole_of_shift (items x) e whole)
    shift_played items (Err y) e whole = (tt, tt)
