use Rattle.std.proofs.Common.{rules, ◌≡◌, ◌+◌, ◌*◌, refl, arith, ◌∙◌}
use Rattle.std.specs.List.{fold, range_with_len}
use Rattle.std.proofs.lemmas.Fn.{fold_over}
use Rattle.std.proofs.lemmas.List.Sums.{fold_push}
use Rattle.std.proofs.lemmas.Iterator.{YieldsList-from_range}
use Rattle.std.proofs.iter.Yields.{nat_range_steps}
use Rattle.coding.specs.Bits.{bit_at}
use Rattle.coding.proofs.Regrouping.{bit_at_bit}
use Rattle.coding.proofs.Folding.{shifted_in, byte_folded}
use Rattle.coding.proofs.bits.Digits.byte.Goals as goal

pub returns : goal.returns
returns c =
    let f = bit_at c.args.self.width c.args.self.numbers.now in
    let s = 8 * c.args.place in
    let e : c.fold.result ≡ fold (shifted_in f) 0 (range_with_len s 8) =
    fold_over nat_range_steps (λ x. x) _ (λ ys b. b ≡ fold (shifted_in f) 0 ys) _
    (λ ys a x b f' j k. let p = fold_push (shifted_in f) 0 ys x in search rules)
    _ (range_with_len s 8) _ _ (YieldsList-from_range {s = record { start = s; end = s + 8 }} s (s + 8) 8 refl (omega arith)).runs refl c.fold.ensures.ran in
    e ∙ byte_folded f (bit_at_bit c.args.self.width c.args.self.numbers.now) s
