-- Which layouts by a prime modulus keep the limits of a coded field.
use Rattle.std.specs.Prelude.{◌≡◌, ℕ, ◌+◌, ◌-◌, ◌*◌, ◌^◌, ◌≤◌}
use Rattle.std.proofs.Common.{sym, ap, ◌∙◌, arith, pow_mono, pow-add}
use Rattle.prime.specs.Moduli.{PrimeModulus}
use Rattle.field.specs.Coordinates.{Layout}
use Rattle.coding.specs.Encoding.{Limits}

module _ (l : Layout) (q w root : ℕ) (p : PrimeModulus q w root) (by : l.modulus ≡ q) where
  -- so many coefficients as leave room for a body's length
  enough : l.count ≤ 64 → 16 ≤ l.count * (w - 1) → Limits l w
  enough few room =
      let low = p.width_from in
      let high = p.width_to in
      let three = p.three_below_a_power in
      let one_less : 1 + (w - 1) ≡ w = omega arith in
      let half : 2 ^ w ≡ 2 ^ 1 * 2 ^ (w - 1) = ap (λ (n : ℕ). 2 ^ n) (sym one_less) ∙ pow-add 2 1 (w - 1) in
      let five : 5 ≤ w - 1 = omega arith in
      let large : 32 ≤ 2 ^ (w - 1) = pow_mono five in
      record { modulus_from = omega arith; modulus_to = omega arith; width_to = omega arith; count_to = few; room_for_length = room }

  -- two coefficients need nine bits or more
  pub two_coefficients : 9 ≤ w → l.count ≡ 2 → Limits l w
  two_coefficients wide two = enough (omega arith) (rw two (omega arith))

  -- eight keep the limits by every modulus
  pub eight_coefficients : l.count ≡ 8 → Limits l w
  eight_coefficients eight = let low = p.width_from in enough (omega arith) (rw eight (omega arith))
