-- Bits that are shifted into a byte, one after the other.
use Rattle.std.proofs.Common.{◌≡◌, ℕ, zero, suc, ◌+◌, ◌*◌, ◌%◌, ◌<◌, ◌≤◌, bit_or, ap, refl, ◌∙◌, lt_of_lt_of_le, add-zero, arith, pow_mono}
use native.Mathlib.Nat.{mod-eq_of_lt}
use Rattle.std.specs.Int.Bits.{or_zero_l, or_zero_r}
use Rattle.std.specs.List.{fold, range_with_len}
use Rattle.std.proofs.lemmas.Nat.{or_block}
use Rattle.coding.specs.Bits.{bits_from}
use Rattle.coding.proofs.Regrouping.{bits_lt}

-- a byte, with bit k shifted in
abbrev pub shifted_in : (ℕ → ℕ) → ℕ → ℕ → ℕ
shifted_in f b k = bit_or (b * 2 % 256) (f k)

one_more : (b s : ℕ) → b < 128 → s < 2 → bit_or (b * 2 % 256) s ≡ b * 2 + s
one_more b s h l =
    let e : b * 2 % 256 ≡ b * 2 + 0 = mod-eq_of_lt (omega arith) ∙ omega arith in
    let block : bit_or (b * 2 + 0) (0 * 2 + s) ≡ bit_or b 0 * 2 + bit_or 0 s = or_block 1 b 0 0 s (omega arith) l in
    let z : s ≡ 0 * 2 + s = omega arith in
    rw e (ap (bit_or (b * 2 + 0)) z ∙ rw (or_zero_r b, or_zero_l s) at block)

module _ (f : ℕ → ℕ) (bits : (k : ℕ) → f k < 2) (s : ℕ) where
  folded : (i n t b : ℕ) → s + i ≡ t → i + n ≤ 8 → b ≡ bits_from f s i → fold (shifted_in f) b (range_with_len t n) ≡ bits_from f s (i + n)
  unfolding bits_from
  folded i zero t b at h e = rw add-zero e
  folded i (suc n) t b at h e =
      let seven : i ≤ 7 = omega arith in
      let small : b < 128 = rw e (lt_of_lt_of_le (bits_lt f bits s i) (pow_mono seven)) in
      let more : shifted_in f b t ≡ bits_from f s (suc i) = one_more b (f t) small (bits t) ∙ rw (e, ← at) in
      let over : suc i + n ≡ i + suc n = omega arith in
      folded (suc i) n (t + 1) (shifted_in f b t) (omega arith) (omega arith) more ∙ ap (bits_from f s) over

  pub byte_folded : fold (shifted_in f) 0 (range_with_len s 8) ≡ bits_from f s 8
  unfolding bits_from
  byte_folded = folded 0 8 s 0 (omega arith) (omega arith) refl
