-- Encoding and decoding undo each other, and a block is known by its groups of bits.
use Rattle.std.proofs.Common.{◌≡◌, ℕ, zero, suc, ◌+◌, ◌-◌, ◌*◌, ◌^◌, ◌<◌, ◌≤◌, Bool, true, false, cond, List, [], ◌∷◌, length, get_or, Ok, Err, Result, sym, refl, ap, ◌∙◌, lt_of_lt_of_le, mul_comm, arith}
use lib.Lanes.{Each1}
use Rattle.std.proofs.lemmas.Bool.{eqb-true, eq-eqb, lt-ltb}
use Rattle.std.proofs.lemmas.Simd.{Each1-get_or, Each1-from_get_or}
use Rattle.fault.specs.declared.Fault.{Fault}
use Rattle.fault.specs.declared.Part.{Part}
use Rattle.fault.specs.Faults.{fault}
use Rattle.field.specs.Coordinates.{Layout, Coefficients, below_before, coefficients}
use Rattle.coding.specs.Bits.{bit_at, regrouped}
use Rattle.coding.specs.Encoding.{Limits, encoded_size_of, block_size_of, encoded, standing, padding, decoded, block_coefficients}
use Rattle.coding.proofs.Regrouping.{bit_at_bit, bit_at_past, bits_lt, bits_none, none_of_bits, length_regrouped, getD_regrouped, regrouped_bit, regrouped_back}

-- every number of the list is below q
abbrev pub Below : ℕ → List ℕ → Type 0
Below q xs = (i : ℕ) → i < length xs → get_or xs i 0 < q

pub each_below : (q : ℕ) (xs : List ℕ) → Each1 (λ n. n < q) xs → Below q xs
each_below q xs t i h = Each1-get_or (λ n. n < q) xs i 0 h t

all_below : (q : ℕ) (xs : List ℕ) → Each1 (λ n. n < q) xs → below_before q xs ≡ length xs
all_below q [] t = refl
all_below q (x ∷ xs) t = rw (lt-ltb x q t.0, all_below q xs t.1) (omega arith)

-- a list of coefficients is taken as it is
pub coefficients_taken : (l : Layout) (xs : List ℕ) → Coefficients l xs → coefficients l xs ≡ Ok xs
coefficients_taken l xs c = rw (eq-eqb _ _ c.0, eq-eqb _ _ (all_below l.modulus xs c.1))

chosen : {A : Type 0} (b : Bool) (x : Result A Fault) (e : Fault) (a : A) → cond b x (Err e) ≡ Ok a → (b ≡ true) × (x ≡ Ok a)
chosen true x e a h = (refl, h)
chosen false x e a h = absurd cc

same_given : {A : Type 0} (x y : A) → ◌≡◌ {A = Result A Fault} (Ok x) (Ok y) → x ≡ y
same_given x y h = cc

module _ (l : Layout) (w : ℕ) (part : Part) (bytes : List ℕ) where
  abbrev c : ℕ
  c = l.count

  abbrev q : ℕ
  q = l.modulus

  module _ (whole : length bytes ≡ encoded_size_of w l.count) where
    pub decoded_right : below_before l.modulus (standing w l.count bytes) ≡ l.count → padding w l.count bytes ≡ 0 → decoded l w part bytes ≡ Ok (standing w l.count bytes)
    decoded_right e n = rw (eq-eqb _ _ whole, eq-eqb _ _ e, eq-eqb _ _ n)

  -- what decoding tested, where it gave coefficients
  pub decoded_tested : (xs : List ℕ) → decoded l w part bytes ≡ Ok xs → (length bytes ≡ encoded_size_of w l.count) × (below_before l.modulus (standing w l.count bytes) ≡ l.count) × (padding w l.count bytes ≡ 0) × (standing w l.count bytes ≡ xs)
  decoded_tested xs ok =
      let one = chosen _ _ (fault 3 part 0) xs ok in
      let two = chosen _ _ (fault 1 part (below_before q (standing w c bytes))) xs one.1 in
      let three = chosen _ _ (fault 4 part 0) xs two.1 in
      (eqb-true _ _ one.0, eqb-true _ _ two.0, eqb-true _ _ three.0, same_given (standing w c bytes) xs three.1)

module _ (l : Layout) (w : ℕ) (limits : Limits l w) where
  pub width_positive : 1 < w
  width_positive = go w limits.room_for_length
    where
      go : (v : ℕ) → 16 ≤ l.count * (v - 1) → 1 < v
      go zero h = let never : ⊥ = omega (arith, native.Mathlib.Nat.mul-zero l.count) in absurd never
      go (suc zero) h = let never : ⊥ = omega (arith, native.Mathlib.Nat.mul-zero l.count) in absurd never
      go (suc (suc v)) h = omega arith

  -- what is encoded is decoded, and as what it was
  pub encoded_decodes : (part : Part) (xs : List ℕ) → Coefficients l xs → decoded l w part (encoded w l.count xs) ≡ Ok xs
  encoded_decodes part xs k =
      let c = l.count in
      let p8 : 0 < 8 = omega arith in
      let wide = width_positive in
      let pw : 0 < w = omega arith in
      let ys = encoded w c xs in
      let n = encoded_size_of w c in
      let room : w * c ≤ 8 * n = rw (mul_comm w c) (omega arith) in
      let small : (j : ℕ) → j < c → get_or xs j 0 < 2 ^ w = λ j h. lt_of_lt_of_le (each_below l.modulus xs k.1 j (rw k.0 h)) limits.modulus_to in
      let back : standing w c ys ≡ xs = regrouped_back w 8 pw p8 n c xs k.0 small (λ k h i. absurd (omega arith)) in
      let rest : padding w c ys ≡ 0 =
      bits_none (bit_at 8 ys) (c * w) (8 * n - c * w)
      (λ j h. regrouped_bit w 8 n xs p8 (c * w + j) (omega arith) ∙ bit_at_past w pw xs (c * w + j) (rw k.0 (omega arith))) in
      decoded_right l w part ys (length_regrouped w 8 n xs) (ap (below_before l.modulus) back ∙ all_below l.modulus xs k.1 ∙ k.0) rest
      ∙ ap Ok back

  -- what is decoded, encoded again, is what it was
  pub decoded_encodes : (part : Part) (bytes xs : List ℕ) → Below 256 bytes → decoded l w part bytes ≡ Ok xs → encoded w l.count xs ≡ bytes
  decoded_encodes part bytes xs below ok =
      let c = l.count in
      let p8 : 0 < 8 = omega arith in
      let wide = width_positive in
      let pw : 0 < w = omega arith in
      let n = encoded_size_of w c in
      let tested = decoded_tested l w part bytes xs ok in
      let long : length bytes ≡ n = tested.0 in
      let none : padding w c bytes ≡ 0 = tested.2 in
      ap (encoded w c) (sym tested.3)
      ∙ regrouped_back 8 w p8 pw c n bytes long (λ j h. below j (omega arith))
      (λ k h i. let g : c * w ≤ k = rw (mul_comm c w) h in
      let e : c * w + (k - c * w) ≡ k = omega arith in
      ap (bit_at 8 bytes) (sym e) ∙ none_of_bits (bit_at 8 bytes) (bit_at_bit 8 bytes) (c * w) (8 * n - c * w) (k - c * w) none (omega arith))

  -- a block's groups of bits are coefficients
  pub block_is_coefficients : (bytes : List ℕ) → Coefficients l (block_coefficients w l.count bytes)
  block_is_coefficients bytes =
      let c = l.count in
      let long : length (block_coefficients w c bytes) ≡ c = length_regrouped 8 (w - 1) c bytes in (
        long,
        Each1-from_get_or (λ n. n < l.modulus) (block_coefficients w c bytes) 0
            (λ i h. rw (getD_regrouped 8 (w - 1) c bytes i (rw long at h)) (lt_of_lt_of_le (bits_lt (bit_at 8 bytes) (bit_at_bit 8 bytes) ((w - 1) * i) (w - 1)) limits.modulus_from)),
      )

  -- two blocks of n bytes, n at most B, with the same coefficients are the same block
  pub blocks_apart : (n : ℕ) (a b : List ℕ) → n ≤ block_size_of w l.count → length a ≡ n → length b ≡ n → Below 256 a → Below 256 b → block_coefficients w l.count a ≡ block_coefficients w l.count b → a ≡ b
  blocks_apart n a b short la lb sa sb same =
      let c = l.count in
      let p8 : 0 < 8 = omega arith in
      let wide = width_positive in
      let pu : 0 < w - 1 = omega arith in
      let r : 8 * n ≤ (w - 1) * c = rw (mul_comm (w - 1) c) (omega arith) in
      let back : (x : List ℕ) → length x ≡ n → Below 256 x → regrouped (w - 1) 8 n (block_coefficients w c x) ≡ x =
      λ x e s. regrouped_back 8 (w - 1) p8 pu c n x e (λ j h. s j (omega arith)) (λ k h i. absurd (omega arith)) in
      sym (back a la sa) ∙ ap (regrouped (w - 1) 8 n) same ∙ back b lb sb
