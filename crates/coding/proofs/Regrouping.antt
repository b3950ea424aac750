-- Bits read as numbers, and lists of numbers cut anew.
use Rattle.std.proofs.Common.{◌≡◌, ℕ, zero, suc, ◌+◌, ◌-◌, ◌*◌, ◌/◌, ◌%◌, ◌^◌, ◌<◌, ◌≤◌, List, length, get_or, sym, refl, ap, ◌∙◌, ap₂, ⊎_elim, le_refl, add-zero, add_assoc, add-suc, mod-lt, mul_assoc, mul_comm, div-lt_iff_lt-mul, add-mul, pow-suc, le-div_iff_mul-le, zero-add, mul-one, div-one, arith, shr-shr}
use native.Mathlib.Nat.{pow-zero, div-eq_of_lt, zero-div, zero-mod, div-add-mod, sub_self, sub-zero}
use Rattle.std.proofs.lemmas.Bool.{cases_lt}
use lib.Pow.{high, low}
use Rattle.std.proofs.lemmas.List.{ext_get_or, get_or_past}
use Rattle.std.proofs.lemmas.List.FromFn.{fill_by_all, length-map-range_with_len, get_or-map-range_with_len}
use Rattle.std.proofs.lemmas.Nat.{div-mul-add, mod-mul-add, mul-add-lt}
use Rattle.coding.specs.Bits.{bit_at, bits_from, regrouped}

pub bit_at_bit : (v : ℕ) (xs : List ℕ) (k : ℕ) → bit_at v xs k < 2
unfolding bit_at
bit_at_bit v xs k = mod-lt _ (omega arith)

pub bits_lt : (f : ℕ → ℕ) → ((k : ℕ) → f k < 2) → (s n : ℕ) → bits_from f s n < 2 ^ n
unfolding bits_from
bits_lt f b s zero = omega (arith, pow-zero 2)
bits_lt f b s (suc n) = omega (arith, pow-suc 2 n, bits_lt f b s n, b (s + n))

pub bits_split : (f : ℕ → ℕ) (s a n : ℕ) → bits_from f s (a + n) ≡ bits_from f s a * 2 ^ n + bits_from f (s + a) n
unfolding bits_from
bits_split f s a zero = rw (add-zero, pow-zero, mul-one) (omega arith)
bits_split f s a (suc n) =
    rw (add-suc, bits_split f s a n, pow-suc, add_assoc, ← mul_assoc) (omega (arith, add-mul (bits_from f s a * 2 ^ n) (bits_from f (s + a) n) 2))

pub bits_same : (f g : ℕ → ℕ) (s t n : ℕ) → ((k : ℕ) → k < n → f (s + k) ≡ g (t + k)) → bits_from f s n ≡ bits_from g t n
unfolding bits_from
bits_same f g s t zero h = refl
bits_same f g s t (suc n) h = ap₂ (λ x y. x * 2 + y) (bits_same f g s t n (λ k l. h k (omega arith))) (h n (omega arith))

-- n bits from place a on, of a run of bits of a + n + t
pub bits_field : (f : ℕ → ℕ) → ((k : ℕ) → f k < 2) → (s a n t : ℕ) → bits_from f s (a + n + t) / 2 ^ t % 2 ^ n ≡ bits_from f (s + a) n
bits_field f b s a n t =
    rw (bits_split f s (a + n) t, high (bits_from f s (a + n)) t (bits_lt f b (s + (a + n)) t), bits_split f s a n, low (bits_from f s a) n (bits_lt f b (s + a) n))

-- one bit of a run of bits
pub bits_bit : (f : ℕ → ℕ) → ((k : ℕ) → f k < 2) → (s n k : ℕ) → k < n → bits_from f s n / 2 ^ (n - 1 - k) % 2 ≡ f (s + k)
unfolding bits_from
bits_bit f b s n k h =
    let e : k + 1 + (n - 1 - k) ≡ n = omega arith in
    let p : bits_from f s (k + 1 + (n - 1 - k)) / 2 ^ (n - 1 - k) % 2 ^ 1 ≡ bits_from f (s + k) 1 = bits_field f b s k 1 (n - 1 - k) in
    rw e at p ∙ rw add-zero (omega arith)

-- the first n bits of a number of v bits
pub bits_number : (x v n : ℕ) → x < 2 ^ v → n ≤ v → bits_from (λ k. x / 2 ^ (v - 1 - k) % 2) 0 n ≡ x / 2 ^ (v - n)
unfolding bits_from
bits_number x v zero h l = rw sub-zero (sym (div-eq_of_lt h))
bits_number x v (suc n) h l =
    let e : v - n ≡ (v - suc n) + 1 = omega arith in
    let i : v - 1 - (0 + n) ≡ v - suc n = omega arith in
    let q : x / 2 ^ (v - suc n) / 2 ^ 1 ≡ x / 2 ^ (v - n) = shr-shr x (v - suc n) 1 ∙ ap (λ y. x / 2 ^ y) (sym e) in
    rw (bits_number x v n h (omega arith), ← q, i) (omega arith)

module _ (v : ℕ) (pos : 0 < v) where
  pub bit_at_in : (xs : List ℕ) (j k : ℕ) → k < v → bit_at v xs (v * j + k) ≡ get_or xs j 0 / 2 ^ (v - 1 - k) % 2
  unfolding bit_at
  bit_at_in xs j k h = rw (mul_comm v j, div-mul-add j v k h, mod-mul-add j v k h)

  pub bit_at_past : (xs : List ℕ) (k : ℕ) → length xs * v ≤ k → bit_at v xs k ≡ 0
  unfolding bit_at
  bit_at_past xs k h = rw (get_or_past xs (k / v) 0 ((le-div_iff_mul-le pos).1 h), zero-div, zero-mod)

  -- a whole number of the row
  pub bits_unit : (xs : List ℕ) (j : ℕ) → get_or xs j 0 < 2 ^ v → bits_from (bit_at v xs) (v * j) v ≡ get_or xs j 0
  bits_unit xs j h =
      let x = get_or xs j 0 in
      bits_same (bit_at v xs) (λ k. x / 2 ^ (v - 1 - k) % 2) (v * j) 0 v (λ k l. bit_at_in xs j k l ∙ ap (λ i. x / 2 ^ (v - 1 - i) % 2) (sym (zero-add k)))
      ∙ bits_number x v v h (le_refl v) ∙ rw (sub_self, pow-zero, div-one)

module _ (v u n : ℕ) (xs : List ℕ) where
  pub length_regrouped : length (regrouped v u n xs) ≡ n
  unfolding regrouped
  length_regrouped = length-map-range_with_len (λ j. bits_from (bit_at v xs) (u * j) u) 0 n

  pub getD_regrouped : (j : ℕ) → j < n → get_or (regrouped v u n xs) j 0 ≡ bits_from (bit_at v xs) (u * j) u
  unfolding regrouped
  getD_regrouped j h = get_or-map-range_with_len (λ j. bits_from (bit_at v xs) (u * j) u) 0 n j j 0 h (zero-add j)

  -- a row cut anew has the bits that it had
  pub regrouped_bit : 0 < u → (k : ℕ) → k < u * n → bit_at u (regrouped v u n xs) k ≡ bit_at v xs k
  unfolding bit_at
  regrouped_bit pu k h =
      let j : k / u < n = (div-lt_iff_lt-mul pu).1 (rw mul_comm at h) in
      rw (getD_regrouped (k / u) j)
      (bits_bit (bit_at v xs) (bit_at_bit v xs) (u * (k / u)) u (k % u) (mod-lt k pu) ∙ ap (bit_at v xs) (div-add-mod k u))

-- a list that has the number at each place is the row cut anew
pub is_regrouped : (v u : ℕ) (xs ys : List ℕ) (n : ℕ) → length ys ≡ n → ((k : ℕ) → k < n → get_or ys k 0 ≡ bits_from (bit_at v xs) (u * k) u) → ys ≡ regrouped v u n xs
unfolding regrouped
is_regrouped v u xs ys n long each = fill_by_all (λ k. bits_from (bit_at v xs) (u * k) u) ys n 0 long each

-- cut anew and back again: nothing is lost where the bits that are left out are 0
module _ (v u : ℕ) (pv : 0 < v) (pu : 0 < u) (n m : ℕ) (xs : List ℕ) where
  pub regrouped_back : length xs ≡ m → ((j : ℕ) → j < m → get_or xs j 0 < 2 ^ v) → ((k : ℕ) → u * n ≤ k → k < v * m → bit_at v xs k ≡ 0) → regrouped u v m (regrouped v u n xs) ≡ xs
  regrouped_back len small rest =
      let ys = regrouped v u n xs in
      let lys : length ys ≡ n = length_regrouped v u n xs in
      let bit : (k : ℕ) → k < v * m → bit_at u ys k ≡ bit_at v xs k =
      λ k h. ⊎_elim (regrouped_bit v u n xs pu k) (λ l. bit_at_past u pu ys k (rw (lys, mul_comm n u) l) ∙ sym (rest k l h)) (cases_lt k (u * n)) in
      let lzs : length (regrouped u v m ys) ≡ m = length_regrouped u v m ys in
      ext_get_or 0 (regrouped u v m ys) xs (lzs ∙ sym len)
      (λ j h. let hj : j < m = rw lzs at h in
      getD_regrouped u v m ys j hj
      ∙ bits_same (bit_at u ys) (bit_at v xs) (v * j) (v * j) v (λ k l. bit (v * j + k) (omega (arith, mul-add-lt j v k m hj l, mul_comm v j, mul_comm v m)))
      ∙ bits_unit v pv xs j (small j hj))

pub bits_none : (f : ℕ → ℕ) (s n : ℕ) → ((k : ℕ) → k < n → f (s + k) ≡ 0) → bits_from f s n ≡ 0
unfolding bits_from
bits_none f s zero h = refl
bits_none f s (suc n) h = rw (bits_none f s n (λ k l. h k (omega arith)), h n (omega arith))

pub none_of_bits : (f : ℕ → ℕ) → ((k : ℕ) → f k < 2) → (s n k : ℕ) → bits_from f s n ≡ 0 → k < n → f (s + k) ≡ 0
none_of_bits f b s n k e l = sym (bits_bit f b s n k l) ∙ rw (e, zero-div, zero-mod)
