-- Folds at a pseudo-Mersenne modulus: what they leave by it, how small they are, and how lanes compute them.
use Rattle.std.proofs.Common.{◌≡◌, ℕ, ◌+◌, ◌-◌, ◌*◌, ◌/◌, ◌%◌, ◌^◌, ◌<◌, ◌≤◌, List, map, length, replicate, sym, refl, ap, ◌∙◌, subst, map-id, mod-eq_of_lt, mul_comm, add-mul, mul-add, arith, pow_mono, lit<, w16, w32, Fits}
use mathlib.Core.List.{map-map}
use native.Mathlib.Nat.{add-mul-mod_self_left}
use lib.Bits.{bit_and}
use lib.Lanes.{zip2, Each1}
use Rattle.std.proofs.lemmas.Simd.{below_from_Fits}
use Rattle.std.proofs.lemmas.Nat.{mul-le, and_mask, div-add-mod', mod_below, pow-add, pow_pos}
use Rattle.polynomial.specs.declared.lanes.PseudoMersenne.{PseudoMersenne}
use Rattle.polynomial.specs.Folds.{folded}
use Rattle.polynomial.specs.Product.{remainders}
use Rattle.polynomial.specs.Lists.{listed, map_where, each_map}
use Rattle.polynomial.specs.Polynomials.{eight_remainders}
use Rattle.polynomial.specs.PolynomialLaws.{eight_of_eight}
use Rattle.polynomial.proofs.Remainders.{remainders_same}

module _ (p : PseudoMersenne) where
  -- the parts of a number at bit w
  parts : (v n : ℕ) → v ≤ p.bits → (n / 2 ^ p.bits * 2 ^ v ≤ n) × (n % 2 ^ p.bits < 4096) × (2 ^ p.bits ≤ 4096)
  parts v n l =
      let a : 2 ^ v ≤ 2 ^ p.bits = pow_mono l in
      let b : 2 ^ p.bits ≤ 4096 = pow_mono p.to in
      let e = div-add-mod' n (2 ^ p.bits) in
      let m = mul-le (n / 2 ^ p.bits) (2 ^ v) (n / 2 ^ p.bits) (2 ^ p.bits) (omega arith) a in
      let r = mod_below n (2 ^ p.bits) (pow_pos p.bits) in
      (omega arith, omega arith, b)

  -- the high part is taken times q + 3, and so the same by q as three times
  split : (n : ℕ) → n ≡ folded p.bits n + p.q * (n / 2 ^ p.bits)
  split n =
      let h = n / 2 ^ p.bits in
      let d = div-add-mod' n (2 ^ p.bits) in
      let m : h * 2 ^ p.bits ≡ p.q * h + h * 3 = ap (λ (t : ℕ). h * t) p.power ∙ mul-add h p.q 3 ∙ ap (λ (t : ℕ). t + h * 3) (mul_comm h p.q) in
      omega arith

  pub folded_same : (xs : List ℕ) → remainders p.q (map (folded p.bits) xs) ≡ remainders p.q xs
  folded_same xs =
      remainders_same p.q (folded p.bits) (λ n. n) (λ n. sym (ap (λ (t : ℕ). t % p.q) (split n) ∙ add-mul-mod_self_left (folded p.bits n) p.q (n / 2 ^ p.bits))) xs
      ∙ ap (remainders p.q) (map-id xs)

  -- ---- how small: one fold of 16 bits; of 32 bits two from width 10 on, and four below

  fold_below : (n : ℕ) → 64 * folded p.bits n ≤ 3 * n + 262144
  fold_below n = let s = parts 6 n p.from in omega (arith, s.0, s.1)

  pub folded_small : (xs : List ℕ) → Each1 (λ n. n < 65536) xs → Each1 (λ n. n < 8192) (map (folded p.bits) xs)
  folded_small = each_map (λ n. n < 65536) (λ n. n < 8192) (folded p.bits) (λ n s. omega (arith, fold_below n))

  two_below : 10 ≤ p.bits → (n : ℕ) → n < 4294967296 → folded p.bits (folded p.bits n) < 65536
  two_below l n s =
      let a = parts 10 n l in
      let b = parts 10 (folded p.bits n) l in
      let t : folded p.bits n < 12587008 = omega (arith, a.0, a.1) in
      omega (arith, b.0, b.1)

  -- one fold and one more
  abbrev refolded : List ℕ → List ℕ
  refolded xs = map (folded p.bits) (map (folded p.bits) xs)

  refolded_each : (P Q : ℕ → Type 0) → ((n : ℕ) → P n → Q (folded p.bits (folded p.bits n))) → (xs : List ℕ) → Each1 P xs → Each1 Q (refolded xs)
  refolded_each P Q h xs t = subst (Each1 Q) (sym (map-map (folded p.bits) (folded p.bits) xs)) (each_map P Q (λ n. folded p.bits (folded p.bits n)) h xs t)

  pub two_fit : 10 ≤ p.bits → (xs : List ℕ) → Each1 (Fits w32) xs → Each1 (Fits w16) (refolded xs)
  two_fit l = refolded_each (Fits w32) (Fits w16) (λ n t. record { fits = two_below l n t.fits })

  pub four_fit : (xs : List ℕ) → Each1 (Fits w32) xs → Each1 (Fits w16) (refolded (refolded xs))
  four_fit xs t =
      refolded_each (λ n. n < 9441473) (Fits w16) (λ n s. record { fits = omega (arith, fold_below n, fold_below (folded p.bits n)) }) (refolded xs)
      (refolded_each (Fits w32) (λ n. n < 9441473) (λ n t. let s = t.fits in omega (arith, fold_below n, fold_below (folded p.bits n))) xs t)

  -- ---- how lanes compute a fold

  module _ (W : ℕ) where
    -- a lane of a fold, as it is computed where numbers wrap at W
    abbrev lane : ℕ → ℕ
    lane n = (((n / 2 ^ p.bits + n / 2 ^ p.bits) % W + n / 2 ^ p.bits) % W + bit_and n ((1 * 2 ^ p.bits) % W - 1)) % W

    lane_is : 4096 < W → (n : ℕ) → n < W → lane n ≡ folded p.bits n
    lane_is wide n s =
        let t = parts 6 n p.from in
        let h = n / 2 ^ p.bits in
        let d = div-add-mod' n (2 ^ p.bits) in
        let big : 2 ^ p.bits < W = omega (arith, t.2) in
        let room : h * 3 + n % 2 ^ p.bits < W = omega (arith, mul-le h 64 h (2 ^ p.bits) (omega arith) (pow_mono p.from)) in
        let a : (h + h) % W ≡ h + h = mod-eq_of_lt (omega arith) in
        let b : ((h + h) % W + h) % W ≡ h + h + h = ap (λ (t : ℕ). (t + h) % W) a ∙ mod-eq_of_lt (omega arith) in
        let o : 1 * 2 ^ p.bits ≡ 2 ^ p.bits = omega arith in
        let k : (1 * 2 ^ p.bits) % W ≡ 2 ^ p.bits = ap (λ (t : ℕ). t % W) o ∙ mod-eq_of_lt big in
        let m : bit_and n ((1 * 2 ^ p.bits) % W - 1) ≡ n % 2 ^ p.bits = ap (λ (t : ℕ). bit_and n (t - 1)) k ∙ and_mask n p.bits in
        ap (λ (t : ℕ). (t + bit_and n ((1 * 2 ^ p.bits) % W - 1)) % W) b ∙ ap (λ (t : ℕ). (h + h + h + t) % W) m ∙ mod-eq_of_lt (omega arith) ∙ omega arith

    abbrev add : List ℕ → List ℕ → List ℕ
    add = zip2 (λ a b. (a + b) % W)

    abbrev shifted : List ℕ → List ℕ
    shifted xs = zip2 (λ a b. a / 2 ^ b) xs (replicate 8 p.bits)

    abbrev lanes : List ℕ → List ℕ
    lanes xs = add (add (add (shifted xs) (shifted xs)) (shifted xs)) (zip2 bit_and xs (replicate 8 ((1 * 2 ^ p.bits) % W - 1)))

    pub lanes_are : 4096 < W → (xs : List ℕ) → length xs ≡ 8 → Each1 (λ n. n < W) xs → lanes xs ≡ map (folded p.bits) xs
    lanes_are wide xs l s = subst (λ (t : List ℕ). lanes t ≡ map lane t) (listed 8 xs l) refl ∙ map_where lane (folded p.bits) (λ n. n < W) (lane_is wide) xs s

  -- the same by a product, in lanes of 16 bits
  abbrev by_product : ℕ → ℕ
  by_product n = (n + (65536 - (n / 2 ^ p.bits * p.q) % 65536)) % 65536

  by_product_is : (n : ℕ) → n < 65536 → by_product n ≡ folded p.bits n
  by_product_is n s = let e = split n in let m = mul_comm (n / 2 ^ p.bits) p.q in omega arith

  abbrev lanes_by_product : List ℕ → List ℕ
  lanes_by_product xs = zip2 (λ a b. (a + (65536 - b)) % 65536) xs (zip2 (λ a b. (a * b) % 65536) (zip2 (λ a b. a / 2 ^ b) xs (replicate 8 p.bits)) (replicate 8 p.q))

  pub lanes_by_product_are : (xs : List ℕ) → length xs ≡ 8 → Each1 (λ n. n < 65536) xs → lanes_by_product xs ≡ map (folded p.bits) xs
  lanes_by_product_are xs l s = subst (λ (t : List ℕ). lanes_by_product t ≡ map by_product t) (listed 8 xs l) refl ∙ map_where by_product (folded p.bits) (λ n. n < 65536) by_product_is xs s

  -- ---- a fold of eight lanes of 16 bits, as they compute it: the same by q, and small

  abbrev Folded : List ℕ → List ℕ → Type 0
  Folded xs ys = (remainders p.q ys ≡ eight_remainders p.q xs) × Each1 (λ n. n < 8192) ys

  folded_once : (xs ys : List ℕ) → length xs ≡ 8 → Each1 (λ n. n < 65536) xs → ys ≡ map (folded p.bits) xs → Folded xs ys
  folded_once xs ys l s e = rw e (folded_same xs ∙ sym (eight_of_eight p.q xs l), folded_small xs s)

  module _ (xs : List ℕ) (l : length xs ≡ 8) (fits : Each1 (Fits w16) xs) where
    pub fold_by_lanes : Folded xs (lanes 65536 xs)
    fold_by_lanes = let s = below_from_Fits w16 xs fits in folded_once xs _ l s (lanes_are 65536 (lit< tt) xs l s)

    pub fold_by_product : Folded xs (lanes_by_product xs)
    fold_by_product = let s = below_from_Fits w16 xs fits in folded_once xs _ l s (lanes_by_product_are xs l s)

  -- ---- the multiple of q that an opposite is taken from

  pub multiple_is : ((p.q * 2 ^ (15 - p.bits)) % 65536 ≡ p.q * 2 ^ (15 - p.bits)) × (8192 ≤ p.q * 2 ^ (15 - p.bits)) × (p.q * 2 ^ (15 - p.bits) < 65536)
  multiple_is =
      let t = 2 ^ (15 - p.bits) in
      let few : 15 - p.bits ≤ 9 = omega arith in
      let small : t ≤ 512 = pow_mono few in
      let fifteen : p.bits + (15 - p.bits) ≡ 15 = omega arith in
      let all : p.q * t + 3 * t ≡ 32768 = sym (add-mul p.q 3 t) ∙ ap (λ (m : ℕ). m * t) (sym p.power) ∙ sym (pow-add 2 p.bits (15 - p.bits)) ∙ ap (λ (m : ℕ). 2 ^ m) fifteen in
      let room : p.q * t < 65536 = omega arith in
      (mod-eq_of_lt room, omega arith, room)
