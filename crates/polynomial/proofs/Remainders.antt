-- What numbers and polynomials leave by q: the operations depend on their arguments' remainders alone.
use Rattle.std.proofs.Common.{◌≡◌, ℕ, zero, suc, ◌+◌, ◌-◌, ◌*◌, ◌/◌, ◌%◌, ◌<◌, ◌≤◌, Bool, true, false, cond, eqb, List, [], ◌∷◌, map, length, replicate, sym, refl, ap, ◌∙◌, mod-eq_of_lt, zero-mul, mul-add, suc-ne-zero, arith}
use native.Mathlib.Nat.{mod-mod, mod-add-mod, add-mod-mod, div-add-mod, add-mul-mod_self_left, lt_of_mul-lt-mul_left, suc_inj}
use lib.Lanes.{Each1, zip2}
use Rattle.std.specs.List.{range_with_len}
use Rattle.std.proofs.lemmas.Nat.{mod_below}
use Rattle.std.proofs.lemmas.Nat.{mul-mod_first, mul-mod_second}
use Rattle.polynomial.specs.Product.{sum, products_at, place, coefficient_of, places, remainders, polynomial_times, polynomial_plus, polynomial_opposite}

module _ (q : ℕ) where
  -- a and b leave the same
  abbrev Like : ℕ → ℕ → Type 0
  Like a b = a % q ≡ b % q

  like_plus : (a b c d : ℕ) → Like a b → Like c d → Like (a + c) (b + d)
  like_plus a b c d p r =
      sym (mod-add-mod a q c) ∙ ap (λ (t : ℕ). (t + c) % q) p ∙ mod-add-mod b q c ∙ sym (add-mod-mod b c q) ∙ ap (λ (t : ℕ). (b + t) % q) r ∙ add-mod-mod b d q

  like_times : (a b c d : ℕ) → Like a b → Like c d → Like (a * c) (b * d)
  like_times a b c d p r =
      sym (mul-mod_first a c q) ∙ ap (λ (t : ℕ). (t * c) % q) p ∙ mul-mod_first b c q ∙ sym (mul-mod_second b c q) ∙ ap (λ (t : ℕ). (b * t) % q) r ∙ mul-mod_second b d q

  like_sum : (n : ℕ) (f g : ℕ → ℕ) → ((i : ℕ) → Like (f i) (g i)) → Like (sum n f) (sum n g)
  like_sum zero f g h = refl
  like_sum (suc n) f g h = like_plus (sum n f) (sum n g) (f n) (g n) (like_sum n f g h) (h n)

  like_where : (b : Bool) (v u : ℕ) → Like v u → Like (cond b v 0) (cond b u 0)
  like_where true v u h = h
  like_where false v u h = refl

  module _ (f g h k : ℕ → ℕ) (p : (i : ℕ) → Like (f i) (g i)) (r : (i : ℕ) → Like (h i) (k i)) where
    like_products : (n : ℕ) → Like (products_at f h n) (products_at g k n)
    like_products n = like_sum 8 _ _ (λ i. like_sum 8 _ _ (λ j. like_where (eqb (i + j) n) _ _ (like_times (f i) (g i) (h j) (k j) (p i) (r j))))

    like_place : (n : ℕ) → Like (place f h n) (place g k n)
    like_place n = like_plus _ _ _ _ (like_products n) (like_times 2 2 _ _ refl (like_products (n + 8)))

  like_coefficient : (xs : List ℕ) (i : ℕ) → Like (coefficient_of (remainders q xs) i) (coefficient_of xs i)
  like_coefficient [] i = refl
  like_coefficient (x ∷ xs) zero = mod-mod x q
  like_coefficient (x ∷ xs) (suc i) = like_coefficient xs i

  pub remainders_same : (g h : ℕ → ℕ) → ((n : ℕ) → Like (g n) (h n)) → (xs : List ℕ) → remainders q (map g xs) ≡ remainders q (map h xs)
  remainders_same g h e [] = refl
  remainders_same g h e (x ∷ xs) = λ i. e x i ∷ remainders_same g h e xs i

  pub times_remainders : (f h : List ℕ) → polynomial_times q (remainders q f) (remainders q h) ≡ remainders q (places f h)
  times_remainders f h = remainders_same _ _ (like_place _ _ _ _ (like_coefficient f) (like_coefficient h)) (range_with_len 0 8)

  pub times_remainders_right : (f h : List ℕ) → polynomial_times q f (remainders q h) ≡ remainders q (places f h)
  times_remainders_right f h = remainders_same _ _ (like_place (coefficient_of f) _ _ _ (λ i. refl) (like_coefficient h)) (range_with_len 0 8)

  -- in lanes that wrap at W, where no sum comes there
  pub plus_remainders : (W B : ℕ) → B + B ≤ W → (xs ys : List ℕ) → Each1 (λ n. n < B) xs → Each1 (λ n. n < B) ys
      → remainders q (zip2 (λ a b. (a + b) % W) xs ys) ≡ polynomial_plus q (remainders q xs) (remainders q ys)
  plus_remainders W B room [] ys a b = refl
  plus_remainders W B room (x ∷ xs) [] a b = refl
  plus_remainders W B room (x ∷ xs) (y ∷ ys) a b =
      let s : x < B = a.0 in
      let t : y < B = b.0 in
      let whole : (x + y) % W ≡ x + y = mod-eq_of_lt (omega arith) in
      let e : ((x + y) % W) % q ≡ (x % q + y % q) % q = ap (λ (n : ℕ). n % q) whole ∙ sym (like_plus (x % q) x (y % q) y (mod-mod x q) (mod-mod y q)) in
      λ i. e i ∷ plus_remainders W B room xs ys a.1 b.1 i

  -- n taken from a multiple of q that is larger, in a lane of 16 bits
  opposite_like : (t n : ℕ) → n < q * t → q * t < 65536 → ((q * t + (65536 - n)) % 65536) % q ≡ (q - n % q % q) % q
  opposite_like t n less room =
      let k = n / q in
      let d = t - k - 1 in
      let parts : q * k + n % q ≡ n = div-add-mod n q in
      let more : k < t = lt_of_mul-lt-mul_left q (omega arith) in
      let t_is : t ≡ k + (1 + d) = omega arith in
      let split : q * t ≡ q * k + (q * 1 + q * d) = ap (λ (m : ℕ). q * m) t_is ∙ mul-add q k (1 + d) ∙ ap (λ (m : ℕ). q * k + m) (mul-add q 1 d) in
      let below : n % q < q = mod_below n q (pos t n less) in
      let rest : (q * t + (65536 - n)) % 65536 ≡ q - n % q + q * d = omega arith in
      ap (λ (m : ℕ). m % q) rest ∙ add-mul-mod_self_left (q - n % q) q d ∙ ap (λ (m : ℕ). (q - m) % q) (sym (mod-mod n q))
    where
      pos : (t n : ℕ) → n < q * t → 0 < q
      pos t n less = elim q as (λ m. n < m * t → 0 < m) [ zero ↦ λ h. omega (arith, zero-mul t) | suc m ↦ λ h. omega arith ] less

  pub opposite_remainders : (t k : ℕ) (xs : List ℕ) → length xs ≡ k → 8192 ≤ q * t → q * t < 65536 → Each1 (λ n. n < 8192) xs
      → remainders q (zip2 (λ a b. (a + (65536 - b)) % 65536) (replicate k (q * t)) xs) ≡ polynomial_opposite q (remainders q xs)
  opposite_remainders t zero [] l big room b = refl
  opposite_remainders t (suc k) [] l big room b = refl
  opposite_remainders t zero (x ∷ xs) l big room b = absurd (suc-ne-zero (length xs) l)
  opposite_remainders t (suc k) (x ∷ xs) l big room b =
      let s : x < 8192 = b.0 in
      λ i. opposite_like t x (omega arith) room i ∷ opposite_remainders t k xs (suc_inj l) big room b.1 i
