-- Polynomials of eight coefficients by power of X, with X^8 = 2, modulo q. Assumes nothing: these are definitions.
use Rattle.std.specs.Prelude.{ℕ, zero, suc, ◌+◌, ◌-◌, ◌*◌, ◌%◌, cond, List, [], ◌∷◌, map, ◌==◌, slice_index}
use Rattle.std.specs.Simd.Lanes.{zip2}
use Rattle.std.specs.List.{range_with_len}

-- f 0 + f 1 + .. + f (n - 1)
abbrev pub sum : ℕ → (ℕ → ℕ) → ℕ
sum zero f = 0
sum (suc n) f = sum n f + f n

-- v where i is k, and 0 elsewhere
abbrev pub where_equal : ℕ → ℕ → ℕ → ℕ
where_equal i k v = cond (i == k) v 0

-- the sum of f(i)·h(j) over i + j = k, for i and j below eight
abbrev pub products_at : (ℕ → ℕ) → (ℕ → ℕ) → ℕ → ℕ
products_at f h k = sum 8 (λ i. sum 8 (λ j. where_equal (i + j) k (f i * h j)))

-- Place k of a product: the sum of f(i)·h(j) over i + j = k, plus twice the sum over i + j = k + 8.
abbrev pub place : (ℕ → ℕ) → (ℕ → ℕ) → ℕ → ℕ
place f h k = products_at f h k + 2 * products_at f h (k + 8)

abbrev pub coefficient_of : List ℕ → ℕ → ℕ
coefficient_of xs i = slice_index xs i

-- the eight places of a product, not reduced
abbrev pub places : List ℕ → List ℕ → List ℕ
places f h = map (place (coefficient_of f) (coefficient_of h)) (range_with_len 0 8)

abbrev pub remainders : ℕ → List ℕ → List ℕ
remainders q xs = map (λ n. n % q) xs

abbrev pub polynomial_times : ℕ → List ℕ → List ℕ → List ℕ
polynomial_times q f h = remainders q (places f h)

abbrev pub polynomial_plus : ℕ → List ℕ → List ℕ → List ℕ
polynomial_plus q f h = zip2 (λ a b. (a + b) % q) f h

abbrev pub polynomial_opposite : ℕ → List ℕ → List ℕ
polynomial_opposite q f = map (λ a. (q - a % q) % q) f

-- the polynomial X
abbrev pub polynomial_x : List ℕ
polynomial_x = 0 ∷ 1 ∷ 0 ∷ 0 ∷ 0 ∷ 0 ∷ 0 ∷ 0 ∷ []
