-- The lanes of the product: sums of products that do not wrap, and each sum the place that it stands at.
use Rattle.std.proofs.Common.{◌≡◌, ℕ, suc, ◌+◌, ◌*◌, ◌%◌, ◌<◌, List, [], ◌∷◌, ◌++◌, map, length, replicate, ◌∙◌, subst, ap₂, mod-eq_of_lt, mul-add, arith, lit<}
use lib.Bits.{bit_and}
use lib.Lanes.{zip2, Each1, pick_l, products, pair_sums}
use Rattle.std.proofs.lemmas.Nat.{mul-lt, and_mask}
use Rattle.std.proofs.lemmas.Simd.{Each1-weaker}
use Rattle.std.specs.List.{range_with_len}
use Rattle.polynomial.specs.Product.{places, place, coefficient_of, polynomial_x}
use Rattle.polynomial.specs.Lists.{listed, each_append, each_coefficient, each_of_map}

abbrev pub W : ℕ
W = 4294967296

-- what a fold leaves
abbrev Small : ℕ → Type 0
Small n = n < 8192

-- that or its double: eight products of two such are below W
abbrev Factor : ℕ → Type 0
Factor n = n < 16384

-- so that four such have a sum below W
abbrev pub Quarter : ℕ → Type 0
Quarter n = n < 1073741824

abbrev add16 : List ℕ → List ℕ → List ℕ
add16 = zip2 (λ a b. (a + b) % 65536)

abbrev pub add32 : List ℕ → List ℕ → List ℕ
add32 = zip2 (λ a b. (a + b) % W)

product_below : (a b : ℕ) → Factor a → Factor b → a * b < 268435456
product_below a b p r = mul-lt a b 16384 16384 p r

-- ---- pairs of products

-- as lanes compute them: masked, multiplied, and the even ones added to the odd
abbrev masks : List ℕ → List ℕ
masks xs = zip2 bit_and (map (λ n. n) xs) (replicate 16 32767)

abbrev multiplied : List ℕ → List ℕ → List ℕ
multiplied a b = zip2 (λ a b. (a * b) % W) (masks a) (masks b)

abbrev evens : List ℕ
evens = 0 ∷ 2 ∷ 4 ∷ 6 ∷ 8 ∷ 10 ∷ 12 ∷ 14 ∷ []

abbrev odds : List ℕ
odds = 1 ∷ 3 ∷ 5 ∷ 7 ∷ 9 ∷ 11 ∷ 13 ∷ 15 ∷ []

abbrev pairs : List ℕ → List ℕ → List ℕ
pairs a b = add32 (pick_l 0 (multiplied a b ++ multiplied a b) evens) (pick_l 0 (multiplied a b ++ multiplied a b) odds)

kept : (n : ℕ) → Factor n → bit_and n 32767 ≡ n
kept n h = and_mask n 15 ∙ mod-eq_of_lt (omega arith)

abbrev product : ℕ → ℕ → ℕ
product a b = (bit_and a 32767 * bit_and b 32767) % W

product_is : (a b : ℕ) → Factor a → Factor b → product a b ≡ a * b
product_is a b p r = ap₂ (λ (s t : ℕ). (s * t) % W) (kept a p) (kept b r) ∙ mod-eq_of_lt (omega (arith, product_below a b p r))

module _ (f g : ℕ → ℕ) (bf : (i : ℕ) → Factor (f i)) (bg : (i : ℕ) → Factor (g i)) where
  pair_is : (k : ℕ) → (product (f k) (g k) + product (f (suc k)) (g (suc k))) % W ≡ f k * g k + f (suc k) * g (suc k)
  pair_is k =
      let j = suc k in
      ap₂ (λ (s t : ℕ). (s + t) % W) (product_is (f k) (g k) (bf k) (bg k)) (product_is (f j) (g j) (bf j) (bg j))
      ∙ mod-eq_of_lt (omega (arith, product_below (f k) (g k) (bf k) (bg k), product_below (f j) (g j) (bf j) (bg j)))

  pairs_listed : pairs (map f (range_with_len 0 16)) (map g (range_with_len 0 16)) ≡ pair_sums (products (map f (range_with_len 0 16)) (map g (range_with_len 0 16)))
  pairs_listed = λ i. pair_is 0 i ∷ pair_is 2 i ∷ pair_is 4 i ∷ pair_is 6 i ∷ pair_is 8 i ∷ pair_is 10 i ∷ pair_is 12 i ∷ pair_is 14 i ∷ []

pub pairs_are : (a b : List ℕ) → length a ≡ 16 → length b ≡ 16 → Each1 Factor a → Each1 Factor b → pairs a b ≡ pair_sums (products a b)
pairs_are a b la lb fa fb =
    let f = each_coefficient Factor (lit< tt) a fa in
    let g = each_coefficient Factor (lit< tt) b fb in
    let P : List ℕ → List ℕ → Type 0 = λ a b. pairs a b ≡ pair_sums (products a b) in
    subst (λ (t : List ℕ). P t b) (listed 16 a la) (subst (P (map (coefficient_of a) (range_with_len 0 16))) (listed 16 b lb) (pairs_listed (coefficient_of a) (coefficient_of b) f g))

-- ---- the sum of four pairs at each place

doubled_factors : (h : List ℕ) → Each1 Small h → Each1 Factor (add16 h h)
doubled_factors [] t = tt
doubled_factors (x ∷ xs) t = (let s : x < 8192 = t.0 in omega arith, doubled_factors xs t.1)

factors : (h : List ℕ) → Each1 Small h → Each1 Factor h
factors = Each1-weaker Small Factor (λ n s. omega arith)

-- the lanes of the two factors in a pair
abbrev alternating : ℕ → List ℕ
alternating i = i ∷ (i + 1) ∷ i ∷ (i + 1) ∷ i ∷ (i + 1) ∷ i ∷ (i + 1) ∷ i ∷ (i + 1) ∷ i ∷ (i + 1) ∷ i ∷ (i + 1) ∷ i ∷ (i + 1) ∷ []

abbrev falling : ℕ → List ℕ
falling m = (m + 1) ∷ m ∷ (m + 2) ∷ (m + 1) ∷ (m + 3) ∷ (m + 2) ∷ (m + 4) ∷ (m + 3) ∷ (m + 5) ∷ (m + 4) ∷ (m + 6) ∷ (m + 5) ∷ (m + 7) ∷ (m + 6) ∷ (m + 8) ∷ (m + 7) ∷ []

-- At lane k, x(i)·h(k - i) + x(i + 1)·h(k - i - 1), with m = 7 - i: where the index of h is negative, 8 is added to it and h doubled.
abbrev pair_row : ℕ → ℕ → List ℕ → List ℕ → List ℕ
pair_row i m x h = pair_sums (products (pick_l 0 (x ++ x) (alternating i)) (pick_l 0 (add16 h h ++ h) (falling m)))

picked : (xs : List ℕ) → Each1 Factor xs → (ks : List ℕ) → Each1 Factor (pick_l 0 xs ks)
picked xs t ks = each_of_map Factor (coefficient_of xs) (each_coefficient Factor (lit< tt) xs t) ks

extended_factors : (h : List ℕ) → Each1 Small h → Each1 Factor (add16 h h ++ h)
extended_factors h t = each_append Factor (add16 h h) h (doubled_factors h t) (factors h t)

-- what each sum of pairs requires
pub pair_factors : (x h : List ℕ) → Each1 Small x → Each1 Small h → (i m : ℕ)
    → Each1 Factor (pick_l 0 (x ++ x) (alternating i)) × Each1 Factor (pick_l 0 (add16 h h ++ h) (falling m))
pair_factors x h a b i m = (picked (x ++ x) (each_append Factor x x (factors x a) (factors x a)) (alternating i), picked (add16 h h ++ h) (extended_factors h b) (falling m))

module _ (f e : ℕ → ℕ) where
  abbrev two : ℕ → ℕ → ℕ
  two i j = f i * e (j + 1) + f (i + 1) * e j

  -- the four pairs at place k: as they are added in lanes, and their sum
  abbrev wrapped : ℕ → ℕ
  wrapped k = ((two 0 (k + 7) + two 2 (k + 5)) % W + (two 4 (k + 3) + two 6 (k + 1)) % W) % W

  abbrev whole : ℕ → ℕ
  whole k = two 0 (k + 7) + two 2 (k + 5) + (two 4 (k + 3) + two 6 (k + 1))

  module _ (bf : (i : ℕ) → Factor (f i)) (be : (i : ℕ) → Factor (e i)) where
    two_below : (i j : ℕ) → two i j < 536870912
    two_below i j = omega (arith, product_below (f i) (e (j + 1)) (bf i) (be (j + 1)), product_below (f (i + 1)) (e j) (bf (i + 1)) (be j))

    wrapped_is : (k : ℕ) → wrapped k ≡ whole k
    wrapped_is k =
        let a = two_below 0 (k + 7) in
        let b = two_below 2 (k + 5) in
        let c = two_below 4 (k + 3) in
        let d = two_below 6 (k + 1) in
        ap₂ (λ (s t : ℕ). (s + t) % W) (mod-eq_of_lt (omega arith)) (mod-eq_of_lt (omega arith)) ∙ mod-eq_of_lt (omega arith)

  module _ (bf : (i : ℕ) → Small (f i)) (be : (i : ℕ) → Factor (e i)) where
    small_product : (i j : ℕ) → f i * e j < 134217728
    small_product i j = mul-lt (f i) (e j) 8192 16384 (bf i) (be j)

    small_two : (i j : ℕ) → two i j < 268435456
    small_two i j = omega (arith, small_product i (j + 1), small_product (i + 1) j)

    whole_below : (k : ℕ) → Quarter (whole k)
    whole_below k = omega (arith, small_two 0 (k + 7), small_two 2 (k + 5), small_two 4 (k + 3), small_two 6 (k + 1))

abbrev eight : (ℕ → ℕ) → List ℕ
eight f = map f (range_with_len 0 8)

eight_same : (g h : ℕ → ℕ) → g 0 ≡ h 0 → g 1 ≡ h 1 → g 2 ≡ h 2 → g 3 ≡ h 3 → g 4 ≡ h 4 → g 5 ≡ h 5 → g 6 ≡ h 6 → g 7 ≡ h 7 → eight g ≡ eight h
eight_same g h e0 e1 e2 e3 e4 e5 e6 e7 = λ i. e0 i ∷ e1 i ∷ e2 i ∷ e3 i ∷ e4 i ∷ e5 i ∷ e6 i ∷ e7 i ∷ []

abbrev sums : List ℕ → List ℕ → List ℕ
sums x h = add32 (add32 (pair_row 0 7 x h) (pair_row 2 5 x h)) (add32 (pair_row 4 3 x h) (pair_row 6 1 x h))

module _ (f h : ℕ → ℕ) (bf : (i : ℕ) → Small (f i)) (bh : (i : ℕ) → Small (h i)) where
  abbrev extended : ℕ → ℕ
  extended = coefficient_of (add16 (eight h) (eight h) ++ eight h)

  extended_below : (i : ℕ) → Factor (extended i)
  extended_below = each_coefficient Factor (lit< tt) (add16 (eight h) (eight h) ++ eight h) (extended_factors (eight h) (each_of_map Small h bh (range_with_len 0 8)))

  sum_at : (k : ℕ) → wrapped f extended k ≡ whole f extended k
  sum_at = wrapped_is f extended (λ i. let b = bf i in omega arith) extended_below

  double : (i : ℕ) → (h i + h i) % 65536 ≡ h i + h i
  double i = let b = bh i in mod-eq_of_lt (omega arith)

  whole_listed : eight (whole f extended) ≡ places (eight f) (eight h)
  whole_listed =
      eight_same (whole f extended) (place f h) (simp (double, mul-add) (omega arith)) (simp (double, mul-add) (omega arith)) (simp (double, mul-add) (omega arith)) (simp (double, mul-add) (omega arith)) (simp (double, mul-add) (omega arith)) (simp (double, mul-add) (omega arith)) (simp (double, mul-add) (omega arith)) (omega arith)

  sums_listed : sums (eight f) (eight h) ≡ places (eight f) (eight h)
  sums_listed = (λ i. map (λ k. sum_at k i) (range_with_len 0 8)) ∙ whole_listed

  small_listed : Each1 Quarter (places (eight f) (eight h))
  small_listed = subst (Each1 Quarter) whole_listed (each_of_map Quarter (whole f extended) (whole_below f extended bf extended_below) (range_with_len 0 8))

pub sums_are : (x h : List ℕ) → length x ≡ 8 → length h ≡ 8 → Each1 Small x → Each1 Small h → sums x h ≡ places x h
sums_are x h lx lh bx bh =
    let P : List ℕ → List ℕ → Type 0 = λ x h. sums x h ≡ places x h in
    subst (λ (t : List ℕ). P t h) (listed 8 x lx)
    (subst (P (eight (coefficient_of x))) (listed 8 h lh) (sums_listed (coefficient_of x) (coefficient_of h) (each_coefficient Small (lit< tt) x bx) (each_coefficient Small (lit< tt) h bh)))

pub sums_small : (x h : List ℕ) → length x ≡ 8 → length h ≡ 8 → Each1 Small x → Each1 Small h → Each1 Quarter (places x h)
sums_small x h lx lh bx bh =
    let P : List ℕ → List ℕ → Type 0 = λ x h. Each1 Quarter (places x h) in
    subst (λ (t : List ℕ). P t h) (listed 8 x lx)
    (subst (P (eight (coefficient_of x))) (listed 8 h lh) (small_listed (coefficient_of x) (coefficient_of h) (each_coefficient Small (lit< tt) x bx) (each_coefficient Small (lit< tt) h bh)))

-- two sums of products added
pub pair_small : (xs ys : List ℕ) → Each1 Quarter xs → Each1 Quarter ys → Each1 (λ n. n < 2147483648) (add32 xs ys)
pair_small [] ys a b = tt
pair_small (x ∷ xs) [] a b = tt
pair_small (x ∷ xs) (y ∷ ys) a b = (let s : x < 1073741824 = a.0 in let t : y < 1073741824 = b.0 in omega arith, pair_small xs ys a.1 b.1)

-- ---- the product by X: each lane one place on, and the last one, doubled, at the first place

abbrev pub moved : List ℕ → List ℕ
moved x = pick_l 0 (x ++ add16 x x) (15 ∷ 0 ∷ 1 ∷ 2 ∷ 3 ∷ 4 ∷ 5 ∷ 6 ∷ [])

moved_listed : (f : ℕ → ℕ) → Small (f 7) → moved (eight f) ≡ places polynomial_x (eight f)
moved_listed f b =
    eight_same (coefficient_of (moved (eight f))) (place (coefficient_of polynomial_x) f) (mod-eq_of_lt (omega arith) ∙ omega arith) (omega arith) (omega arith) (omega arith) (omega arith) (omega arith) (omega arith) (omega arith)

pub moved_is : (x : List ℕ) → length x ≡ 8 → Each1 Small x → moved x ≡ places polynomial_x x
moved_is x l b = subst (λ (t : List ℕ). moved t ≡ places polynomial_x t) (listed 8 x l) (moved_listed (coefficient_of x) (each_coefficient Small (lit< tt) x b 7))
