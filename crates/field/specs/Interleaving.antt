-- Interleaved lists: what stands at even and odd places, and that the two lists come out again.
use Rattle.std.specs.Prelude.{◌≡◌, ℕ, zero, suc, ◌+◌, ◌/◌, ◌%◌, List, [], ◌∷◌, ◌++◌, length, take, drop, set, replicate, ◌≢◌, slice_index, slice_set, refl}
use Rattle.std.proofs.Common.{sym, ap, ◌∙◌, suc-ne-zero, arith}
use Rattle.std.proofs.Math.Nat.{suc_inj}
use Rattle.std.specs.Simd.Lanes.{Each1}
use Rattle.std.proofs.Math.Seq.{take-append_seam, drop-append_seam}
use Rattle.field.specs.Coordinates.{interleaved, evens, odds}

pub front : (n : ℕ) (xs ys : List ℕ) → length xs ≡ n → take n (xs ++ ys) ≡ xs
front n xs ys e = rw (← e) (take-append_seam xs ys)

pub back : (n : ℕ) (xs ys : List ℕ) → length xs ≡ n → drop n (xs ++ ys) ≡ ys
back n xs ys e = rw (← e) (drop-append_seam xs ys)

two_more : (j : ℕ) → suc j + suc j ≡ suc (suc (j + j))
two_more j = omega arith

-- an even number is twice its half, an odd one is one more
pub twice_half : (k : ℕ) → k % 2 ≡ 0 → k ≡ k / 2 + k / 2
twice_half k e = omega arith

pub twice_half_and_one : (k : ℕ) → (k % 2 ≢ 0) → k ≡ suc (k / 2 + k / 2)
twice_half_and_one k e = omega arith

pub length_interleaved : (xs ys : List ℕ) → length xs ≡ length ys → length (interleaved xs ys) ≡ length xs + length ys
length_interleaved [] ys e = omega arith
length_interleaved (x ∷ xs) [] e = absurd (suc-ne-zero (length xs) e)
length_interleaved (x ∷ xs) (y ∷ ys) e = let r = length_interleaved xs ys (suc_inj e) in omega arith

at_even : (xs ys : List ℕ) (j : ℕ) → length xs ≡ length ys → slice_index (interleaved xs ys) (j + j) ≡ slice_index xs j
at_even [] [] j e = refl
at_even [] (y ∷ ys) j e = absurd (suc-ne-zero (length ys) (sym e))
at_even (x ∷ xs) [] j e = absurd (suc-ne-zero (length xs) e)
at_even (x ∷ xs) (y ∷ ys) zero e = refl
at_even (x ∷ xs) (y ∷ ys) (suc j) e = rw two_more (at_even xs ys j (suc_inj e))

at_odd : (xs ys : List ℕ) (j : ℕ) → length xs ≡ length ys → slice_index (interleaved xs ys) (suc (j + j)) ≡ slice_index ys j
at_odd [] [] j e = refl
at_odd [] (y ∷ ys) j e = absurd (suc-ne-zero (length ys) (sym e))
at_odd (x ∷ xs) [] j e = absurd (suc-ne-zero (length xs) e)
at_odd (x ∷ xs) (y ∷ ys) zero e = refl
at_odd (x ∷ xs) (y ∷ ys) (suc j) e = rw two_more (at_odd xs ys j (suc_inj e))

pub even_place : (xs ys : List ℕ) (k : ℕ) → length xs ≡ length ys → k % 2 ≡ 0 → slice_index (interleaved xs ys) k ≡ slice_index xs (k / 2)
even_place xs ys k e h = ap (λ (n : ℕ). slice_index (interleaved xs ys) n) (twice_half k h) ∙ at_even xs ys (k / 2) e

pub odd_place : (xs ys : List ℕ) (k : ℕ) → length xs ≡ length ys → (k % 2 ≢ 0) → slice_index (interleaved xs ys) k ≡ slice_index ys (k / 2)
odd_place xs ys k e h = ap (λ (n : ℕ). slice_index (interleaved xs ys) n) (twice_half_and_one k h) ∙ at_odd xs ys (k / 2) e

set_at_even : (xs ys : List ℕ) (j v : ℕ) → length xs ≡ length ys → interleaved (slice_set xs j v) ys ≡ slice_set (interleaved xs ys) (j + j) v
set_at_even [] [] j v e = refl
set_at_even [] (y ∷ ys) j v e = absurd (suc-ne-zero (length ys) (sym e))
set_at_even (x ∷ xs) [] j v e = absurd (suc-ne-zero (length xs) e)
set_at_even (x ∷ xs) (y ∷ ys) zero v e = refl
set_at_even (x ∷ xs) (y ∷ ys) (suc j) v e = rw two_more (ap (λ (t : List ℕ). x ∷ y ∷ t) (set_at_even xs ys j v (suc_inj e)))

set_at_odd : (xs ys : List ℕ) (j v : ℕ) → length xs ≡ length ys → interleaved xs (slice_set ys j v) ≡ slice_set (interleaved xs ys) (suc (j + j)) v
set_at_odd [] [] j v e = refl
set_at_odd [] (y ∷ ys) j v e = absurd (suc-ne-zero (length ys) (sym e))
set_at_odd (x ∷ xs) [] j v e = absurd (suc-ne-zero (length xs) e)
set_at_odd (x ∷ xs) (y ∷ ys) zero v e = refl
set_at_odd (x ∷ xs) (y ∷ ys) (suc j) v e = rw two_more (ap (λ (t : List ℕ). x ∷ y ∷ t) (set_at_odd xs ys j v (suc_inj e)))

pub set_even_place : (xs ys : List ℕ) (k v : ℕ) → length xs ≡ length ys → k % 2 ≡ 0 → interleaved (slice_set xs (k / 2) v) ys ≡ slice_set (interleaved xs ys) k v
set_even_place xs ys k v e h = set_at_even xs ys (k / 2) v e ∙ ap (λ (n : ℕ). set (interleaved xs ys) n v) (sym (twice_half k h))

pub set_odd_place : (xs ys : List ℕ) (k v : ℕ) → length xs ≡ length ys → (k % 2 ≢ 0) → interleaved xs (slice_set ys (k / 2) v) ≡ slice_set (interleaved xs ys) k v
set_odd_place xs ys k v e h = set_at_odd xs ys (k / 2) v e ∙ ap (λ (n : ℕ). set (interleaved xs ys) n v) (sym (twice_half_and_one k h))

pub each_interleaved : (P : ℕ → Type 0) (xs ys : List ℕ) → Each1 P xs → Each1 P ys → Each1 P (interleaved xs ys)
each_interleaved P [] ys p q = q
each_interleaved P (x ∷ xs) [] p q = p
each_interleaved P (x ∷ xs) (y ∷ ys) p q = (p.0, (q.0, each_interleaved P xs ys p.1 q.1))

pub evens_interleaved : (xs ys : List ℕ) → length xs ≡ length ys → evens (interleaved xs ys) ≡ xs
evens_interleaved [] [] e = refl
evens_interleaved [] (y ∷ ys) e = absurd (suc-ne-zero (length ys) (sym e))
evens_interleaved (x ∷ xs) [] e = absurd (suc-ne-zero (length xs) e)
evens_interleaved (x ∷ xs) (y ∷ ys) e = ap (λ (t : List ℕ). x ∷ t) (evens_interleaved xs ys (suc_inj e))

pub odds_interleaved : (xs ys : List ℕ) → length xs ≡ length ys → odds (interleaved xs ys) ≡ ys
odds_interleaved [] [] e = refl
odds_interleaved [] (y ∷ ys) e = absurd (suc-ne-zero (length ys) (sym e))
odds_interleaved (x ∷ xs) [] e = absurd (suc-ne-zero (length xs) e)
odds_interleaved (x ∷ xs) (y ∷ ys) e = ap (λ (t : List ℕ). y ∷ t) (odds_interleaved xs ys (suc_inj e))

pub halves_interleaved : (n : ℕ) (xs : List ℕ) → length xs ≡ n + n → interleaved (evens xs) (odds xs) ≡ xs
halves_interleaved zero [] e = refl
halves_interleaved zero (x ∷ xs) e = absurd (suc-ne-zero (length xs) e)
halves_interleaved (suc n) [] e = absurd (suc-ne-zero (n + suc n) (sym (e ∙ omega arith)))
halves_interleaved (suc n) (x ∷ []) e = let never : ⊥ = omega arith in absurd never
halves_interleaved (suc n) (x ∷ y ∷ zs) e = ap (λ (t : List ℕ). x ∷ y ∷ t) (halves_interleaved n zs (omega arith))

pub halves_length : (n : ℕ) (xs : List ℕ) → length xs ≡ n + n → (length (evens xs) ≡ n) × (length (odds xs) ≡ n)
halves_length zero [] e = (refl, refl)
halves_length zero (x ∷ xs) e = absurd (suc-ne-zero (length xs) e)
halves_length (suc n) [] e = let never : ⊥ = omega arith in absurd never
halves_length (suc n) (x ∷ []) e = let never : ⊥ = omega arith in absurd never
halves_length (suc n) (x ∷ y ∷ zs) e = let r = halves_length n zs (omega arith) in (ap suc r.0, ap suc r.1)

pub each_evens : (P : ℕ → Type 0) (xs : List ℕ) → Each1 P xs → Each1 P (evens xs)
each_evens P [] p = tt
each_evens P (x ∷ []) p = p
each_evens P (x ∷ y ∷ zs) p = (p.0, each_evens P zs p.1.1)

pub each_odds : (P : ℕ → Type 0) (xs : List ℕ) → Each1 P xs → Each1 P (odds xs)
each_odds P [] p = tt
each_odds P (x ∷ []) p = tt
each_odds P (x ∷ y ∷ zs) p = (p.1.0, each_odds P zs p.1.1)

pub interleaved_replicate : (n v : ℕ) → interleaved (replicate n v) (replicate n v) ≡ replicate (n + n) v
interleaved_replicate zero v = refl
interleaved_replicate (suc n) v = rw two_more (ap (λ (t : List ℕ). v ∷ v ∷ t) (interleaved_replicate n v))
