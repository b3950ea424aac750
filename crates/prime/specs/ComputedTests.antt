-- Tests that are computed over all numbers below a bound, or over all entries of a table, and what they show of each.
use Rattle.std.specs.Prelude.{Bool, true, false, ◌&&◌, List, [], ◌∷◌, ℕ, zero, suc, ◌+◌, ◌<◌, T, length, get_or}
use Rattle.std.proofs.Common.{sym, subst, ◌∙◌, inl, inr, add-zero, zero-add, add-suc, suc-add, le_of_suc-le-suc, not-suc-le-zero, eq-or-lt_of_le}

pub both_left : (a b : Bool) → T (a && b) → T a
both_left true b t = tt
both_left false b t = t

pub both_right : (a b : Bool) → T (a && b) → T b
both_right true b t = t
both_right false b t = absurd t

-- the test passes at each number below n
abbrev pub each_below : (ℕ → Bool) → ℕ → Bool
each_below f zero = true
each_below f (suc k) = f k && each_below f k

pub passed_below : (f : ℕ → Bool) (n : ℕ) → T (each_below f n) → (k : ℕ) → k < n → T (f k)
passed_below f zero t k h = absurd (not-suc-le-zero h)
passed_below f (suc n) t k h =
    elim (eq-or-lt_of_le (le_of_suc-le-suc h)) [
      | inl e ↦ subst (λ (m : ℕ). T (f m)) (sym e) (both_left _ _ t)
      | inr l ↦ passed_below f n (both_right _ _ t) k l
    ]

-- the test passes at each entry of the table and its place, counted from i
abbrev pub each_entry : (ℕ → ℕ → Bool) → ℕ → List ℕ → Bool
each_entry f i [] = true
each_entry f i (x ∷ xs) = f i x && each_entry f (suc i) xs

from : (f : ℕ → ℕ → Bool) (xs : List ℕ) (i : ℕ) → T (each_entry f i xs) → (k : ℕ) → k < length xs → T (f (i + k) (get_or xs k 0))
from f [] i t k h = absurd (not-suc-le-zero h)
from f (x ∷ xs) i t zero h = subst (λ (m : ℕ). T (f m x)) (sym (add-zero i)) (both_left _ _ t)
from f (x ∷ xs) i t (suc k) h =
    subst (λ (m : ℕ). T (f m (get_or xs k 0))) (suc-add i k ∙ sym (add-suc i k))
    (from f xs (suc i) (both_right _ _ t) k (le_of_suc-le-suc h))

pub passed_entry : (f : ℕ → ℕ → Bool) (xs : List ℕ) → T (each_entry f 0 xs) → (k : ℕ) → k < length xs → T (f k (get_or xs k 0))
passed_entry f xs t k h = subst (λ (m : ℕ). T (f m (get_or xs k 0))) (zero-add k) (from f xs 0 t k h)
