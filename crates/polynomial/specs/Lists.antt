-- Lists of numbers: written out, and facts of each.
use Rattle.std.specs.Prelude.{◌≡◌, ℕ, zero, suc, List, [], ◌∷◌, ◌++◌, map, length, refl}
use Rattle.std.proofs.Common.{sym, subst}
use Rattle.std.specs.Simd.Lanes.{Each1}
use Rattle.std.proofs.lemmas.List.FromFn.{fill_by_all}
use Rattle.std.specs.List.{range_with_len}
use Rattle.polynomial.specs.Product.{coefficient_of}

-- A list of n numbers, n a numeral, is written out: what is shown of the left side by computing holds of the right one.
pub listed : (n : ℕ) (xs : List ℕ) → length xs ≡ n → map (coefficient_of xs) (range_with_len 0 n) ≡ xs
listed n xs l = sym (fill_by_all (coefficient_of xs) xs n 0 l (λ k h. refl))

-- what holds of eight numbers written out holds of each list of eight
pub of_eight : (P : List ℕ → Type 0) → ((a b c d e f g h : ℕ) → P (a ∷ b ∷ c ∷ d ∷ e ∷ f ∷ g ∷ h ∷ [])) → (xs : List ℕ) → length xs ≡ 8 → P xs
of_eight P each xs l = subst P (listed 8 xs l) (each _ _ _ _ _ _ _ _)

pub map_where : (g h : ℕ → ℕ) (P : ℕ → Type 0) → ((n : ℕ) → P n → g n ≡ h n) → (xs : List ℕ) → Each1 P xs → map g xs ≡ map h xs
map_where g h P e [] t = refl
map_where g h P e (x ∷ xs) t = λ i. e x t.0 i ∷ map_where g h P e xs t.1 i

pub each_map : (P Q : ℕ → Type 0) (g : ℕ → ℕ) → ((n : ℕ) → P n → Q (g n)) → (xs : List ℕ) → Each1 P xs → Each1 Q (map g xs)
each_map P Q g h [] t = tt
each_map P Q g h (x ∷ xs) t = (h x t.0, each_map P Q g h xs t.1)

pub each_append : (P : ℕ → Type 0) (xs ys : List ℕ) → Each1 P xs → Each1 P ys → Each1 P (xs ++ ys)
each_append P [] ys a b = b
each_append P (x ∷ xs) ys a b = (a.0, each_append P xs ys a.1 b)

-- past the end a coefficient is 0
pub each_coefficient : (P : ℕ → Type 0) → P 0 → (xs : List ℕ) → Each1 P xs → (i : ℕ) → P (coefficient_of xs i)
each_coefficient P z [] t i = z
each_coefficient P z (x ∷ xs) t zero = t.0
each_coefficient P z (x ∷ xs) t (suc i) = each_coefficient P z xs t.1 i

pub each_of_map : (P : ℕ → Type 0) (g : ℕ → ℕ) → ((n : ℕ) → P (g n)) → (ns : List ℕ) → Each1 P (map g ns)
each_of_map P g h [] = tt
each_of_map P g h (n ∷ ns) = (h n, each_of_map P g h ns)
