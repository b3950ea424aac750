-- The polynomial basis is a field: its laws are carried over from the tower of three extensions.
use Rattle.std.specs.Prelude.{◌≡◌, ℕ, zero, suc, ◌%◌, ◌<◌, List, [], ◌∷◌, length, set, slice_index_or, slice_set, nat_eq, refl}
use Rattle.std.proofs.Common.{eqb-true, eq-eqb, sym, ap, ◌∙◌, map-id, mod-lt, mod-eq_of_lt, length-set}
use Rattle.std.specs.Cmp.Lexicographic.{pointwise, pointwise_decides}
use Rattle.std.specs.Simd.Lanes.{Each1}
use Rattle.field.specs.Fields.{Laws, EqualByMeaning}
use Rattle.field.specs.Extensions.{Tower, tower}
use Rattle.field.specs.Coordinates.{CoordinateLaws}
use Rattle.field.proofs.UniqueInverses.{tower_laws}
use Rattle.field.proofs.Transport.{transported_laws}
use Rattle.prime.specs.Moduli.{PrimeModulus}
use Rattle.prime.specs.Residues.{residues}
use Rattle.prime.specs.ResidueLaws.{residue_laws, positive}
use Rattle.polynomial.specs.Product.{remainders}
use Rattle.polynomial.specs.Polynomials.{polynomials, polynomial_basis, polynomial_layout, eight_remainders}
use Rattle.polynomial.specs.BitReversal.{bit_reversal_of}
use Rattle.polynomial.specs.Lists.{of_eight, map_where}
use Rattle.polynomial.specs.Reversals.{reversal_carries}

pub eight_of_eight : (q : ℕ) (xs : List ℕ) → length xs ≡ 8 → eight_remainders q xs ≡ remainders q xs
eight_of_eight q = of_eight (λ xs. eight_remainders q xs ≡ remainders q xs) (λ a b c d e f g h. refl)

-- numbers below q are their own remainders
pub own_remainders : (q : ℕ) (xs : List ℕ) → Each1 (λ n. n < q) xs → remainders q xs ≡ xs
own_remainders q xs b = map_where (λ n. n % q) (λ n. n) (λ n. n < q) (λ n h. mod-eq_of_lt h) xs b ∙ map-id xs

pub reversed_remainders : (q : ℕ) (xs : List ℕ) → length xs ≡ 8 → eight_remainders q (bit_reversal_of 3 xs) ≡ bit_reversal_of 3 (eight_remainders q xs)
reversed_remainders q = of_eight (λ xs. eight_remainders q (bit_reversal_of 3 xs) ≡ bit_reversal_of 3 (eight_remainders q xs)) (λ a b c d e f g h. refl)

remainders_set : (q : ℕ) (xs : List ℕ) (k v : ℕ) → remainders q (slice_set xs k v) ≡ slice_set (remainders q xs) k (v % q)
remainders_set q [] k v = refl
remainders_set q (x ∷ xs) zero v = refl
remainders_set q (x ∷ xs) (suc k) v = ap (λ (t : List ℕ). (x % q) ∷ t) (remainders_set q xs k v)

pub eight_set : (q : ℕ) (xs : List ℕ) (k v : ℕ) → length xs ≡ 8 → eight_remainders q (slice_set xs k v) ≡ slice_set (eight_remainders q xs) k (v % q)
eight_set q xs k v l =
    eight_of_eight q (slice_set xs k v) (length-set xs k v ∙ l) ∙ remainders_set q xs k v ∙ ap (λ (t : List ℕ). set t k (v % q)) (sym (eight_of_eight q xs l))

-- eight numbers by power, as the tower has them, and back
abbrev in_tower : List ℕ → Tower ℕ 3
in_tower xs =
    let c : ℕ → ℕ = λ k. slice_index_or xs k 0 in
    (((c 0, c 4), (c 2, c 6)), ((c 1, c 5), (c 3, c 7)))

abbrev by_power : Tower ℕ 3 → List ℕ
by_power v =
    v.0.0.0 ∷ v.1.0.0 ∷ v.0.1.0 ∷ v.1.1.0 ∷ v.0.0.1 ∷ v.1.0.1 ∷ v.0.1.1 ∷ v.1.1.1 ∷ []

module _ {W : Type 0} (q width root : ℕ) (p : PrimeModulus q width root) (kept : W → List ℕ) where
  pub polynomial_laws : ((xs : List ℕ) → (w : W) × (kept w ≡ xs)) → Laws (polynomials q root kept)
  polynomial_laws make =
      transported_laws (tower_laws (residue_laws q width root p (λ n. n) (λ n. (n, refl))) 3) (reversal_carries q root kept) (λ w. in_tower (kept w))
      (λ v. let m = make (by_power v) in (m.0, ap (λ xs. bit_reversal_of 3 ((tower (residues q root (λ n. n)) 3).meaning (in_tower xs))) m.1))
      (λ w. refl)

  below : (n : ℕ) → n % q < q
  below n = mod-lt n (positive q width root p (λ (m : ℕ). m))

  pub polynomial_coordinate_laws : ((xs : List ℕ) → (w : W) × (kept w ≡ xs)) → CoordinateLaws (polynomials q root kept) (polynomial_layout q)
  polynomial_coordinate_laws make = record {
    size_is_count = refl;
    told = λ x. (refl, (below _, (below _, (below _, (below _, (below _, (below _, (below _, (below _, tt)))))))));
    told_back = λ x. refl;
    meant = λ xs c. let m = make xs in ∣ (m.0, ap (eight_remainders q) m.1 ∙ eight_of_eight q xs c.0 ∙ own_remainders q xs c.1) ∣₁;
    meant_back = λ xs c. refl;
    zero_tells_zero = refl;
  }

pub basis_laws : {M : Type 0} {q width root : ℕ} → PrimeModulus q width root → Laws (polynomial_basis {M = M} q root)
basis_laws p = polynomial_laws _ _ _ p (λ x. x.kept) (λ xs. (record { kept = xs; modulus = record {} }, refl))

pub basis_coordinates : {M : Type 0} {q width root : ℕ} → PrimeModulus q width root → CoordinateLaws (polynomial_basis {M = M} q root) (polynomial_layout q)
basis_coordinates p = polynomial_coordinate_laws _ _ _ p (λ x. x.kept) (λ xs. (record { kept = xs; modulus = record {} }, refl))

pub basis_equal_by_meaning : {M : Type 0} (q root : ℕ) → EqualByMeaning (polynomial_basis {M = M} q root) (λ x y. pointwise nat_eq (eight_remainders q x.kept) (eight_remainders q y.kept))
basis_equal_by_meaning q root x y = pointwise_decides (λ m n. (eqb-true m n, eq-eqb m n)) (eight_remainders q x.kept) (eight_remainders q y.kept)
