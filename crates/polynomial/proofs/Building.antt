-- Eight numbers below the modulus, taken as the coefficients of a value.
use Rattle.std.proofs.Common.{◌≡◌, ℕ, ◌+◌, ◌<◌, not, cond, ltb, leb, nat_le, List, [], ◌∷◌, length, Ok, None, refl, ap₂, ◌∙◌, arith, ltb-true}
use lib.Lanes.{Each1}
use Rattle.std.specs.List.{position, position_or_len}
use Rattle.std.proofs.lemmas.Bool.Decides.{nat_tests}
use Rattle.std.proofs.lemmas.Grind.{common_steps}
use Rattle.std.proofs.lemmas.List.Sums.{prefix_len-le-length, prefix_len_passes}
use Rattle.std.proofs.lemmas.Simd.{Each1-from_get_or}
use Rattle.field.specs.Coordinates.{below_before, coefficients}
use Rattle.polynomial.specs.Polynomials.{polynomial_layout, eight_remainders}
use Rattle.polynomial.specs.PolynomialLaws.{eight_of_eight, own_remainders}

same_test : (q n : ℕ) → not (leb q n) ≡ ltb n q
same_test q n = grind (arith, nat_tests)

same_place : (q : ℕ) (xs : List ℕ) → position_or_len (λ n. nat_le q n) xs ≡ below_before q xs
same_place q [] = refl
same_place q (x ∷ xs) = ap₂ (λ b n. cond b (1 + n) 0) (same_test q x) (same_place q xs)

-- where the first that is not below q is none, all are
pub all_below : (q : ℕ) (xs : List ℕ) → position (λ n. nat_le q n) xs ≡ None → below_before q xs ≡ length xs
all_below q xs e = grind (arith, nat_tests, same_place q xs, prefix_len-le-length (λ x. ltb x q) xs, e)

each_below : (q : ℕ) (xs : List ℕ) → below_before q xs ≡ length xs → Each1 (λ n. n < q) xs
each_below q xs all = Each1-from_get_or (λ n. n < q) xs 0 (λ i h. ltb-true _ _ (prefix_len_passes (λ x. ltb x q) xs i 0 (omega arith)))

pub eight_taken : (q : ℕ) (xs : List ℕ) → length xs ≡ 8 → position (λ n. nat_le q n) xs ≡ None → coefficients (polynomial_layout q) xs ≡ Ok (eight_remainders q xs)
eight_taken q xs eight none =
    let all = all_below q xs none in
    let own : eight_remainders q xs ≡ xs = eight_of_eight q xs eight ∙ own_remainders q xs (each_below q xs all) in
    grind (arith, nat_tests, common_steps, all, own)
