-- The polynomial basis: eight coefficients by power of X, with X⁸ = 2, as a field.
use Rattle.std.specs.Prelude.{ℕ, ◌%◌, List, [], ◌∷◌, map, slice_index}
use Rattle.std.specs.List.{range_with_len}
use Rattle.field.specs.Fields.{Arithmetic}
use Rattle.field.specs.Coordinates.{Layout}
use Rattle.polynomial.specs.declared.basis.PolynomialBasis.{PolynomialBasis}
use Rattle.polynomial.specs.Product.{polynomial_plus, polynomial_times, polynomial_opposite, polynomial_x}

-- the coefficient n at power 0, and 0 at the seven others
abbrev pub constant : ℕ → List ℕ
constant n = n ∷ 0 ∷ 0 ∷ 0 ∷ 0 ∷ 0 ∷ 0 ∷ 0 ∷ []

-- what the eight numbers at the front of a list leave by q
abbrev pub eight_remainders : ℕ → List ℕ → List ℕ
eight_remainders q xs = map (λ k. slice_index xs k % q) (range_with_len 0 8)

-- A value keeps eight numbers, and means what they leave by q. The non-residue is X.
abbrev pub polynomials : {V : Type 0} → ℕ → ℕ → (V → List ℕ) → Arithmetic V
polynomials q root kept = record {
  meaning = λ x. eight_remainders q (kept x);
  size = 8;
  zero = constant 0;
  one = constant 1;
  plus = polynomial_plus q;
  times = polynomial_times q;
  opposite = polynomial_opposite q;
  non_residue = polynomial_x;
  sqrt_minus_one = constant root;
}

abbrev pub polynomial_basis : {M : Type 0} → ℕ → ℕ → Arithmetic (PolynomialBasis M)
polynomial_basis q root = polynomials q root (λ x. x.kept)

abbrev pub polynomial_layout : ℕ → Layout
polynomial_layout q = record { count = 8; modulus = q; by_power = λ x. x; from_power = λ xs. xs }
