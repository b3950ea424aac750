-- The arithmetic of the towers that have names: one and three quadratic extensions on the remainders by a modulus.
use Rattle.std.specs.Prelude.{ℕ, refl}
use Rattle.field.specs.declared.extension.Quadratic.{Quadratic}
use Rattle.field.specs.Fields.{Arithmetic, Laws}
use Rattle.field.specs.Coordinates.{CoordinateLaws}
pub use Rattle.field.specs.Quadratics.{quadratic}
use Rattle.prime.specs.declared.coefficients.Coefficient.{Coefficient}
use Rattle.prime.specs.Moduli.{PrimeModulus}
use Rattle.prime.specs.Residues.{residues, residue_layout}
use Rattle.prime.specs.ResidueLaws.{residue_laws, residue_coordinate_laws}

abbrev pub coefficient_field : {M : Type 0} → ℕ → ℕ → Arithmetic (Coefficient M)
coefficient_field q root = residues q root (λ x. x.kept)

pub coefficient_laws : {M : Type 0} {q width root : ℕ} → PrimeModulus q width root → Laws (coefficient_field {M = M} q root)
coefficient_laws p = residue_laws _ _ _ p (λ x. x.kept) (λ n. (record { kept = n; modulus = record {} }, refl))

pub coefficient_coordinates : {M : Type 0} {q width root : ℕ} → PrimeModulus q width root → CoordinateLaws (coefficient_field {M = M} q root) (residue_layout q)
coefficient_coordinates p = residue_coordinate_laws _ _ _ p (λ x. x.kept) (λ n. (record { kept = n; modulus = record {} }, refl))

abbrev pub short_tower : {M : Type 0} → ℕ → ℕ → Arithmetic (Quadratic (Coefficient M))
short_tower q root = quadratic (coefficient_field q root)

abbrev pub long_tower : {M : Type 0} → ℕ → ℕ → Arithmetic (Quadratic (Quadratic (Quadratic (Coefficient M))))
long_tower q root = quadratic (quadratic (short_tower q root))
