use native.Mathlib.Nat.{mod-eq_of_lt}
use Rattle.prime.proofs.coefficients.CoefficientField.non_residue.Goals as goal

pub returns : goal.returns
returns g c = simp (mod-eq_of_lt g.met.M.Modulus.prime.above_two)
