use Prim.Native.Nat.{◌<◌}
use native.Mathlib.Nat.{mod-eq_of_lt}
use native.Mathlib.Omega.{arith}
use Rattle.prime.proofs.coefficients.CoefficientField.one.Goals as goal

pub returns : goal.returns
returns g c = let above = g.met.M.Modulus.prime.above_two in let below : 1 < g.M.Modulus.Q = omega arith in simp (mod-eq_of_lt below)
