use native.Mathlib.Nat.{mod-eq_of_lt}
use Rattle.prime.proofs.coefficients.CoefficientCoordinates.with_coefficient.Goals as goal

pub returns-then-power-eq0 : goal.returns-then-power-eq0
returns-then-power-eq0 g c =
    let below = c.in_ok-check_range.ensures in
    (below, simp (c.if-power-eq0.true, mod-eq_of_lt below))
