use mathlib.Core.Path.{ap}
use Rattle.prime.specs.Residues.{just, number}
use Rattle.std.proofs.lemmas.Nat.{mul-mod_first, mul-mod_second}
use Rattle.prime.proofs.coefficients.CoefficientField.inverse.Goals as goal

pub returns-else-number-eq0 : goal.returns-else-number-eq0
returns-else-number-eq0 g c =
    let not_zero = rw c.number.ensures at c.if-number-eq0.false in
    (λ h. not_zero (ap number h), simp (mul-mod_first, mul-mod_second) (ap just (c.inverse_entry.ensures.inverts not_zero)))
