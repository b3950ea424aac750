use Rattle.std.proofs.Common.{◌<◌, set, ap, ◌∙◌, mod-eq_of_lt, rules}
use Rattle.polynomial.specs.Polynomials.{eight_remainders}
use Rattle.polynomial.specs.PolynomialLaws.{eight_set}
use Rattle.polynomial.proofs.basis.PolynomialBasisCoordinates.with_coefficient.Goals as goal

pub returns : goal.returns
returns g c =
    let q = g.M.Modulus.Q in
    let xs = c.args.self.kept in
    let below : c.args.coefficient < q = search rules in
    (below, ap (eight_remainders q) c.keeping.ensures ∙ eight_set q xs c.args.power c.args.coefficient (search rules) ∙ ap (set (eight_remainders q xs) c.args.power) (mod-eq_of_lt below))
