use Rattle.std.proofs.Common.{◌≡◌, Ok, sym, ap, ◌∙◌, rules}
use Rattle.polynomial.specs.Polynomials.{eight_remainders}
use Rattle.polynomial.proofs.Building.{eight_taken}
use Rattle.polynomial.proofs.basis.PolynomialBasisCoordinates.from_coefficients.Goals as goal

pub returns-in-None : goal.returns-in-None
returns-in-None g c =
    let q = g.M.Modulus.Q in
    let xs = c.args.coefficients.now in
    let first = rw c.modulus.ensures at c.first_from.ensures in
    eight_taken q xs (search rules) (sym first ∙ c.in-None.is) ∙ ap (λ ys. Ok (eight_remainders q ys)) (sym c.keeping.ensures)
