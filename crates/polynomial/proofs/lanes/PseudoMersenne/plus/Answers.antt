use Rattle.std.proofs.Common.{◌∙◌, ap₂, lit≤, rules}
use Rattle.polynomial.specs.Product.{polynomial_plus}
use Rattle.polynomial.specs.PolynomialLaws.{eight_of_eight}
use Rattle.polynomial.proofs.Remainders.{plus_remainders}
use Rattle.polynomial.proofs.lanes.PseudoMersenne.plus.Goals as goal

pub returns : goal.returns
returns c =
    let q = c.args.self.q in
    eight_of_eight q _ (search rules)
    ∙ plus_remainders q 65536 8192 (lit≤ tt) c.fold16.result c.fold16-2.result c.fold16.ensures.small c.fold16-2.ensures.small
    ∙ ap₂ (polynomial_plus q) c.fold16.ensures.same c.fold16-2.ensures.same
