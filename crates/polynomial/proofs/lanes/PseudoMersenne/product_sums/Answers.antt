use Rattle.std.proofs.Common.{sym, ap, ◌∙◌, ap₂}
use Rattle.polynomial.specs.Product.{remainders, polynomial_times}
use Rattle.polynomial.proofs.Remainders.{times_remainders}
use Rattle.polynomial.proofs.lanes.PseudoMersenne.product_sums.Goals as goal

pub returns-clause-same : goal.returns-clause-same
returns-clause-same c =
    let q = c.args.self.q in
    ap (remainders q) c.sums_of_products.ensures.is ∙ sym (times_remainders q c.fold16.result c.fold16_by_product.result)
    ∙ ap₂ (polynomial_times q) c.fold16.ensures.same c.fold16_by_product.ensures.same
