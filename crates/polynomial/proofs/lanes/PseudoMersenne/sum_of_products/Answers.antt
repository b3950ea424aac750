use Rattle.std.proofs.Common.{◌∙◌, ap₂, lit≤, rules}
use Rattle.polynomial.specs.Product.{polynomial_plus}
use Rattle.polynomial.specs.PolynomialLaws.{eight_of_eight}
use Rattle.polynomial.proofs.Remainders.{plus_remainders}
use Rattle.polynomial.proofs.Sums.{W, add32, pair_small}
use Rattle.polynomial.proofs.lanes.PseudoMersenne.sum_of_products.Goals as goal

pub returns : goal.returns
returns c =
    let q = c.args.self.q in
    let s0 = c.product_sums.result in
    let s1 = c.product_sums-2.result in
    let s2 = c.product_sums-3.result in
    let s3 = c.product_sums-4.result in
    let e0 = c.product_sums.ensures in
    let e1 = c.product_sums-2.ensures in
    let e2 = c.product_sums-3.ensures in
    let e3 = c.product_sums-4.ensures in
    eight_of_eight q _ (search rules) ∙ c.reduce.ensures
    ∙ plus_remainders q W 2147483648 (lit≤ tt) (add32 s0 s1) (add32 s2 s3) (pair_small s0 s1 e0.small e1.small) (pair_small s2 s3 e2.small e3.small)
    ∙ ap₂ (polynomial_plus q)
    (plus_remainders q W 1073741824 (lit≤ tt) s0 s1 e0.small e1.small ∙ ap₂ (polynomial_plus q) e0.same e1.same)
    (plus_remainders q W 1073741824 (lit≤ tt) s2 s3 e2.small e3.small ∙ ap₂ (polynomial_plus q) e2.same e3.same)
