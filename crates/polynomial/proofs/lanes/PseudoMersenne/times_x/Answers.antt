use Rattle.std.proofs.Common.{◌≡◌, length, sym, ap, ◌∙◌, arith, refl}
use Rattle.polynomial.specs.Product.{remainders, polynomial_times, polynomial_x}
use Rattle.polynomial.specs.PolynomialLaws.{eight_of_eight}
use Rattle.polynomial.proofs.Remainders.{times_remainders_right}
use Rattle.polynomial.proofs.Sums.{moved, moved_is}
use Rattle.polynomial.proofs.lanes.PseudoMersenne.times_x.Goals as goal

pub returns : goal.returns
returns c =
    let q = c.args.self.q in
    let x = c.fold16-x.result in
    let l : length x ≡ 8 = omega arith in
    eight_of_eight q (moved x) refl
    ∙ ap (remainders q) (moved_is x l c.fold16-x.ensures.small) ∙ sym (times_remainders_right q polynomial_x x) ∙ ap (polynomial_times q polynomial_x) c.fold16-x.ensures.same
