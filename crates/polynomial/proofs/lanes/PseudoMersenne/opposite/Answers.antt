use Rattle.std.proofs.Common.{◌≡◌, ℕ, ◌+◌, ◌-◌, ◌%◌, ◌^◌, length, replicate, ap, ◌∙◌, arith, rules}
use lib.Lanes.{zip2}
use Rattle.polynomial.specs.Product.{remainders, polynomial_opposite}
use Rattle.polynomial.proofs.Folds.{multiple_is}
use Rattle.polynomial.specs.PolynomialLaws.{eight_of_eight}
use Rattle.polynomial.proofs.Remainders.{opposite_remainders}
use Rattle.polynomial.proofs.lanes.PseudoMersenne.opposite.Goals as goal

pub returns : goal.returns
returns c =
    let q = c.args.self.q in
    let t = 2 ^ (15 - c.args.self.bits) in
    let x = c.fold16.result in
    let l : length x ≡ 8 = omega arith in
    let m = multiple_is c.args.self in
    eight_of_eight q _ (search rules)
    ∙ ap (λ (n : ℕ). remainders q (zip2 (λ a b. (a + (65536 - b)) % 65536) (replicate 8 n) x)) m.0
    ∙ opposite_remainders q t 8 x l m.1 m.2 c.fold16.ensures.small ∙ ap (polynomial_opposite q) c.fold16.ensures.same
