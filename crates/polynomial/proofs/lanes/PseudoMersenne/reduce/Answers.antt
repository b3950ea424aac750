use Rattle.std.proofs.Common.{ap, ◌∙◌, map-id}
use Rattle.polynomial.specs.Product.{remainders}
use Rattle.polynomial.proofs.Folds.{two_fit, four_fit}
use Rattle.polynomial.proofs.lanes.PseudoMersenne.reduce.Goals as goal

pub overflow_cast-result : goal.overflow_cast-result
overflow_cast-result c =
    rw (c.fold32-twice.ensures.is, c.fold32.ensures.is) (two_fit c.args.self c.if-self-ge10.true c.args.s c.fits-s.1)

pub returns-then-self-ge10 : goal.returns-then-self-ge10
returns-then-self-ge10 c = ap (remainders c.args.self.q) (map-id c.fold32-twice.result) ∙ c.fold32-twice.ensures.same ∙ c.fold32.ensures.same

pub overflow_cast-result-2 : goal.overflow_cast-result-2
overflow_cast-result-2 c =
    rw (c.fold32-3.ensures.is, c.fold32-2.ensures.is, c.fold32-twice.ensures.is, c.fold32.ensures.is) (four_fit c.args.self c.args.s c.fits-s.1)

pub returns : goal.returns
returns c =
    ap (remainders c.args.self.q) (map-id c.fold32-3.result) ∙ c.fold32-3.ensures.same ∙ c.fold32-2.ensures.same ∙ c.fold32-twice.ensures.same ∙ c.fold32.ensures.same
