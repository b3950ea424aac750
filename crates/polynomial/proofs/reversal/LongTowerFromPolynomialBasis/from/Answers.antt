use Rattle.polynomial.specs.Reversals.{basis_to_tower}
use Rattle.polynomial.proofs.reversal.LongTowerFromPolynomialBasis.from.Goals as goal

pub returns-clause-keeps : goal.returns-clause-keeps
returns-clause-keeps g c = basis_to_tower g.M.Modulus.Q g.M.Modulus.ROOT (λ x. x.kept)
