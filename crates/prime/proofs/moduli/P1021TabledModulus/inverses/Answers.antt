use Rattle.std.proofs.Common.{refl, lit<}
use Rattle.prime.specs.InverseTables.{inverse_table}
use Rattle.prime.proofs.moduli.P1021TabledModulus.inverses.Goals as goal

-- the test over the whole table, computed
pub returns : goal.returns
returns c = inverse_table 1021 _ (lit< tt) refl tt
