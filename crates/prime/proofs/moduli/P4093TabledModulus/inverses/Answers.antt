use Rattle.std.proofs.Common.{refl, lit<}
use Rattle.prime.specs.InverseTables.{inverse_table}
use Rattle.prime.proofs.moduli.P4093TabledModulus.inverses.Goals as goal

-- the test over the whole table, computed
pub returns : goal.returns
returns c = inverse_table 4093 _ (lit< tt) refl tt
