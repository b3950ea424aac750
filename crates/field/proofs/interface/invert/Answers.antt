use Rattle.field.proofs.UniqueInverses.{unique_inverses_at_every_height}
use Rattle.field.proofs.interface.invert.Goals as goal

pub returns-clause-unique_at_every_height : goal.returns-clause-unique_at_every_height
returns-clause-unique_at_every_height g c = unique_inverses_at_every_height g.met.F.Field.laws
