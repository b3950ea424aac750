use Rattle.std.proofs.Common.{rules}
use Rattle.door.proofs.calls.product_of.Goals as goal

pub returns : goal.returns
returns g c =
    let x = g.met.F.Coordinates.coordinates.told_back c.in_ok-x.x in
    let y = g.met.F.Coordinates.coordinates.told_back c.in_ok-y.y in
    search rules
