use Rattle.std.proofs.Common.{rules, sym}
use Rattle.wording.proofs.Room.{kept_more}
use Rattle.wording.proofs.lines.Line.extend.Goals as goal

pub returns-clause-ok : goal.returns-clause-ok
returns-clause-ok g c =
    let kept = kept_more g.row.LONGEST c.self.inside.bytes.items c.args.bytes.now c.self.invariant in
    search (rules, sym kept)
