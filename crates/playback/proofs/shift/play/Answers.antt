use Rattle.std.proofs.Common.{vec_items, rules}
use Rattle.playback.proofs.Reports.{shift_played}
use Rattle.playback.proofs.shift.play.Goals as goal

pub returns-in-Ok : goal.returns-in-Ok
returns-in-Ok g c =
    let (lines, whole_tape) = shift_played g.F.Field.arithmetic g.F.Coordinates.layout g.F.CodedField.bits c.args.input.now c.in-Ok.validator c.in-Ok.parts.pads.now c.in-Ok.parts.tape.now (search rules) vec_items c.play_tape.result c.play_tape.ensures.lines c.play_tape.ensures.whole in
    record { lines = lines; whole_tape = whole_tape }
