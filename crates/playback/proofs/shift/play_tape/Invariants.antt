use Rattle.std.proofs.Common.{◌≡◌, ◌-◌, length, vec_items}
use Rattle.playback.proofs.Turns.{SoFar}
use Rattle.playback.proofs.shift.play_tape.Given as goal

abbrev pub invariant-loop-item : goal.invariant-loop-item
invariant-loop-item g l =
    record {
      tape : l.reader.tape.now ≡ l.tape;
      so_far : SoFar g.F.Field.arithmetic g.F.Coordinates.layout g.F.CodedField.bits l.pads l.tape l.initial.validator l.reader.at l.validator (vec_items l.lines);
    }

abbrev pub decreases-loop-item : goal.decreases-loop-item
decreases-loop-item g l = length l.tape - l.reader.at
