use Rattle.std.proofs.Common.{◌≡◌, ℕ, ◌<◌, get_or}
use Rattle.door.proofs.calls.tell.Given as goal

abbrev pub invariant-loop-power : goal.invariant-loop-power
invariant-loop-power g l = (k : ℕ) → k < l.power → get_or l.out k 0 ≡ get_or (g.F.Coordinates.layout.by_power (g.F.Field.arithmetic.meaning l.value)) k 0
