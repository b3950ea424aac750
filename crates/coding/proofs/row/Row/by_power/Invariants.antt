use Rattle.std.proofs.Common.{ℕ, ◌<◌, slice_index}
use Rattle.coding.proofs.row.Row.by_power.Given as goal

abbrev pub invariant-loop-power : goal.invariant-loop-power
invariant-loop-power g l = (k : ℕ) → k < l.power → goal.N-post g l.number k (slice_index l.row k)
