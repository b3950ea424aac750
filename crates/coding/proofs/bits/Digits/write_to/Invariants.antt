use Rattle.std.proofs.Common.{◌≡◌, ℕ, ◌*◌, ◌<◌, slice_index}
use Rattle.coding.specs.Bits.{bit_at, bits_from}
use Rattle.coding.proofs.bits.Digits.write_to.Given as goal

abbrev pub invariant-loop-place : goal.invariant-loop-place
invariant-loop-place l = (k : ℕ) → k < l.place → slice_index l.out k ≡ bits_from (bit_at l.self.width l.self.numbers.now) (8 * k) 8
