-- One step of a reduction. Assumes nothing: this is a definition.
use Rattle.std.specs.Prelude.{ℕ, ◌+◌, ◌*◌, ◌/◌, ◌%◌, ◌^◌}

-- The high part of n, from bit w on, three times, plus the low part. As 2 ^ w leaves 3 by q, this leaves by q what n leaves.
abbrev pub folded : ℕ → ℕ → ℕ
folded w n = n / 2 ^ w * 3 + n % 2 ^ w
