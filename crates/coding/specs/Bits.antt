-- Lists of numbers as rows of bits, cut anew into numbers of another width.
use Rattle.std.specs.Prelude.{ℕ, zero, suc, ◌+◌, ◌-◌, ◌*◌, ◌/◌, ◌%◌, ◌^◌, List, map, slice_index}
use Rattle.std.specs.List.{range_with_len}

-- Bit k of a list of numbers of v bits each: the numbers in order, each with its most significant bit first.
-- Past the list every bit is 0.
unfoldable pub bit_at : ℕ → List ℕ → ℕ → ℕ
bit_at v xs k = slice_index xs (k / v) / 2 ^ (v - 1 - k % v) % 2

-- The number that n bits write, from bit s on, the first of them the most significant.
unfoldable pub bits_from : (ℕ → ℕ) → ℕ → ℕ → ℕ
bits_from f s zero = 0
bits_from f s (suc n) = bits_from f s n * 2 + f (s + n)

-- The bits of a list of numbers of v bits, cut into n numbers of u bits.
unfoldable pub regrouped : ℕ → ℕ → ℕ → List ℕ → List ℕ
regrouped v u n xs = map (λ j. bits_from (bit_at v xs) (u * j) u) (range_with_len 0 n)
