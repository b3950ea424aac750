-- Bit reversal: between the order of a tower and the powers of X.
use Rattle.std.specs.Prelude.{◌≡◌, ℕ, zero, suc, ◌^◌, List, take, drop}
use Rattle.field.specs.Fields.{Arithmetic}
use Rattle.field.specs.Coordinates.{interleaved}

-- The coefficients of a tower of n extensions by power: the even powers hold a0's list by power, the odd ones a1's.
abbrev pub bit_reversal_of : ℕ → List ℕ → List ℕ
bit_reversal_of zero xs = xs
bit_reversal_of (suc n) xs = interleaved (bit_reversal_of n (take (2 ^ n) xs)) (bit_reversal_of n (drop (2 ^ n) xs))

-- Bit reversal of eight coefficients takes sums to sums and products to products.
pub record KeepsSumsAndProducts {V W : Type 0} (from : Arithmetic V) (to : Arithmetic W) : Type 0 where
  pub sums : (x y : V) → bit_reversal_of 3 (from.plus (from.meaning x) (from.meaning y)) ≡ to.plus (bit_reversal_of 3 (from.meaning x)) (bit_reversal_of 3 (from.meaning y))
  pub products : (x y : V) → bit_reversal_of 3 (from.times (from.meaning x) (from.meaning y)) ≡ to.times (bit_reversal_of 3 (from.meaning x)) (bit_reversal_of 3 (from.meaning y))
