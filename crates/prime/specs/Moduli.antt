-- What a prime modulus owes, and what its table of inverses answers.
use Rattle.std.specs.Prelude.{◌≡◌, ◌≢◌, ℕ, ◌+◌, ◌-◌, ◌*◌, ◌%◌, ◌^◌, ◌<◌, ◌≤◌, List, length, get_or}

-- A modulus q of `width` bits with a root of minus one. Every number but 0 has an inverse, and no number squared leaves 2.
-- That q is 3 below a power of two lets a remainder be found without a division.
pub record PrimeModulus (q width root : ℕ) : Type 0 where
  pub three_below_a_power : 2 ^ width ≡ q + 3
  pub width_from : 6 ≤ width
  pub width_to : width ≤ 12
  pub above_two : 2 < q
  pub inverse_exists : (n : ℕ) → n < q → n ≢ 0 → (m : ℕ) × ((n * m) % q ≡ 1)
  pub two_has_no_root : (n : ℕ) → n < q → (n * n) % q ≢ 2
  pub root_below : root < q
  pub root_squared : (root * root) % q ≡ q - 1

-- The table's answer for x: below q, its product with x leaves 1, and 0 where x leaves 0.
pub record InverseEntry (q x entry : ℕ) : Type 0 where
  pub below : entry < q
  pub inverts : x % q ≢ 0 → (x * entry) % q ≡ 1
  pub zero : x % q ≡ 0 → entry ≡ 0

-- A table with as many entries as there are remainders by q, which answers for each x at what x leaves.
pub record InverseTable (q : ℕ) (table : List ℕ) : Type 0 where
  pub long : length table ≡ q
  pub answers : (x : ℕ) → InverseEntry q x (get_or table (x % q) 0)
