-- The field of remainders by a prime modulus.
use Rattle.std.specs.Prelude.{List, [], ◌∷◌, ℕ, ◌+◌, ◌-◌, ◌*◌, ◌%◌, get_or}
use Rattle.field.specs.Fields.{Arithmetic}
use Rattle.field.specs.Coordinates.{Layout}

-- the number of a list of one
abbrev pub number : List ℕ → ℕ
number x = get_or x 0 0

abbrev pub just : ℕ → List ℕ
just n = n ∷ []

-- A value is kept as any number and means the list of its remainder by q.
-- Sums, opposites and products are those of whole numbers, reduced to the remainder; the non-residue is 2.
abbrev pub residues : {V : Type 0} → ℕ → ℕ → (V → ℕ) → Arithmetic V
residues q root kept = record {
  meaning = λ x. just (kept x % q);
  size = 1;
  zero = just 0;
  one = just 1;
  plus = λ x y. just ((number x + number y) % q);
  times = λ x y. just ((number x * number y) % q);
  opposite = λ x. just ((q - number x % q) % q);
  non_residue = just 2;
  sqrt_minus_one = just root;
}

-- the one coefficient, at power 0
abbrev pub residue_layout : ℕ → Layout
residue_layout q = record { count = 1; modulus = q; by_power = λ x. x; from_power = λ xs. xs }
