-- The quadratic extension of a field, and towers of such extensions.
use Rattle.std.specs.Prelude.{ℕ, zero, suc, ◌+◌, List, ◌++◌, take, drop}
use Rattle.field.specs.Fields.{Arithmetic}

-- the first and the second half of a pair's meaning
abbrev pub first : {V : Type 0} → Arithmetic V → List ℕ → List ℕ
first f x = take f.size x

abbrev pub second : {V : Type 0} → Arithmetic V → List ℕ → List ℕ
second f x = drop f.size x

-- Pairs (a0, a1) of a field's values, which stand for a0 + a1·g, where g·g is the field's non-residue.
-- A pair means a0's list followed by a1's.
abbrev pub extension : {V W : Type 0} → Arithmetic V → (W → V) → (W → V) → Arithmetic W
extension f a0 a1 = record {
  meaning = λ x. f.meaning (a0 x) ++ f.meaning (a1 x);
  size = f.size + f.size;
  zero = f.zero ++ f.zero;
  one = f.one ++ f.zero;
  plus = λ x y. f.plus (first f x) (first f y) ++ f.plus (second f x) (second f y);
  times = λ x y.
      f.plus (f.times (first f x) (first f y)) (f.times f.non_residue (f.times (second f x) (second f y)))
      ++ f.plus (f.times (first f x) (second f y)) (f.times (second f x) (first f y));
  opposite = λ x. f.opposite (first f x) ++ f.opposite (second f x);
  non_residue = f.zero ++ f.one;
  sqrt_minus_one = f.sqrt_minus_one ++ f.zero;
}

-- the norm a0² − s·a1², where s is the non-residue, calculated on meanings
abbrev pub norm : {V W : Type 0} → Arithmetic V → (W → V) → (W → V) → W → List ℕ
norm f a0 a1 x =
    let u = f.meaning (a0 x) in let v = f.meaning (a1 x) in
    f.plus (f.times u u) (f.opposite (f.times f.non_residue (f.times v v)))

-- The values of a tower of so many extensions on values of type V, and their arithmetic.
abbrev pub Tower : Type 0 → ℕ → Type 0
Tower V zero = V
Tower V (suc n) = Tower V n × Tower V n

abbrev pub tower : {V : Type 0} → Arithmetic V → (n : ℕ) → Arithmetic (Tower V n)
tower f zero = f
tower f (suc n) = extension (tower f n) (λ p. p.0) (λ p. p.1)
