-- Coefficients by power: how a value's meaning is a list of coefficients of 1, X, X², .. below a modulus.
use Rattle.std.specs.Prelude.{◌≡◌, ℕ, ◌+◌, ◌<◌, ◌≤◌, cond, List, [], ◌∷◌, ◌++◌, length, take, drop, replicate, Ok, Err, Result, ◌==◌, nat_lt, slice_set}
use Rattle.std.specs.Simd.Lanes.{Each1}
use Rattle.std.specs.List.{prefix_len}
use Rattle.fault.specs.declared.Fault.{Fault}
use Rattle.fault.specs.declared.Part.TheVariants.{Call}
use Rattle.fault.specs.Faults.{fault}
use Rattle.field.specs.Fields.{Arithmetic, Meant}

-- How many coefficients there are, below which modulus, the list of them by power that a meaning has,
-- and the meaning that has a list of them.
pub record Layout : Type 0 where
  pub count : ℕ
  pub modulus : ℕ
  pub by_power : List ℕ → List ℕ
  pub from_power : List ℕ → List ℕ

-- even places hold the first list, odd places the second
abbrev pub interleaved : List ℕ → List ℕ → List ℕ
interleaved [] ys = ys
interleaved (x ∷ xs) [] = x ∷ xs
interleaved (x ∷ xs) (y ∷ ys) = x ∷ y ∷ interleaved xs ys

-- what stands at the even places, and at the odd ones
abbrev pub evens : List ℕ → List ℕ
evens [] = []
evens (x ∷ []) = x ∷ []
evens (x ∷ y ∷ zs) = x ∷ evens zs

abbrev pub odds : List ℕ → List ℕ
odds [] = []
odds (x ∷ []) = []
odds (x ∷ y ∷ zs) = y ∷ odds zs

-- In a quadratic extension the even powers hold a0's coefficients by power, the odd ones a1's.
abbrev pub extension_layout : Layout → Layout
extension_layout l = record {
  count = l.count + l.count;
  modulus = l.modulus;
  by_power = λ x. interleaved (l.by_power (take l.count x)) (l.by_power (drop l.count x));
  from_power = λ xs. l.from_power (evens xs) ++ l.from_power (odds xs);
}

-- a list of coefficients by power: as many as there are, each below the modulus
abbrev pub Coefficients : Layout → List ℕ → Type 0
Coefficients l xs = (length xs ≡ l.count) × Each1 (λ n. n < l.modulus) xs

-- What coefficients by power owe: those of a meaning are a list of coefficients, and give the meaning back;
-- a list of coefficients is that of a meaning; and those of zero are all 0.
pub record CoordinateLaws {V : Type 0} (a : Arithmetic V) (l : Layout) : Type 0 where
  pub size_is_count : a.size ≡ l.count
  pub told : (x : V) → Coefficients l (l.by_power (a.meaning x))
  pub told_back : (x : V) → l.from_power (l.by_power (a.meaning x)) ≡ a.meaning x
  pub meant : (xs : List ℕ) → Coefficients l xs → Meant a (l.from_power xs)
  pub meant_back : (xs : List ℕ) → Coefficients l xs → l.by_power (l.from_power xs) ≡ xs
  pub zero_tells_zero : l.by_power a.zero ≡ replicate l.count 0

-- how many numbers of the list come before the first that is q or more
abbrev pub below_before : ℕ → List ℕ → ℕ
below_before q xs = prefix_len (λ x. nat_lt x q) xs

-- A list of coefficients by power, or why it is none: refusal 3 for another count, then 1 at the power of the first
-- coefficient that is not below the modulus.
abbrev pub coefficients : Layout → List ℕ → Result (List ℕ) Fault
coefficients l xs =
    cond (length xs == l.count)
    (cond (below_before l.modulus xs == length xs) (Ok xs) (Err (fault 1 Call (below_before l.modulus xs))))
    (Err (fault 3 Call 0))

-- The answer for a coefficient c at a power: refusal 1 at that power where c is not below the modulus.
abbrev pub InRange : {A : Type 0} → Layout → ℕ → ℕ → Result A Fault → Type 0
InRange l power c (Ok a) = c < l.modulus
InRange l power c (Err f) = (l.modulus ≤ c) × (f ≡ fault 1 Call power)

-- The answer that puts another coefficient c at a power of x: refusal 1 at that power where c is not below the modulus.
abbrev pub Replaced : {V : Type 0} → Arithmetic V → Layout → V → ℕ → ℕ → Result V Fault → Type 0
Replaced a l x power c (Ok v) = (c < l.modulus) × (l.by_power (a.meaning v) ≡ slice_set (l.by_power (a.meaning x)) power c)
Replaced a l x power c (Err f) = (l.modulus ≤ c) × (f ≡ fault 1 Call power)

-- The answer that builds a value from a list: the value that has these coefficients by power, or the list's refusal.
abbrev pub Built : {V : Type 0} → Arithmetic V → Layout → List ℕ → Result V Fault → Type 0
Built a l xs (Ok v) = coefficients l xs ≡ Ok (l.by_power (a.meaning v))
Built a l xs (Err f) = coefficients l xs ≡ Err f
