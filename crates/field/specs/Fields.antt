-- What a field is: what its values mean, how meanings are added and multiplied, and the laws that every implementation owes.
use Rattle.std.specs.Prelude.{◌≡◌, ℕ, ◌≢◌, Bool, Decides, List, length}

-- A value means a list of numbers, of one length in each implementation. Values of one meaning count as the same,
-- and the arithmetic is stated on meanings.
pub record Arithmetic (V : Type 0) : Type 0 where
  pub meaning : V → List ℕ
  pub size : ℕ
  pub zero : List ℕ
  pub one : List ℕ
  pub plus : List ℕ → List ℕ → List ℕ
  pub times : List ℕ → List ℕ → List ℕ
  pub opposite : List ℕ → List ℕ
  pub non_residue : List ℕ
  pub sqrt_minus_one : List ℕ

-- x·k + y·l + z·m + u·n
abbrev pub four_products : {V : Type 0} → Arithmetic V → List ℕ → List ℕ → List ℕ → List ℕ → List ℕ → List ℕ → List ℕ → List ℕ → List ℕ
four_products a x k y l z m u n = a.plus (a.plus (a.times x k) (a.times y l)) (a.plus (a.times z m) (a.times u n))

-- v is the sum of the products of the four pairs
abbrev pub SumOfProducts : {V : Type 0} → Arithmetic V → V × V → V × V → V × V → V × V → V → Type 0
SumOfProducts a x y z u v =
    let m = a.meaning in
    m v ≡ four_products a (m x.0) (m x.1) (m y.0) (m y.1) (m z.0) (m z.1) (m u.0) (m u.1)

-- some value means xs
abbrev pub Meant : {V : Type 0} → Arithmetic V → List ℕ → Type 0
Meant {V = V} a xs = ∥ ((v : V) × (a.meaning v ≡ xs)) ∥₁

-- eq says of every two values whether they mean the same
abbrev pub EqualByMeaning : {V : Type 0} → Arithmetic V → (V → V → Bool) → Type 0
EqualByMeaning {V = V} a eq = (x y : V) → Decides (eq x y) (a.meaning x ≡ a.meaning y)

-- The laws of a field, over its values.
pub record Laws {V : Type 0} (a : Arithmetic V) : Type 0 where
  -- meanings have one length, and what is calculated from meanings is a meaning again
  pub one_length : (x : V) → length (a.meaning x) ≡ a.size
  pub meant_zero : Meant a a.zero
  pub meant_one : Meant a a.one
  pub meant_plus : (x y : V) → Meant a (a.plus (a.meaning x) (a.meaning y))
  pub meant_times : (x y : V) → Meant a (a.times (a.meaning x) (a.meaning y))
  pub meant_opposite : (x : V) → Meant a (a.opposite (a.meaning x))
  pub meant_non_residue : Meant a a.non_residue
  pub meant_sqrt_minus_one : Meant a a.sqrt_minus_one
  -- sums
  pub plus_commutes : (x y : V) → a.plus (a.meaning x) (a.meaning y) ≡ a.plus (a.meaning y) (a.meaning x)
  pub plus_associates : (x y z : V) → a.plus (a.plus (a.meaning x) (a.meaning y)) (a.meaning z) ≡ a.plus (a.meaning x) (a.plus (a.meaning y) (a.meaning z))
  pub plus_zero : (x : V) → a.plus (a.meaning x) a.zero ≡ a.meaning x
  pub plus_opposite : (x : V) → a.plus (a.meaning x) (a.opposite (a.meaning x)) ≡ a.zero
  -- products
  pub times_commutes : (x y : V) → a.times (a.meaning x) (a.meaning y) ≡ a.times (a.meaning y) (a.meaning x)
  pub times_associates : (x y z : V) → a.times (a.times (a.meaning x) (a.meaning y)) (a.meaning z) ≡ a.times (a.meaning x) (a.times (a.meaning y) (a.meaning z))
  pub times_one : (x : V) → a.times (a.meaning x) a.one ≡ a.meaning x
  pub distributes : (x y z : V) → a.times (a.meaning x) (a.plus (a.meaning y) (a.meaning z)) ≡ a.plus (a.times (a.meaning x) (a.meaning y)) (a.times (a.meaning x) (a.meaning z))
  -- zero is not one, and every other value has an inverse
  pub zero_is_not_one : a.zero ≢ a.one
  pub inverse_exists : (x : V) → a.meaning x ≢ a.zero → ∥ ((y : V) × (a.times (a.meaning x) (a.meaning y) ≡ a.one)) ∥₁
  -- the root of minus one, and the non-residue, which has no root
  pub root_squared : a.times a.sqrt_minus_one a.sqrt_minus_one ≡ a.opposite a.one
  pub non_residue_has_no_root : (x : V) → a.times (a.meaning x) (a.meaning x) ≢ a.non_residue
