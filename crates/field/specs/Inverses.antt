-- What an inverse is, what the call that gives it answers, and that there is just one.
use Rattle.std.specs.Prelude.{◌≡◌, ℕ, ◌≢◌, Ok, Err, Result}
use Rattle.fault.specs.declared.Fault.{Fault}
use Rattle.fault.specs.declared.Part.TheVariants.{Call}
use Rattle.fault.specs.Faults.{fault}
use Rattle.field.specs.Fields.{Arithmetic}
use Rattle.field.specs.Extensions.{Tower, tower}

module _ {V : Type 0} (a : Arithmetic V) where
  -- y is an inverse of x
  abbrev pub Inverse : V → V → Type 0
  Inverse x y = a.times (a.meaning x) (a.meaning y) ≡ a.one

  -- The answer for x: an inverse where x is not zero, and refusal 2 where it is.
  abbrev pub InverseAnswer : V → Result V Fault → Type 0
  InverseAnswer x (Ok y) = (a.meaning x ≢ a.zero) × Inverse x y
  InverseAnswer x (Err f) = (a.meaning x ≡ a.zero) × (f ≡ fault 2 Call 0)

  -- Every value but zero has an inverse and only one, and zero has none.
  pub record JustOneInverse (x : V) : Type 0 where
    pub exists : a.meaning x ≢ a.zero → ∥ ((y : V) × Inverse x y) ∥₁
    pub unique : (y z : V) → Inverse x y → Inverse x z → a.meaning y ≡ a.meaning z
    pub zero_has_none : a.meaning x ≡ a.zero → (y : V) → Inverse x y → ⊥

-- On this field, and in the tower of each height on it, inverses are unique.
abbrev pub UniqueInversesAtEveryHeight : {V : Type 0} → Arithmetic V → Type 0
UniqueInversesAtEveryHeight {V = V} a = (height : ℕ) (x : Tower V height) → JustOneInverse (tower a height) x
