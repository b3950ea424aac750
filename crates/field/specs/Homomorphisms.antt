-- A map that keeps the operations carries every equation between ring expressions over.
use Rattle.std.specs.Prelude.{◌≡◌, ℕ, refl}
use Rattle.std.proofs.Common.{sym, ap, ap₂, ◌∙◌}
use Rattle.field.specs.Rings.{Operations, Ring}
use Rattle.field.specs.Solver.{Expression, at, e0, e1, ◌⊕◌, ◌⊗◌, ⊖◌, value, solve, Same}

pub record Keeps {B C : Type 0} (b : Operations B) (c : Operations C) (φ : B → C) : Type 0 where
  pub zero : φ b.zero ≡ c.zero
  pub one : φ b.one ≡ c.one
  pub plus : (x y : B) → φ (b.plus x y) ≡ c.plus (φ x) (φ y)
  pub times : (x y : B) → φ (b.times x y) ≡ c.times (φ x) (φ y)
  pub opposite : (x : B) → φ (b.opposite x) ≡ c.opposite (φ x)

module _ {B C : Type 0} {b : Operations B} {c : Operations C} {φ : B → C} (k : Keeps b c φ) where
  pub keeps_value : (ρ : ℕ → B) (e : Expression) → φ (value b ρ e) ≡ value c (λ n. φ (ρ n)) e
  keeps_value ρ (at n) = refl
  keeps_value ρ e0 = k.zero
  keeps_value ρ e1 = k.one
  keeps_value ρ (x ⊕ y) = k.plus _ _ ∙ ap₂ c.plus (keeps_value ρ x) (keeps_value ρ y)
  keeps_value ρ (x ⊗ y) = k.times _ _ ∙ ap₂ c.times (keeps_value ρ x) (keeps_value ρ y)
  keeps_value ρ (⊖ x) = k.opposite _ ∙ ap c.opposite (keeps_value ρ x)

  pub carry : (r : Ring b) (ρ : ℕ → B) (x y : Expression) → Same x y → value c (λ n. φ (ρ n)) x ≡ value c (λ n. φ (ρ n)) y
  carry r ρ x y h = sym (keeps_value ρ x) ∙ ap φ (solve b r ρ x y h) ∙ keeps_value ρ y
