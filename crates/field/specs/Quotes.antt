-- `ring o r (x ∷ y ∷ []) (search quotes) refl` proves an equation between ring expressions in x and y.
-- The search finds the expressions, and the solver compares their normal forms.
use Rattle.std.specs.Prelude.{◌≡◌, ℕ, suc, ◌+◌, List, [], ◌∷◌, slice_index_or, refl}
use Rattle.std.proofs.Common.{sym, ap, ap₂, ◌∙◌, add-zero, zero-add, add-suc, suc-add}
use Rattle.field.specs.Rings.{Operations, Ring}
use Rattle.field.specs.Solver.{Expression, at, e0, e1, ◌⊕◌, ◌⊗◌, ⊖◌, value, solve, Same}

-- an expression whose value is x
pub data Quote {A : Type 0} (o : Operations A) (ρ : ℕ → A) (x : A) : Type 0 where
  quote : (e : Expression) → value o ρ e ≡ x → Quote o ρ x

abbrev pub quoted : {A : Type 0} {o : Operations A} {ρ : ℕ → A} {x : A} → Quote o ρ x → Expression
quoted (quote e p) = e

pub quoted_right : {A : Type 0} {o : Operations A} {ρ : ℕ → A} {x : A} (p : Quote o ρ x) → value o ρ (quoted p) ≡ x
quoted_right (quote e p) = p

module _ {A : Type 0} {o : Operations A} {ρ : ℕ → A} where
  abbrev pub quote_plus : {x y : A} → Quote o ρ x → Quote o ρ y → Quote o ρ (o.plus x y)
  quote_plus (quote a p) (quote b q) = quote (a ⊕ b) (ap₂ o.plus p q)

  abbrev pub quote_times : {x y : A} → Quote o ρ x → Quote o ρ y → Quote o ρ (o.times x y)
  quote_times (quote a p) (quote b q) = quote (a ⊗ b) (ap₂ o.times p q)

  abbrev pub quote_opposite : {x : A} → Quote o ρ x → Quote o ρ (o.opposite x)
  quote_opposite (quote a p) = quote (⊖ a) (ap o.opposite p)

  abbrev pub quote_zero : Quote o ρ o.zero
  quote_zero = quote e0 refl

  abbrev pub quote_one : Quote o ρ o.one
  quote_one = quote e1 refl

pub ruleset quotes = (quote_plus, quote_times, quote_opposite, quote_zero, quote_one)

module _ {A : Type 0} (o : Operations A) (ρ : ℕ → A) where
  -- a quote of y, from one of each of xs
  abbrev pub Under : List A → A → Type 0
  Under [] y = Quote o ρ y
  Under (x ∷ xs) y = Quote o ρ x → Under xs y

  abbrev pub feed : (z : A) (n : ℕ) (xs : List A) → ((i : ℕ) → ρ (n + i) ≡ slice_index_or xs i z) → (y : A) → Under xs y → Quote o ρ y
  feed z n [] h y p = p
  feed z n (x ∷ xs) h y p = feed z (suc n) xs (λ i. ap ρ (suc-add n i ∙ sym (add-suc n i)) ∙ h (suc i)) y (p (quote (at n) (ap ρ (sym (add-zero n)) ∙ h 0)))

module _ {A : Type 0} (o : Operations A) (r : Ring o) (xs : List A) where
  abbrev pub from : ℕ → A
  from n = slice_index_or xs n o.zero

  abbrev pub whole : (y : A) → Under o from xs y → Quote o from y
  whole y p = feed o from o.zero 0 xs (λ i. ap from (zero-add i)) y p

  pub ring : {y z : A} (p : Under o from xs y × Under o from xs z) → Same (quoted (whole y p.0)) (quoted (whole z p.1)) → y ≡ z
  ring {y} {z} p h = sym (quoted_right (whole y p.0)) ∙ solve o r from (quoted (whole y p.0)) (quoted (whole z p.1)) h ∙ quoted_right (whole z p.1)
