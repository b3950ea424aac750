-- What is answered for an inverse, once the value is built.
use Rattle.std.proofs.Common.{◌≡◌, ℕ, Bool, true, false, cond, eqb, ◌≢◌, List, Ok, Err, Result, refl, ap, ◌∙◌, ap₂}
use Rattle.fault.specs.declared.Fault.{Fault}
use Rattle.fault.specs.declared.Part.TheVariants.{Call}
use Rattle.fault.specs.Faults.{fault}
use Rattle.field.specs.Fields.{Arithmetic}
use Rattle.field.specs.Coordinates.{Layout, CoordinateLaws, coefficients}
use Rattle.tag.specs.Tickets.{then, same_numbers}
use Rattle.tag.proofs.Reading.{same_numbers_same, same_numbers_other}
use Rattle.door.specs.Calls.{fitting, inverse_answer, LeftInverse}
use Rattle.door.specs.Codes.{done, left}

module _ {V : Type 0} (a : Arithmetic V) (l : Layout) (k : CoordinateLaws a l) (xs : List ℕ) (room : ℕ) (v : V) (built : coefficients l xs ≡ Ok (l.by_power (a.meaning v))) where
  abbrev inverted : List ℕ → Result (List ℕ) Fault
  inverted m = cond (same_numbers m a.zero) (Err (fault 2 Call 0)) (fitting l.count room (l.by_power (a.meaning v)))

  by_test : (b : Bool) → same_numbers (a.meaning v) a.zero ≡ b → inverse_answer a l xs room ≡ cond b (Err (fault 2 Call 0)) (fitting l.count room (l.by_power (a.meaning v)))
  by_test b h =
      ap (λ s. then s (λ x. cond (same_numbers (l.from_power x) a.zero) (Err (fault 2 Call 0)) (fitting l.count room x))) built
      ∙ ap inverted (k.told_back v)
      ∙ ap (λ t. cond t (Err (fault 2 Call 0)) (fitting l.count room (l.by_power (a.meaning v)))) h

  pub zero_refused : a.meaning v ≡ a.zero → inverse_answer a l xs room ≡ Err (fault 2 Call 0)
  zero_refused e = by_test true (same_numbers_same _ _ e)

  -- the value has an inverse, the value w, and a row is lent for its coefficients
  module _ (w : V) (other : a.meaning v ≢ a.zero) (inverse : a.times (a.meaning v) (a.meaning w) ≡ a.one) where
    fits : inverse_answer a l xs room ≡ fitting l.count room (l.by_power (a.meaning v))
    fits = by_test false (same_numbers_other _ _ other)

    pub inverse_done : done (inverse_answer a l xs room) ≡ done (fitting l.count room (l.by_power (a.meaning w)))
    inverse_done =
        ap done fits
        ∙ elim (eqb room l.count) as (λ b. done (cond b (Ok (l.by_power (a.meaning v))) (Err (fault 3 Call 0))) ≡ done (cond b (Ok (l.by_power (a.meaning w))) (Err (fault 3 Call 0)))) [
          | true ↦ refl
          | false ↦ refl
        ]

    pub inverse_left : (row new : List ℕ) → new ≡ left (fitting l.count room (l.by_power (a.meaning w))) row → LeftInverse a l (inverse_answer a l xs room) row new
    inverse_left row new e =
        rw (e, fits) (elim (eqb room l.count) as (λ b. LeftInverse a l (cond b (Ok (l.by_power (a.meaning v))) (Err (fault 3 Call 0))) row (left (cond b (Ok (l.by_power (a.meaning w))) (Err (fault 3 Call 0))) row)) [
          | true ↦ (k.told w, ap₂ a.times (k.told_back v) (k.told_back w) ∙ inverse)
          | false ↦ refl
        ])
