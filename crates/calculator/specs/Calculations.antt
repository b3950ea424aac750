-- What the calculator answers.
use Rattle.std.specs.Prelude.{◌≡◌, ℕ, true, false, ◌≢◌, List, Ok, Err, Result}
use Rattle.fault.specs.declared.Fault.{Fault}
use Rattle.fault.specs.declared.Part.TheVariants.{Call}
use Rattle.fault.specs.Faults.{fault}
use Rattle.field.specs.Fields.{Arithmetic}
use Rattle.field.specs.Inverses.{Inverse}
use Rattle.calculator.specs.declared.Operation.{Operation}
use Rattle.calculator.specs.declared.Operation.TheVariants as op
use Rattle.calculator.specs.declared.Answer.{Answer}
use Rattle.calculator.specs.declared.Answer.TheVariants as answer

module _ {V : Type 0} (a : Arithmetic V) where
  -- the answer is a value, with that meaning
  abbrev pub Gives : List ℕ → Result (Answer V) Fault → Type 0
  Gives xs (Ok (answer.Value v)) = a.meaning v ≡ xs
  Gives xs (Ok (answer.Same b)) = ⊥
  Gives xs (Err f) = ⊥

  -- the answer is yes where the two mean the same, and no where they do not
  abbrev pub SaysWhetherSame : V → V → Result (Answer V) Fault → Type 0
  SaysWhetherSame x y (Ok (answer.Value v)) = ⊥
  SaysWhetherSame x y (Ok (answer.Same true)) = a.meaning x ≡ a.meaning y
  SaysWhetherSame x y (Ok (answer.Same false)) = a.meaning x ≢ a.meaning y
  SaysWhetherSame x y (Err f) = ⊥

  -- the answer is an inverse where the value is not zero, and refusal 2 where it is
  abbrev pub Inverts : V → Result (Answer V) Fault → Type 0
  Inverts x (Ok (answer.Value y)) = (a.meaning x ≢ a.zero) × Inverse a x y
  Inverts x (Ok (answer.Same b)) = ⊥
  Inverts x (Err f) = (a.meaning x ≡ a.zero) × (f ≡ fault 2 Call 0)

  abbrev pub Calculated : Operation V → Result (Answer V) Fault → Type 0
  Calculated (op.Add x y) r = Gives (a.plus (a.meaning x) (a.meaning y)) r
  Calculated (op.Neg x) r = Gives (a.opposite (a.meaning x)) r
  Calculated (op.Mul x y) r = Gives (a.times (a.meaning x) (a.meaning y)) r
  Calculated (op.Square x) r = Gives (a.times (a.meaning x) (a.meaning x)) r
  Calculated (op.Inverse x) r = Inverts x r
  Calculated op.NonResidue r = Gives a.non_residue r
  Calculated (op.ByNonResidue x) r = Gives (a.times a.non_residue (a.meaning x)) r
  Calculated op.SqrtMinusOne r = Gives a.sqrt_minus_one r
  Calculated (op.Same x y) r = SaysWhetherSame x y r
