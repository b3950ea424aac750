-- What holds over all calls of an issuer, from a new one on.
use Rattle.std.specs.Prelude.{◌≡◌, ℕ, ◌≢◌, List, [], ◌∷◌, ◌++◌, length, Ok, Err, Result, AllPairs}
use Rattle.std.specs.List.{range_with_len}
use Rattle.fault.specs.declared.Fault.{Fault}
use Rattle.field.specs.Fields.{Arithmetic}
use Rattle.field.specs.Coordinates.{Layout}
use Rattle.issuer.specs.declared.stubs.Stub.{Stub}
use Rattle.issuer.specs.declared.issuers.Issuer.{Issuer}
use Rattle.issuer.specs.Calls.{fresh, draw_answer, after_draw, seal_answer, after_seal, after_void}

-- the number of the stub that a draw gave; none where it was refused
abbrev pub number_given : Result Stub Fault → List ℕ
number_given (Ok stub) = stub.number ∷ []
number_given (Err f) = []

-- the number that a seal sealed; none where it was refused
abbrev pub number_sealed : ℕ → Result ℕ Fault → List ℕ
number_sealed number (Ok size) = number ∷ []
number_sealed number (Err f) = []

-- the numbers are pairwise different
abbrev pub Different : List ℕ → Type 0
Different xs = AllPairs (λ x y. x ≢ y) xs

module _ {V : Type 0} (a : Arithmetic V) (l : Layout) (w : ℕ) where
  -- Calls that take a new issuer with a key to the issuer, refused or not, and of stubs of any number, those of other issuers too:
  -- the numbers of the stubs that were given, in order, and the numbers that were sealed, in order.
  pub data Reached (key : V) : List ℕ → List ℕ → Issuer V → Type 0 where
    new : Reached key [] [] (fresh key)
    draw : {given sealed : List ℕ} {issuer : Issuer V} → (pads : List ℕ) → Reached key given sealed issuer
        → Reached key (given ++ number_given (draw_answer a l w issuer pads)) sealed (after_draw a l w issuer pads)
    seal : {given sealed : List ℕ} {issuer : Issuer V} → (number route : ℕ) (text pads paper : List ℕ) → Reached key given sealed issuer
        → Reached key given (sealed ++ number_sealed number (seal_answer a l w issuer number route text pads paper)) (after_seal a l w issuer number route text pads paper)
    void : {given sealed : List ℕ} {issuer : Issuer V} → (number : ℕ) → Reached key given sealed issuer
        → Reached key given sealed (after_void issuer number)

  -- Stubs are numbered in order: whatever calls led to the issuer, the numbers given, with the one that is given now, are 0, 1, 2, ..
  -- without gap or repeat.
  abbrev pub NumberedInOrder : Issuer V → Result Stub Fault → Type 0
  NumberedInOrder issuer answer =
      (key : V) (given sealed : List ℕ) → Reached key given sealed issuer → given ++ number_given answer ≡ range_with_len 0 (length (given ++ number_given answer))

  -- No number is sealed twice: whatever calls led to the issuer, the numbers sealed, with the one that is sealed now, are pairwise different.
  abbrev pub SealedOnce : Issuer V → ℕ → Result ℕ Fault → Type 0
  SealedOnce issuer number answer =
      (key : V) (given sealed : List ℕ) → Reached key given sealed issuer → Different (sealed ++ number_sealed number answer)
