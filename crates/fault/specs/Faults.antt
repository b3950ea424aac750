-- The numbers of refusals and parts, and the text of a fault.
use Rattle.std.specs.Prelude.{ℕ, ◌-◌, List, [], ◌∷◌, ◌++◌, codes, decimal, slice_index_or}
use Rattle.fault.specs.declared.Refusal.{Refusal}
use Rattle.fault.specs.declared.Refusal.TheVariants.{
  CoefficientOutOfRange,
  ZeroHasNoInverse,
  WrongSize,
  PaddingNotZero,
  WrongLength,
  BadPads,
  ZeroKey,
  NumberOutOfRange,
  TicketCancelled,
  TicketRidden,
  FalseTag,
  PaperTooShort,
  AllDrawn,
  UnknownStub,
  TornTape,
  BadRecord,
  RouteOutOfRange,
}
use Rattle.fault.specs.declared.Part.{Part}
use Rattle.fault.specs.declared.Part.TheVariants.{Call, Key, Pad, Tag, Tape}
use Rattle.fault.specs.declared.Fault.{Fault}

abbrev pub refusal_number : Refusal → ℕ
refusal_number CoefficientOutOfRange = 1
refusal_number ZeroHasNoInverse = 2
refusal_number WrongSize = 3
refusal_number PaddingNotZero = 4
refusal_number WrongLength = 5
refusal_number BadPads = 6
refusal_number ZeroKey = 7
refusal_number NumberOutOfRange = 8
refusal_number TicketCancelled = 9
refusal_number TicketRidden = 10
refusal_number FalseTag = 11
refusal_number PaperTooShort = 12
refusal_number AllDrawn = 13
refusal_number UnknownStub = 14
refusal_number TornTape = 15
refusal_number BadRecord = 16
refusal_number RouteOutOfRange = 17

-- the refusals in the order of their numbers
abbrev pub refusals : List Refusal
refusals =
    CoefficientOutOfRange ∷ ZeroHasNoInverse ∷ WrongSize ∷ PaddingNotZero ∷ WrongLength ∷ BadPads ∷ ZeroKey
    ∷ NumberOutOfRange ∷ TicketCancelled ∷ TicketRidden ∷ FalseTag ∷ PaperTooShort ∷ AllDrawn ∷ UnknownStub
    ∷ TornTape ∷ BadRecord ∷ RouteOutOfRange ∷ []

-- the refusal that has the number n, from 1 to 17
abbrev pub refusal : ℕ → Refusal
refusal n = slice_index_or refusals (n - 1) CoefficientOutOfRange

abbrev pub part_number : Part → ℕ
part_number Call = 0
part_number Key = 1
part_number Pad = 2
part_number Tag = 3
part_number Tape = 4

-- the fault with the refusal of that number: what every contract that refuses says
abbrev pub fault : ℕ → Part → ℕ → Fault
fault n part place = record { refusal = refusal n; part = part; place = place }

-- refused NUMBER PART PLACE
abbrev pub fault_text : Fault → List ℕ
fault_text f = codes "refused " ++ (decimal (refusal_number f.refusal) ++ (codes " " ++ (decimal (part_number f.part) ++ (codes " " ++ decimal f.place))))
