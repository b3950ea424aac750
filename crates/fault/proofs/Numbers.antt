-- No two refusals have one number.
use denote.Enum.Declared.{tag_of}
use Rattle.std.proofs.Common.{refl, ◌≡◌, ◌+◌}
use Rattle.fault.specs.declared.Refusal.{Refusal}
use Rattle.fault.specs.declared.Refusal.TheVariants.{
  CoefficientOutOfRange,
  ZeroHasNoInverse,
  WrongSize,
  PaddingNotZero,
  WrongLength,
  BadPads,
  ZeroKey,
  NumberOutOfRange,
  TicketCancelled,
  TicketRidden,
  FalseTag,
  PaperTooShort,
  AllDrawn,
  UnknownStub,
  TornTape,
  BadRecord,
  RouteOutOfRange,
}
use Rattle.fault.specs.contracts.Refusal.{the_type}
use Rattle.fault.specs.Faults.{refusal}

-- `tag_of` counts the variants from 0
pub refusal_of_number : (r : Refusal) → refusal (tag_of the_type r + 1) ≡ r
refusal_of_number CoefficientOutOfRange = refl
refusal_of_number ZeroHasNoInverse = refl
refusal_of_number WrongSize = refl
refusal_of_number PaddingNotZero = refl
refusal_of_number WrongLength = refl
refusal_of_number BadPads = refl
refusal_of_number ZeroKey = refl
refusal_of_number NumberOutOfRange = refl
refusal_of_number TicketCancelled = refl
refusal_of_number TicketRidden = refl
refusal_of_number FalseTag = refl
refusal_of_number PaperTooShort = refl
refusal_of_number AllDrawn = refl
refusal_of_number UnknownStub = refl
refusal_of_number TornTape = refl
refusal_of_number BadRecord = refl
refusal_of_number RouteOutOfRange = refl
