-- The records of a tape, one after the other.
use Rattle.std.proofs.Common.{◌≡◌, ℕ, zero, suc, ◌+◌, ◌<◌, List, [], ◌∷◌, length, Some, None, Ok, Err, refl, ap, arith}
use Rattle.std.proofs.lemmas.Grind.{common_steps}
use Rattle.fault.specs.declared.Fault.{Fault}
use Rattle.tape.specs.Records.{Request, next_record, record_bytes}
use Rattle.playback.specs.Lines.{read_on, records_from}

module _ (tape : List ℕ) (at : ℕ) where
  -- a record begins before the tape's end, and takes some of it
  pub begins : (r : Request) → next_record tape at ≡ Ok (Some r) → at < length tape
  begins r q = grind (arith, common_steps)

  pub from_record : (most : ℕ) (r : Request) → next_record tape at ≡ Ok (Some r) → records_from (suc most) tape at ≡ r ∷ records_from most tape (at + length (record_bytes r))
  unfolding records_from
  from_record most r q = ap (read_on (records_from most tape) at) q

  pub from_end : (most : ℕ) → next_record tape at ≡ Ok None → records_from most tape at ≡ []
  unfolding records_from
  from_end zero q = refl
  from_end (suc most) q = ap (read_on (records_from most tape) at) q

  pub from_fault : (most : ℕ) (f : Fault) → next_record tape at ≡ Err f → records_from most tape at ≡ []
  unfolding records_from
  from_fault zero f q = refl
  from_fault (suc most) f q = ap (read_on (records_from most tape) at) q
