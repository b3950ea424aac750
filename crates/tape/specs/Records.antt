-- The records of a tape: each starts with two bytes, which are a kind of two bits and a number of fourteen.
use Rattle.std.specs.Prelude.{◌≡◌, ℕ, ◌+◌, ◌-◌, ◌*◌, ◌/◌, ◌%◌, ◌<◌, ◌≤◌, cond, List, [], ◌∷◌, ◌++◌, length, take, drop, Some, None, Ok, Err, Option, Result, ◌==◌, nat_le, nat_lt, slice_index}
use Rattle.std.specs.Simd.Lanes.{Each1}
use Rattle.fault.specs.declared.Fault.{Fault}
use Rattle.fault.specs.declared.Part.TheVariants.{Tape}
use Rattle.fault.specs.Faults.{fault}
use Rattle.tape.specs.declared.Record.{Record}
use Rattle.tape.specs.declared.Record.TheVariants.{Check, Cancel, Report}

-- what a record asks for, wherever the ticket lies
pub data Request : Type 0 where
  check : List ℕ → Request
  cancel : ℕ → Request
  report : ℕ → Request

abbrev pub request : Record → Request
request (Check ticket) = check ticket.now
request (Cancel number) = cancel number
request (Report route) = report route

abbrev pub answered : Result (Option Record) Fault → Result (Option Request) Fault
answered (Ok (Some r)) = Ok (Some (request r))
answered (Ok None) = Ok None
answered (Err f) = Err f

-- the two bytes at the start of a record
abbrev pub head : List ℕ → ℕ → ℕ
head tape at = slice_index tape at * 256 + slice_index tape (at + 1)

-- A check of a ticket of that many bytes, a cancel of a number in the low 10 bits, a report of a route in the low 6;
-- refusal 16 for another kind or an unused bit that is 1, 15 for a ticket that is not there whole.
abbrev pub by_kind : List ℕ → ℕ → ℕ → ℕ → Result (Option Request) Fault
by_kind tape at kind number =
    cond (kind == 1)
    (cond (nat_lt (length tape - at - 2) number) (Err (fault 15 Tape at)) (Ok (Some (check (take number (drop (at + 2) tape))))))
    (cond (kind == 2)
    (cond (nat_lt number 1024) (Ok (Some (cancel number))) (Err (fault 16 Tape at)))
    (cond (kind == 3)
    (cond (nat_lt number 64) (Ok (Some (report number))) (Err (fault 16 Tape at)))
    (Err (fault 16 Tape at))))

-- the record that starts at a place, nothing at the end, or why there is none
abbrev pub next_record : List ℕ → ℕ → Result (Option Request) Fault
next_record tape at =
    cond (nat_le (length tape) at) (Ok None)
    (cond (nat_lt (length tape - at) 2) (Err (fault 15 Tape at)) (by_kind tape at (head tape at / 16384) (head tape at % 16384)))

-- The bytes of a record.
abbrev pub two_bytes : ℕ → List ℕ
two_bytes n = (n / 256) ∷ (n % 256) ∷ []

abbrev pub record_bytes : Request → List ℕ
record_bytes (check ticket) = two_bytes (16384 + length ticket) ++ ticket
record_bytes (cancel number) = two_bytes (32768 + number)
record_bytes (report route) = two_bytes (49152 + route)

-- where the next record starts
abbrev pub place_after : ℕ → Result (Option Request) Fault → ℕ
place_after at (Ok (Some r)) = at + length (record_bytes r)
place_after at (Ok None) = at
place_after at (Err f) = at

-- what the bits of a record have room for
abbrev pub Fits : Request → Type 0
Fits (check ticket) = length ticket < 16384
Fits (cancel number) = number < 1024
Fits (report route) = route < 64

-- the bytes of the record are the next ones of the tape
abbrev pub Stands : List ℕ → ℕ → Request → Type 0
Stands tape at r = Fits r × (drop at tape ≡ record_bytes r ++ drop (at + length (record_bytes r)) tape)

-- The record that is read at a place of a tape is the one whose bytes stand there, and one that stands there is read.
abbrev pub ReadsWhatStands : List ℕ → ℕ → Type 0
ReadsWhatStands tape at =
    Each1 (λ n. n < 256) tape → (r : Request)
    → (next_record tape at ≡ Ok (Some r) → Stands tape at r) × (Stands tape at r → next_record tape at ≡ Ok (Some r))

-- records that fit, and their bytes one behind the other
abbrev pub EachFits : List Request → Type 0
EachFits [] = Unit {0}
EachFits (r ∷ rs) = Fits r × EachFits rs

abbrev pub all_bytes : List Request → List ℕ
all_bytes [] = []
all_bytes (r ∷ rs) = record_bytes r ++ all_bytes rs

-- the tape up to a place is these records, and nothing between them
abbrev pub Holds : List ℕ → ℕ → List Request → Type 0
Holds tape at rs = EachFits rs × (at ≤ length tape) × (take at tape ≡ all_bytes rs)

-- Over a whole reading: from records that the tape holds up to a place, the next one read leads to those that it holds
-- up to the next place; and bytes hold no other records than these.
pub record ReadingIsWhole (tape : List ℕ) (at : ℕ) : Type 0 where
  pub begins : Holds tape 0 []
  pub goes_on : Each1 (λ n. n < 256) tape → (rs : List Request) (r : Request) → Holds tape at rs → next_record tape at ≡ Ok (Some r) → Holds tape (place_after at (Ok (Some r))) (rs ++ r ∷ [])
  pub ends : next_record tape at ≡ Ok None → (rs : List Request) → Holds tape at rs → tape ≡ all_bytes rs
  pub no_other : (rs ss : List Request) → EachFits rs → EachFits ss → all_bytes rs ≡ all_bytes ss → rs ≡ ss
