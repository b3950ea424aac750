-- The lines of a shift: one for each record of its tape, and a last one.
use Rattle.std.specs.Prelude.{◌≡◌, ℕ, zero, suc, ◌+◌, ◌<◌, List, [], ◌∷◌, ◌++◌, map, length, take, Some, None, Ok, Err, Option, Result, ◌≢◌, slice_index_or}
use Rattle.fault.specs.declared.Fault.{Fault}
use Rattle.field.specs.Fields.{Arithmetic}
use Rattle.field.specs.Coordinates.{Layout}
use Rattle.tape.specs.Records.{Request, check, cancel, report, next_record, record_bytes, all_bytes, Holds}
use Rattle.validator.specs.declared.Mark.{Mark}
use Rattle.validator.specs.declared.Validator.{Validator}
use Rattle.validator.specs.Calls as calls
use Rattle.validator.specs.Calls.{Call, blank, check_answer, cancel_answer, report_answer, after}
use Rattle.validator.specs.Shifts as shifts
use Rattle.playback.specs.declared.lines.Line.{Line}
use Rattle.playback.specs.declared.lines.Line.TheVariants.{Pass, Refused, Cancelled, Rides, End}
use Rattle.playback.specs.Inputs.{Parts, start_answer}

-- What is read on after the record at a place, if there is one.
abbrev pub read_on : (ℕ → List Request) → ℕ → Result (Option Request) Fault → List Request
read_on next at (Ok (Some r)) = r ∷ next (at + length (record_bytes r))
read_on next at (Ok None) = []
read_on next at (Err f) = []

-- The records of a tape from a place on, up to its end or its first fault, but no more than so many.
unfoldable pub records_from : ℕ → List ℕ → ℕ → List Request
records_from zero tape at = []
records_from (suc most) tape at = read_on (records_from most tape) at (next_record tape at)

-- The records of a tape; it has no more of them than bytes.
abbrev pub records : List ℕ → List Request
records tape = records_from (length tape) tape 0

-- the place at which their reading ends
abbrev pub reading_end : List ℕ → ℕ
reading_end tape = length (all_bytes (records tape))

-- The records are all that the tape holds, in its order, up to its end or its first fault.
pub record RecordsAreWhole (tape : List ℕ) : Type 0 where
  pub held : Holds tape (reading_end tape) (records tape)
  pub none_left : (r : Request) → next_record tape (reading_end tape) ≢ Ok (Some r)

-- the call that a record asks for
abbrev pub call : List ℕ → Request → Call
call pads (check ticket) = calls.check ticket pads
call pads (cancel number) = calls.cancel number
call pads (report route) = calls.report route

abbrev pub check_line : ℕ → Result ℕ Fault → Line
check_line n (Ok route) = Pass n route
check_line n (Err f) = Refused n f

abbrev pub cancel_line : ℕ → Result Mark Fault → Line
cancel_line n (Ok mark) = Cancelled n
cancel_line n (Err f) = Refused n f

abbrev pub report_line : ℕ → Result ℕ Fault → Line
report_line n (Ok count) = Rides n count
report_line n (Err f) = Refused n f

-- What follows the lines of n records: a fault of the tape has its own line, and the last one counts those above it.
abbrev pub closing : ℕ → Result (Option Request) Fault → List Line
closing n (Ok end) = End n ∷ []
closing n (Err f) = Refused (suc n) f ∷ End (suc n) ∷ []

module _ {V : Type 0} (a : Arithmetic V) (l : Layout) (w : ℕ) where
  -- the line of record n, which is the validator's next call
  abbrev pub line_of : ℕ → Validator V → Call → Line
  line_of n v (calls.check ticket pads) = check_line n (check_answer a l w v ticket pads)
  line_of n v (calls.cancel number) = cancel_line n (cancel_answer v number)
  line_of n v (calls.report route) = report_line n (report_answer v route)

  -- the lines of records n + 1, n + 2, .. as the validator answers one after the other
  unfoldable pub call_lines : ℕ → Validator V → List Call → List Line
  call_lines n v [] = []
  call_lines n v (c ∷ cs) = line_of (suc n) v c ∷ call_lines (suc n) (after a l w v c) cs

  abbrev pub tape_lines : Validator V → List ℕ → List ℕ → List Line
  tape_lines v pads tape = call_lines 0 v (map (call pads) (records tape)) ++ closing (length (records tape)) (next_record tape (reading_end tape))

-- the same arithmetic, with lists of numbers that mean themselves
abbrev pub of_meanings : {V : Type 0} → Arithmetic V → Arithmetic (List ℕ)
of_meanings a =
    record {
      meaning = λ x. x;
      size = a.size;
      zero = a.zero;
      one = a.one;
      plus = a.plus;
      times = a.times;
      opposite = a.opposite;
      non_residue = a.non_residue;
      sqrt_minus_one = a.sqrt_minus_one;
    }

module _ {V : Type 0} (a : Arithmetic V) (l : Layout) (w : ℕ) where
  -- the lines of a shift whose validator has the key, or the one line of a fault before it
  abbrev pub started_lines : Result Parts Fault → List Line
  started_lines (Ok p) = tape_lines (of_meanings a) l w (blank p.key) p.pads p.tape
  started_lines (Err f) = Refused 0 f ∷ End 1 ∷ []

  abbrev pub shift_lines : List ℕ → List Line
  shift_lines input = started_lines (start_answer a l w input)

  -- Of the records of the whole tape, each report has a line with the number of rides of its route in the calls before it.
  pub record Played (p : Parts) (ls : List Line) : Type 0 where
    pub whole : RecordsAreWhole p.tape
    pub reports :
        (i r : ℕ) → i < length (records p.tape) → slice_index_or (records p.tape) i (cancel 0) ≡ report r
        → (c : ℕ) × (slice_index_or ls i (End 0) ≡ Rides (suc i) c) × shifts.Rides (of_meanings a) l w p.key (map (call p.pads) (take i (records p.tape))) r c

  abbrev pub PlaysTheWholeTape : List ℕ → List Line → Type 0
  PlaysTheWholeTape input ls = (p : Parts) → start_answer a l w input ≡ Ok p → Played p ls
