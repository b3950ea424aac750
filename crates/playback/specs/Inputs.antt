-- The input of a shift: an encoded key, a count of pads in two bytes, the pads, and then the tape.
use Rattle.std.specs.Prelude.{◌≡◌, ℕ, ◌+◌, ◌*◌, cond, List, length, take, drop, Ok, Err, Result, nat_le, slice_index}
use Rattle.fault.specs.declared.Fault.{Fault}
use Rattle.fault.specs.declared.Part.TheVariants as part
use Rattle.fault.specs.Faults.{fault}
use Rattle.field.specs.Fields.{Arithmetic}
use Rattle.field.specs.Coordinates.{Layout}
use Rattle.coding.specs.Encoding.{encoded_size_of}
use Rattle.tag.specs.Tickets.{then, key_answer}
use Rattle.validator.specs.declared.Validator.{Validator}
use Rattle.validator.specs.Calls.{blank}
use Rattle.playback.specs.declared.inputs.Input.{Input}

-- a key, pads and a tape
pub record Parts : Type 0 where
  pub key : List ℕ
  pub pads : List ℕ
  pub tape : List ℕ

-- what taking an input apart answered, wherever the parts lie in it
abbrev pub opened : Result Input Fault → Result Parts Fault
opened (Ok i) = Ok (record { key = i.key.now; pads = i.pads.now; tape = i.tape.now })
opened (Err f) = Err f

-- the count of pads that an input names
abbrev pub pad_count : ℕ → List ℕ → ℕ
pad_count T input = slice_index input T * 256 + slice_index input (T + 1)

-- The parts of an input, with the key still encoded: refusal 3 for fewer bytes than T + 2 or more than 49152, then 6 for
-- a count of pads outside 1 to 1024 or fewer pads than that.
abbrev pub input_answer : ℕ → List ℕ → Result Parts Fault
input_answer T input =
    cond (nat_le (T + 2) (length input))
    (cond (nat_le (length input) 49152)
    (cond (nat_le 1 (pad_count T input))
    (cond (nat_le (pad_count T input) 1024)
    (cond (nat_le (T + 2 + pad_count T input * T) (length input))
    (Ok (record { key = take T input; pads = take (pad_count T input * T) (drop (T + 2) input); tape = drop (T + 2 + pad_count T input * T) input }))
    (Err (fault 6 part.Call 0)))
    (Err (fault 6 part.Call 0)))
    (Err (fault 6 part.Call 0)))
    (Err (fault 3 part.Call 0)))
    (Err (fault 3 part.Call 0))

-- The parts of an input, with the meaning of the key: after those of the input come the refusals of the key.
abbrev pub start_answer : {V : Type 0} → Arithmetic V → Layout → ℕ → List ℕ → Result Parts Fault
start_answer a l w input =
    then (input_answer (encoded_size_of w l.count) input) (λ p.
    then (key_answer a l w p.key) (λ key. Ok (record { key = key; pads = p.pads; tape = p.tape })))

-- a shift has begun: a blank validator has the input's key, and the pads and the tape are the input's
abbrev pub Begun : {V : Type 0} → Arithmetic V → Layout → ℕ → List ℕ → Validator V → List ℕ → List ℕ → Type 0
Begun a l w input v pads tape = (v ≡ blank v.key) × (start_answer a l w input ≡ Ok (record { key = a.meaning v.key; pads = pads; tape = tape }))
