-- One of the calls, with what it is asked of: what it answers in a field, and what it leaves in the two rows that it is lent.
use Rattle.std.specs.Prelude.{◌≡◌, ℕ, List, length, Result}
use Rattle.fault.specs.declared.Fault.{Fault}
use Rattle.field.specs.Fields.{Arithmetic}
use Rattle.field.specs.Coordinates.{Layout}
use Rattle.door.specs.declared.calls.Task.{Task}
use Rattle.door.specs.declared.calls.Task.TheVariants.{Product, Inverse, Encode, Decode, Tag}
use Rattle.door.specs.Calls.{product_answer, inverse_answer, LeftInverse, encode_answer, decode_answer, tag_bytes}
use Rattle.door.specs.Codes.{left}

module _ {V : Type 0} (a : Arithmetic V) (l : Layout) (w : ℕ) where
  -- The answer, where the row for numbers has so many places and the row for bytes so many.
  abbrev pub task_answer : Task → ℕ → ℕ → Result (List ℕ) Fault
  task_answer (Product x y) numbers bytes = product_answer a l x.now y.now numbers
  task_answer (Inverse x) numbers bytes = inverse_answer a l x.now numbers
  task_answer (Encode x) numbers bytes = encode_answer l w x.now bytes
  task_answer (Decode x) numbers bytes = decode_answer l w x.now numbers
  task_answer (Tag key pad body) numbers bytes = tag_bytes a l w key.now pad.now body.now bytes

  -- The row for numbers before and afterwards; a call that writes bytes leaves it as it was.
  abbrev pub NumbersLeft : Task → List ℕ → List ℕ → Type 0
  NumbersLeft (Product x y) row new = new ≡ left (product_answer a l x.now y.now (length row)) row
  NumbersLeft (Inverse x) row new = LeftInverse a l (inverse_answer a l x.now (length row)) row new
  NumbersLeft (Encode x) row new = new ≡ row
  NumbersLeft (Decode x) row new = new ≡ left (decode_answer l w x.now (length row)) row
  NumbersLeft (Tag key pad body) row new = new ≡ row

  -- The row for bytes before and afterwards.
  abbrev pub BytesLeft : Task → List ℕ → List ℕ → Type 0
  BytesLeft (Product x y) row new = new ≡ row
  BytesLeft (Inverse x) row new = new ≡ row
  BytesLeft (Encode x) row new = new ≡ left (encode_answer l w x.now (length row)) row
  BytesLeft (Decode x) row new = new ≡ row
  BytesLeft (Tag key pad body) row new = new ≡ left (tag_bytes a l w key.now pad.now body.now (length row)) row
