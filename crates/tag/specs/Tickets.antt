-- Tags as they are asked for: what making one, reading a key or a pad and checking a ticket answer.
use Rattle.std.specs.Prelude.{◌≡◌, ℕ, ◌+◌, ◌-◌, ◌*◌, ◌/◌, Bool, cond, List, length, take, drop, Ok, Err, Result, ◌==◌, nat_eq, nat_le, nat_lt}
use Rattle.std.specs.Cmp.Lexicographic.{pointwise}
use Rattle.fault.specs.declared.Fault.{Fault}
use Rattle.fault.specs.declared.Part.TheVariants.{Call, Key, Pad, Tag}
use Rattle.fault.specs.Faults.{fault}
use Rattle.field.specs.Fields.{Arithmetic}
use Rattle.field.specs.Coordinates.{Layout}
use Rattle.coding.specs.Encoding.{encoded_size_of, block_size_of, decoded}
use Rattle.tag.specs.Bodies.{Opened, parts, if_length}
use Rattle.tag.specs.Tags.{tag_of, block_count}

-- the answer has the meaning, or the refusal, that is due
abbrev pub Answers : {V M : Type 0} → (V → M) → Result M Fault → Result V Fault → Type 0
Answers meaning due (Ok v) = due ≡ Ok (meaning v)
Answers meaning due (Err f) = due ≡ Err f

-- the first refusal, or what is made of what is given
abbrev pub then : {A B : Type 0} → Result A Fault → (A → Result B Fault) → Result B Fault
then (Ok x) next = next x
then (Err f) next = Err f

-- How many pads of T bytes there are: 1 to 1024, in whole, else refusal 6.
abbrev pub pads_answer : ℕ → ℕ → Result ℕ Fault
pads_answer T n =
    cond (n / T * T == n) (cond (nat_le 1 (n / T)) (cond (nat_le (n / T) 1024) (Ok (n / T)) (Err (fault 6 Call 0))) (Err (fault 6 Call 0))) (Err (fault 6 Call 0))

-- whether two lists of numbers are the same
abbrev pub same_numbers : List ℕ → List ℕ → Bool
same_numbers = pointwise nat_eq

module _ {V : Type 0} (a : Arithmetic V) (l : Layout) (w : ℕ) where
  -- the count of blocks of a body of n bytes
  abbrev pub blocks_answer : ℕ → Result ℕ Fault
  blocks_answer n = cond (nat_le 2 n) (cond (nat_le n 440) (Ok (block_count (block_size_of w l.count) n)) (Err (fault 5 Call 0))) (Err (fault 5 Call 0))

  abbrev pub tag_answer : List ℕ → List ℕ → List ℕ → Result (List ℕ) Fault
  tag_answer key pad body = if_length body (tag_of a l w key pad body)

  -- The key that bytes encode: the refusals of decoding, then 7 for zero, which is no key.
  abbrev pub key_answer : List ℕ → Result (List ℕ) Fault
  key_answer bytes =
      then (decoded l w Key bytes) (λ xs.
      cond (same_numbers (l.from_power xs) a.zero) (Err (fault 7 Key 0)) (Ok (l.from_power xs)))

  -- The pad of a ticket number: refusal 6 for the pads, 8 for a number that has none, then those of decoding.
  abbrev pub pad_answer : List ℕ → ℕ → Result (List ℕ) Fault
  pad_answer pads number =
      then (pads_answer (encoded_size_of w l.count) (length pads)) (λ N.
      cond (nat_lt number N)
      (then (decoded l w Pad (take (encoded_size_of w l.count) (drop (encoded_size_of w l.count * number) pads))) (λ xs. Ok (l.from_power xs)))
      (Err (fault 8 Call 0)))

  -- the body and the encoded tag of a ticket
  abbrev pub ticket_body : List ℕ → List ℕ
  ticket_body ticket = take (length ticket - encoded_size_of w l.count) ticket

  abbrev pub ticket_tag : List ℕ → List ℕ
  ticket_tag ticket = drop (length ticket - encoded_size_of w l.count) ticket

  -- The parts of a ticket whose tag is right: refusal 5 for its length, those of its pad, those of decoding its tag,
  -- and 11 where the tag is another than that of its body.
  abbrev pub ticket_answer : List ℕ → List ℕ → List ℕ → Result Opened Fault
  ticket_answer key pads ticket =
      cond (nat_le (encoded_size_of w l.count + 2) (length ticket))
      (cond (nat_le (length ticket) (encoded_size_of w l.count + 440))
      (then (pad_answer pads (parts (ticket_body ticket)).number) (λ pad.
      then (decoded l w Tag (ticket_tag ticket)) (λ xs.
      cond (same_numbers (tag_of a l w key pad (ticket_body ticket)) (l.from_power xs)) (Ok (parts (ticket_body ticket))) (Err (fault 11 Call 0)))))
      (Err (fault 5 Call 0)))
      (Err (fault 5 Call 0))
