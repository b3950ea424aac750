-- What each call of a validator answers, and what the validator is after it.
use Rattle.std.specs.Prelude.{◌≡◌, ℕ, ◌+◌, min, cond, List, length, replicate, Some, None, Ok, Err, Option, Result, nat_le, nat_lt, slice_index, slice_index_or, slice_set}
use Rattle.fault.specs.declared.Fault.{Fault}
use Rattle.fault.specs.declared.Part.TheVariants as part
use Rattle.fault.specs.Faults.{fault}
use Rattle.field.specs.Fields.{Arithmetic}
use Rattle.field.specs.Coordinates.{Layout}
use Rattle.coding.specs.Encoding.{encoded_size_of}
use Rattle.tag.specs.Bodies.{parts}
use Rattle.tag.specs.Tickets.{then, pads_answer, ticket_body, ticket_answer}
use Rattle.validator.specs.declared.Mark.{Mark}
use Rattle.validator.specs.declared.Mark.TheVariants.{Blank, Ridden, Cancelled}
use Rattle.validator.specs.declared.Event.{Event}
use Rattle.validator.specs.declared.Event.TheVariants.{Check, Cancel}
use Rattle.validator.specs.declared.Validator.{Validator}

-- a call of a validator, refused or not
pub data Call : Type 0 where
  check : (ticket pads : List ℕ) → Call
  cancel : (number : ℕ) → Call
  report : (route : ℕ) → Call

-- What the mark of a number and an event decide together: the next mark, refusal 10 for a ridden number, 9 for a cancelled one.
abbrev pub next_mark_of : Mark → Event → Result Mark Fault
next_mark_of Blank Check = Ok Ridden
next_mark_of Blank Cancel = Ok Cancelled
next_mark_of Ridden event = Err (fault 10 part.Call 0)
next_mark_of Cancelled event = Err (fault 9 part.Call 0)

-- done, or the refusal
abbrev pub done : {A : Type 0} → Result A Fault → Result (Unit {0}) Fault
done (Ok x) = Ok tt
done (Err f) = Err f

module _ {V : Type 0} where
  -- a validator that got no call yet
  abbrev pub blank : V → Validator V
  blank key = record { key = key; marks = replicate 1024 Blank; counts = replicate 64 0 }

  abbrev pub marked : Validator V → ℕ → Mark → Validator V
  marked v number mark = record { key = v.key; marks = slice_set v.marks number mark; counts = v.counts }

  -- A ride: the number is marked, and its route has one ride more. A count stops at 65535, which no shift reaches.
  abbrev pub ridden : Validator V → ℕ → ℕ → Validator V
  ridden v number route =
      record { key = v.key; marks = slice_set v.marks number Ridden; counts = slice_set v.counts route (min (slice_index v.counts route + 1) 65535) }

  -- Cancelling a number: refusal 8 for one over 1023, then as its mark decides.
  abbrev pub cancel_answer : Validator V → ℕ → Result Mark Fault
  cancel_answer v number = cond (nat_lt number 1024) (next_mark_of (slice_index_or v.marks number Blank) Cancel) (Err (fault 8 part.Call 0))

  -- The rides of a route: refusal 17 for one over 63.
  abbrev pub report_answer : Validator V → ℕ → Result ℕ Fault
  report_answer v route = cond (nat_lt route 64) (Ok (slice_index v.counts route)) (Err (fault 17 part.Call 0))

  abbrev pub after_check : Validator V → ℕ → Result ℕ Fault → Validator V
  after_check v number (Ok route) = ridden v number route
  after_check v number (Err f) = v

  abbrev pub after_cancel : Validator V → ℕ → Result Mark Fault → Validator V
  after_cancel v number (Ok mark) = marked v number mark
  after_cancel v number (Err f) = v

-- A validator that is made from what reading its key answered: a blank one with that key, or the refusal.
abbrev pub IsBlankWith : {V : Type 0} → Arithmetic V → Result (List ℕ) Fault → Result (Validator V) Fault → Type 0
IsBlankWith a key (Ok v) = (v ≡ blank v.key) × (key ≡ Ok (a.meaning v.key))
IsBlankWith a key (Err f) = key ≡ Err f

module _ {V : Type 0} (a : Arithmetic V) (l : Layout) (w : ℕ) where
  -- A validator that is made from an encoded key in a place: a blank one with that key; a refusal leaves the place alone.
  abbrev pub Placed : Result (List ℕ) Fault → Option (Validator V) → Option (Validator V) → Type 0
  Placed (Ok key) before (Some v) = (v ≡ blank v.key) × (a.meaning v.key ≡ key)
  Placed (Ok key) before None = ⊥
  Placed (Err f) before after = after ≡ before

  abbrev pub ticket_number_of : List ℕ → ℕ
  ticket_number_of ticket = (parts (ticket_body a l w ticket)).number

  -- The number of a ticket before its mark is looked at: refusal 5 for its length, 6 for the pads, 8 where it has no pad.
  abbrev pub number_answer : List ℕ → List ℕ → Result ℕ Fault
  number_answer ticket pads =
      cond (nat_le (encoded_size_of w l.count + 2) (length ticket))
      (cond (nat_le (length ticket) (encoded_size_of w l.count + 440))
      (then (pads_answer (encoded_size_of w l.count) (length pads)) (λ N.
      cond (nat_lt (ticket_number_of ticket) N) (Ok (ticket_number_of ticket)) (Err (fault 8 part.Call 0))))
      (Err (fault 5 part.Call 0)))
      (Err (fault 5 part.Call 0))

  -- The route of a ticket that may ride: the refusals of its number, then of the number's mark, then those of its pad and tag.
  abbrev pub check_answer : Validator V → List ℕ → List ℕ → Result ℕ Fault
  check_answer v ticket pads =
      then (number_answer ticket pads) (λ n.
      then (next_mark_of (slice_index_or v.marks n Blank) Check) (λ _.
      then (ticket_answer a l w (a.meaning v.key) pads ticket) (λ o. Ok o.route)))

  -- the validator after a call; a refused one alters nothing
  abbrev pub after : Validator V → Call → Validator V
  after v (check ticket pads) = after_check v (ticket_number_of ticket) (check_answer v ticket pads)
  after v (cancel number) = after_cancel v number (cancel_answer v number)
  after v (report route) = v
