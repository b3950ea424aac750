-- What each call of an issuer answers and leaves.
use Rattle.std.specs.Prelude.{◌≡◌, ℕ, ◌+◌, ◌<◌, ◌≤◌, Bool, false, cond, List, ◌++◌, length, take, replicate, Some, Ok, Err, Option, Result, nat_le, nat_lt, slice_index_or, slice_set}
use Rattle.fault.specs.declared.Fault.{Fault}
use Rattle.fault.specs.declared.Part.TheVariants.{Call}
use Rattle.fault.specs.Faults.{fault}
use Rattle.field.specs.Fields.{Arithmetic}
use Rattle.field.specs.Coordinates.{Layout}
use Rattle.coding.specs.Encoding.{encoded_size_of, encoded}
use Rattle.tag.specs.Bodies.{body_bytes, written_first}
use Rattle.tag.specs.Tags.{tag_of}
use Rattle.tag.specs.Tickets.{then, pads_answer, pad_answer, ticket_answer}
use Rattle.issuer.specs.declared.marks.Mark.{Mark}
use Rattle.issuer.specs.declared.marks.Mark.TheVariants.{Undrawn, Drawn, Sealed, Void}
use Rattle.issuer.specs.declared.stubs.Stub.{Stub}
use Rattle.issuer.specs.declared.issuers.Issuer.{Issuer}
use Rattle.issuer.specs.Marks.{is_drawn, lowest_undrawn}

module _ {V : Type 0} where
  -- a new issuer: nothing is drawn
  abbrev pub fresh : V → Issuer V
  fresh key = record { key = key; marks = replicate 1024 Undrawn }

  -- the issuer with another mark for one number
  abbrev pub marked : Issuer V → ℕ → Mark → Issuer V
  marked issuer number mark = record { key = issuer.key; marks = slice_set issuer.marks number mark }

  -- whether the number was drawn here and is neither sealed nor void
  abbrev pub is_in_hand : Issuer V → ℕ → Bool
  is_in_hand issuer number = cond (nat_lt number 1024) (is_drawn (slice_index_or issuer.marks number Undrawn)) false

  abbrev pub void_answer : Issuer V → ℕ → Result (Unit {0}) Fault
  void_answer issuer number = cond (is_in_hand issuer number) (Ok tt) (Err (fault 14 Call 0))

  abbrev pub after_void : Issuer V → ℕ → Issuer V
  after_void issuer number = cond (is_in_hand issuer number) (marked issuer number Void) issuer

  -- a stub that was given is marked drawn
  abbrev pub drawn_by : Issuer V → Result Stub Fault → Issuer V
  drawn_by issuer (Ok stub) = marked issuer stub.number Drawn
  drawn_by issuer (Err f) = issuer

-- What a place holds after an issuer was asked for, by what reading the key answered: a new issuer with that key, or what it held.
abbrev pub Made : {V : Type 0} → Arithmetic V → Result (List ℕ) Fault → Option (Issuer V) → Option (Issuer V) → Type 0
Made {V = V} a (Ok meaning) before after = (key : V) × (a.meaning key ≡ meaning) × (after ≡ Some (fresh key))
Made a (Err f) before after = after ≡ before

-- a number in hand is sealed where its ticket was written, else void
abbrev pub mark_by : Result ℕ Fault → Mark
mark_by (Ok size) = Sealed
mark_by (Err f) = Void

-- A ticket with T bytes of tag can be written: its number, route and text are in range, and a paper of that room holds it.
pub record FitsPaper (T number route : ℕ) (text : List ℕ) (room : ℕ) : Type 0 where
  pub number_in_range : number < 1024
  pub route_in_range : route < 64
  pub text_in_range : length text ≤ 438
  pub room_enough : length text + 2 + T ≤ room

module _ {V : Type 0} (a : Arithmetic V) (l : Layout) (w : ℕ) where
  -- The stub that is given: refusal 6 for the pads, then 13 where none of their N numbers is left to draw.
  abbrev pub draw_answer : Issuer V → List ℕ → Result Stub Fault
  draw_answer issuer pads =
      then (pads_answer (encoded_size_of w l.count) (length pads)) (λ N.
      cond (nat_lt (lowest_undrawn issuer.marks) N) (Ok (record { number = lowest_undrawn issuer.marks; spent = false })) (Err (fault 13 Call 0)))

  abbrev pub after_draw : Issuer V → List ℕ → Issuer V
  after_draw issuer pads = drawn_by issuer (draw_answer issuer pads)

  -- a ticket: its body, and the encoding of the body's tag
  abbrev pub ticket_bytes : List ℕ → List ℕ → ℕ → ℕ → List ℕ → List ℕ
  ticket_bytes key pad number route text =
      body_bytes number route text ++ encoded w l.count (l.by_power (tag_of a l w key pad (body_bytes number route text)))

  -- The pad that a ticket is sealed with: refusal 6 for the pads, 8 for a number that has none, 17 for a route over 63,
  -- 5 for a text of more than 438 bytes, 12 for less room than the ticket takes, then those of decoding.
  abbrev pub pad_answer_for : ℕ → ℕ → List ℕ → List ℕ → ℕ → Result (List ℕ) Fault
  pad_answer_for number route text pads room =
      then (pads_answer (encoded_size_of w l.count) (length pads)) (λ N.
      cond (nat_lt number N)
      (cond (nat_lt route 64)
      (cond (nat_le (length text) 438)
      (cond (nat_le (length text + 2 + encoded_size_of w l.count) room) (pad_answer a l w pads number) (Err (fault 12 Call 0)))
      (Err (fault 5 Call 0)))
      (Err (fault 17 Call 0)))
      (Err (fault 8 Call 0)))

  -- The length of the ticket: refusal 14 for a number that is not in hand, then those of its pad.
  abbrev pub seal_answer : Issuer V → ℕ → ℕ → List ℕ → List ℕ → List ℕ → Result ℕ Fault
  seal_answer issuer number route text pads paper =
      cond (is_in_hand issuer number)
      (then (pad_answer_for number route text pads (length paper)) (λ _. Ok (length text + 2 + encoded_size_of w l.count)))
      (Err (fault 14 Call 0))

  abbrev pub after_seal : Issuer V → ℕ → ℕ → List ℕ → List ℕ → List ℕ → Issuer V
  after_seal issuer number route text pads paper =
      cond (is_in_hand issuer number) (marked issuer number (mark_by (seal_answer issuer number route text pads paper))) issuer

  -- the ticket first in its paper, the rest as it was; a refusal writes nothing
  abbrev pub written_by : Result (List ℕ) Fault → List ℕ → ℕ → ℕ → List ℕ → List ℕ → List ℕ
  written_by (Ok pad) key number route text paper = written_first (ticket_bytes key pad number route text) paper
  written_by (Err f) key number route text paper = paper

  abbrev pub sealed_paper : Issuer V → ℕ → ℕ → List ℕ → List ℕ → List ℕ → List ℕ
  sealed_paper issuer number route text pads paper =
      cond (is_in_hand issuer number) (written_by (pad_answer_for number route text pads (length paper)) (a.meaning issuer.key) number route text paper) paper

  -- A ticket is right: with any pads that have its pad at its number, its check under the key gives number, route and text.
  abbrev pub RightTicket : List ℕ → List ℕ → ℕ → ℕ → List ℕ → Type 0
  RightTicket key pad number route text =
      (pads : List ℕ) → pad_answer a l w pads number ≡ Ok pad → ticket_answer a l w key pads (ticket_bytes key pad number route text) ≡ Ok (record { number = number; route = route; text = text })

  -- What was sealed is right: the check of the ticket in its paper, under the issuer's key and the same pads, gives the number of the
  -- stub, the route and the text.
  abbrev pub SealedRight : Issuer V → ℕ → ℕ → List ℕ → List ℕ → List ℕ → Result ℕ Fault → Type 0
  SealedRight issuer number route text pads paper (Ok size) = ticket_answer a l w (a.meaning issuer.key) pads (take size paper) ≡ Ok (record { number = number; route = route; text = text })
  SealedRight issuer number route text pads paper (Err f) = Unit {0}
