-- The bytes of a body, and what making and opening one answer.
use Rattle.std.specs.Prelude.{ℕ, ◌+◌, ◌*◌, ◌/◌, ◌%◌, cond, List, ◌∷◌, ◌++◌, length, drop, Ok, Err, Result, nat_le, nat_lt, slice_index}
use Rattle.fault.specs.declared.Fault.{Fault}
use Rattle.fault.specs.declared.Part.TheVariants.{Call}
use Rattle.fault.specs.Faults.{fault}
use Rattle.tag.specs.declared.bodies.Body.{Body}

-- a ticket's number in 10 bits and its route in 6, and then its text
abbrev pub body_bytes : ℕ → ℕ → List ℕ → List ℕ
body_bytes number route text = ((number * 64 + route) / 256) ∷ ((number * 64 + route) % 256) ∷ text

-- The length of the body that is made, or why none is: refusal 8 for a number over 1023, 17 for a route over 63,
-- 5 for a text of more than 438 bytes, 12 for a paper that is shorter than the body.
abbrev pub body_answer : ℕ → ℕ → List ℕ → ℕ → Result ℕ Fault
body_answer number route text paper =
    cond (nat_lt number 1024)
    (cond (nat_lt route 64)
    (cond (nat_le (length text) 438) (cond (nat_le (length text + 2) paper) (Ok (length text + 2)) (Err (fault 12 Call 0))) (Err (fault 5 Call 0)))
    (Err (fault 17 Call 0)))
    (Err (fault 8 Call 0))

-- a paper with bytes written first in it, the rest as it was
abbrev pub written_first : List ℕ → List ℕ → List ℕ
written_first bytes paper = bytes ++ drop (length bytes) paper

-- what a paper holds after a body was asked for: only where nothing is refused is it written
abbrev pub body_paper : ℕ → ℕ → List ℕ → List ℕ → List ℕ
body_paper number route text paper =
    cond (nat_lt number 1024)
    (cond (nat_lt route 64)
    (cond (nat_le (length text) 438) (cond (nat_le (length text + 2) (length paper)) (written_first (body_bytes number route text) paper) paper) paper)
    paper)
    paper

abbrev pub head_number : List ℕ → ℕ
head_number bytes = slice_index bytes 0 * 256 + slice_index bytes 1

-- what holds of a body's length: it is 2 to 440 bytes, else refusal 5
abbrev pub if_length : {A : Type 0} → List ℕ → A → Result A Fault
if_length bytes x = cond (nat_le 2 (length bytes)) (cond (nat_le (length bytes) 440) (Ok x) (Err (fault 5 Call 0))) (Err (fault 5 Call 0))

-- the number, route and text of a body
pub record Opened : Type 0 where
  pub number : ℕ
  pub route : ℕ
  pub text : List ℕ

-- the same of a body that was taken apart, wherever its text lies
abbrev pub parts_of : Body → Opened
parts_of b = record { number = b.number; route = b.route; text = b.text.now }

abbrev pub parts : List ℕ → Opened
parts bytes = record { number = head_number bytes / 64; route = head_number bytes % 64; text = drop 2 bytes }

abbrev pub opened : List ℕ → Result Opened Fault
opened bytes = if_length bytes (parts bytes)
