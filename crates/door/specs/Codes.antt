-- The answer of a call as one number, and what a call leaves in a row that it was lent.
use Rattle.std.specs.Prelude.{◌≡◌, ℕ, ◌+◌, ◌*◌, cond, ◌⊎◌, List, length, Ok, Err, Result, nat_le, nat_lt}
use Rattle.fault.specs.declared.Fault.{Fault}
use Rattle.fault.specs.Faults.{refusal_number, part_number}
use Rattle.tag.specs.Bodies.{written_first}

-- A place has the upper 48 bits; one that does not fit there is told as 2^48 − 1. Here places are powers of X, which do.
abbrev pub told_place : ℕ → ℕ
told_place place = cond (nat_lt place 281474976710656) place 281474976710655

-- The fault as one number: its refusal, its part in steps of 256 and its place in steps of 65536.
abbrev pub fault_code : Fault → ℕ
fault_code f = refusal_number f.refusal + 256 * part_number f.part + 65536 * told_place f.place

-- 0 where the call is done, else its fault
abbrev pub code : Result Unit Fault → ℕ
code (Ok x) = 0
code (Err f) = fault_code f

-- the codes of no fault: that no form has the number, and that memory was wanting; both 2^64 − 1
abbrev pub no_such_form : ℕ
no_such_form = 18446744073709551615

abbrev pub no_memory : ℕ
no_memory = 18446744073709551615

-- the answer without its numbers
abbrev pub done : Result (List ℕ) Fault → Result Unit Fault
done (Ok xs) = Ok tt
done (Err f) = Err f

-- A lent row afterwards: the answer's numbers, and after a refusal what was there before.
abbrev pub left : Result (List ℕ) Fault → List ℕ → List ℕ
left (Ok xs) row = xs
left (Err f) row = row

-- a lent row with a text first in it, and as it was where the text is longer
abbrev pub with_text : List ℕ → List ℕ → List ℕ
with_text text row = cond (nat_le (length text) (length row)) (written_first text row) row

-- How a text is handed over: its length is answered and the row has it, or memory was wanting and the row is as it was.
abbrev pub HandsOver : List ℕ → List ℕ → ℕ → List ℕ → Type 0
HandsOver text row r new = ((r ≡ length text) × (new ≡ with_text text row)) ⊎ ((r ≡ no_memory) × (new ≡ row))
