-- What is sealed is right.
use Rattle.std.proofs.Common.{◌≡◌, ℕ, ◌+◌, List, length, take, Ok, Result, sym, ap, subst, ◌∙◌, arith}
use Rattle.std.proofs.lemmas.Grind.{common_steps}
use Rattle.fault.specs.declared.Fault.{Fault}
use Rattle.field.specs.Fields.{Arithmetic}
use Rattle.field.specs.Coordinates.{Layout}
use Rattle.std.proofs.lemmas.List.{take_at, length-append}
use Rattle.coding.specs.Encoding.{encoded_size_of}
use Rattle.tag.specs.Bodies.{written_first}
use Rattle.tag.specs.Tickets.{pad_answer, ticket_answer}
use Rattle.issuer.specs.declared.issuers.Issuer.{Issuer}
use Rattle.issuer.specs.Calls.{pad_answer_for, ticket_bytes, RightTicket, SealedRight}
use Rattle.coding.proofs.Regrouping.{length_regrouped}

module _ {V : Type 0} (a : Arithmetic V) (l : Layout) (w : ℕ) (issuer : Issuer V) (number route : ℕ) (text pads paper : List ℕ) where
  -- the pad that a ticket is sealed with is the pad of its number
  pad_of_number : (pad : List ℕ) → pad_answer_for a l w number route text pads (length paper) ≡ Ok pad → pad_answer a l w pads number ≡ Ok pad
  pad_of_number pad h = grind (arith, common_steps)

  -- a right ticket that was written first in its paper is what was sealed
  pub sealed_right : (pad now : List ℕ) (result : Result ℕ Fault) → result ≡ Ok (length text + 2 + encoded_size_of w l.count) → pad_answer_for a l w number route text pads (length paper) ≡ Ok pad
      → now ≡ written_first (ticket_bytes a l w (a.meaning issuer.key) pad number route text) paper → RightTicket a l w (a.meaning issuer.key) pad number route text → SealedRight a l w issuer number route text pads now result
  sealed_right pad now result size h e right =
      let key = a.meaning issuer.key in
      let ticket = ticket_bytes a l w key pad number route text in
      let long : length ticket ≡ length text + 2 + encoded_size_of w l.count = simp (length-append, length_regrouped) (omega arith) in
      subst (SealedRight a l w issuer number route text pads now) (sym size)
      (ap (ticket_answer a l w key pads) (ap (take (length text + 2 + encoded_size_of w l.count)) e ∙ take_at ticket _ _ long) ∙ right pads (pad_of_number pad h))
