-- The number of a ticket, as it is looked up and as a right ticket has it.
use Rattle.std.proofs.Common.{◌≡◌, ℕ, ◌<◌, List, Ok, arith}
use Rattle.std.proofs.lemmas.Grind.{common_steps}
use Rattle.field.specs.Fields.{Arithmetic}
use Rattle.field.specs.Coordinates.{Layout}
use Rattle.tag.specs.Bodies.{Opened}
use Rattle.tag.specs.Tickets.{ticket_answer}
use Rattle.validator.specs.Calls.{ticket_number_of, number_answer}

module _ {V : Type 0} (a : Arithmetic V) (l : Layout) (w : ℕ) (ticket pads : List ℕ) where
  pub number_known : (n : ℕ) → number_answer a l w ticket pads ≡ Ok n → (ticket_number_of a l w ticket ≡ n) × (n < 1024)
  number_known n h = grind (arith, common_steps)

  -- A right ticket has the number that is looked up, and a route below 64.
  pub right_number : (key : List ℕ) (o : Opened) → ticket_answer a l w key pads ticket ≡ Ok o → (number_answer a l w ticket pads ≡ Ok o.number) × (o.route < 64)
  right_number key o h = grind (arith, common_steps)
