use Rattle.std.proofs.Common.{◌≡◌, ◌-◌, length, sym, ap, ◌∙◌, arith, cond, Ok, Err}
use Rattle.std.specs.Cmp.Lexicographic.{bytes_decides}
use Rattle.std.proofs.lemmas.Bool.Decides.{same_from_decides}
use Rattle.fault.specs.declared.Part.TheVariants.{Call}
use Rattle.fault.specs.Faults.{fault}
use Rattle.coding.specs.Encoding.{encoded_size_of}
use Rattle.tag.specs.Bodies.{parts_of}
use Rattle.tag.specs.Tickets.{ticket_answer}
use Rattle.tag.proofs.Reading.{ticket_compared}
use Rattle.tag.proofs.tickets.check_ticket.Given as given
use Rattle.tag.proofs.tickets.check_ticket.Goals as goal
use Rattle.tag.proofs.tickets.check_ticket.Goals.{After-eq}

-- what the ticket answers, where `==` has compared the tag that is right with the one that the ticket claims
compared : (g : given.Over) (c : goal.After-eq g)
    → ticket_answer g.F.Field.arithmetic g.F.Coordinates.layout g.F.CodedField.bits (g.F.Field.arithmetic.meaning c.args.key) c.args.pads.now c.args.ticket.now
    ≡ cond c.eq.result (Ok (parts_of c.in_ok-body.body)) (Err (fault 11 Call 0))
compared g c =
    let l = g.F.Coordinates.layout in
    let w = g.F.CodedField.bits in
    let end : c.in-Some.end ≡ length c.args.ticket.now - encoded_size_of w l.count = omega arith in
    let as_read = ticket_compared g.F.Field.arithmetic l w _ c.args.pads.now c.args.ticket.now c.in-Some.end _ _ _ _ _ _ end c.split_at.ensures.front c.split_at.ensures.back c.in_ok-body.ensures c.in_ok-pad.ensures c.in_ok-claimed.ensures.answer c.in_ok-right.ensures.answer in
    let same = same_from_decides _ _ (bytes_decides _ _) (g.met.F.Field.equal_by_meaning c.in_ok-right.right c.in_ok-claimed.claimed) in
    as_read ∙ rw (g.met.F.Coordinates.coordinates.told_back c.in_ok-claimed.claimed, same, c.eq.ensures)

pub returns-then-eq : goal.returns-then-eq
returns-then-eq g c = let told = compared g (goal.at.returns-then-eq g c).After-eq in rw c.if-eq.true at told

pub returns-else-eq : goal.returns-else-eq
returns-else-eq g c = let refused = compared g (goal.at.returns-else-eq g c).After-eq in rw c.if-eq.false at refused ∙ ap Err (sym c.of_call-else-eq.ensures)
