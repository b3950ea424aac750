use Rattle.std.proofs.Common.{subst, rules}
use Rattle.std.proofs.lemmas.List.{set-set}
use Rattle.issuer.specs.Calls.{RightTicket}
use Rattle.issuer.proofs.History.{sealed_once}
use Rattle.issuer.proofs.Sealing.{sealed_right}
use Rattle.issuer.proofs.issuers.Issuer.seal.Goals as goal

pub returns-in_err-in_hand-clause-no_number_is_sealed_twice : goal.returns-in_err-in_hand-clause-no_number_is_sealed_twice
returns-in_err-in_hand-clause-no_number_is_sealed_twice g c =
    sealed_once g.F.Field.arithmetic g.F.Coordinates.layout g.F.CodedField.bits c.args.self.now c.args.stub.number c.args.route c.args.text.now c.args.pads.now c.args.paper.now c.from_residual.result (search rules)

pub returns-in_err-pad-clause-no_number_is_sealed_twice : goal.returns-in_err-pad-clause-no_number_is_sealed_twice
returns-in_err-pad-clause-no_number_is_sealed_twice g c =
    sealed_once g.F.Field.arithmetic g.F.Coordinates.layout g.F.CodedField.bits c.args.self.now c.args.stub.number c.args.route c.args.text.now c.args.pads.now c.args.paper.now c.from_residual-in_err-pad.result (search rules)

pub returns-clause-after : goal.returns-clause-after
returns-clause-after g c = search (rules, set-set)

pub returns-clause-sealed_ticket_is_right : goal.returns-clause-sealed_ticket_is_right
returns-clause-sealed_ticket_is_right g c =
    sealed_right g.F.Field.arithmetic g.F.Coordinates.layout g.F.CodedField.bits c.args.self.now c.args.stub.number c.args.route c.args.text.now c.args.pads.now c.args.paper.now
    (g.F.Field.arithmetic.meaning c.in_ok-pad.pad) _ _ (search rules) (search rules) (search rules)
    (subst (λ n. RightTicket g.F.Field.arithmetic g.F.Coordinates.layout g.F.CodedField.bits (g.F.Field.arithmetic.meaning c.args.self.now.key) (g.F.Field.arithmetic.meaning c.in_ok-pad.pad) n c.args.route c.args.text.now) c.number-number.ensures c.write_ticket.ensures.right)

pub returns-clause-no_number_is_sealed_twice : goal.returns-clause-no_number_is_sealed_twice
returns-clause-no_number_is_sealed_twice g c =
    sealed_once g.F.Field.arithmetic g.F.Coordinates.layout g.F.CodedField.bits c.args.self.now c.args.stub.number c.args.route c.args.text.now c.args.pads.now c.args.paper.now c.write_ticket.result (search rules)
