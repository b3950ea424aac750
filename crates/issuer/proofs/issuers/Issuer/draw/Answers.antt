use Rattle.std.proofs.Common.{Ok, rules}
use Rattle.issuer.proofs.History.{numbered_in_order}
use Rattle.issuer.proofs.Walking.{lowest_first}
use Rattle.issuer.proofs.issuers.Issuer.draw.Goals as goal

pub returns-in_err-count-clause-stubs_are_numbered_in_order : goal.returns-in_err-count-clause-stubs_are_numbered_in_order
returns-in_err-count-clause-stubs_are_numbered_in_order g c =
    numbered_in_order g.F.Field.arithmetic g.F.Coordinates.layout g.F.CodedField.bits c.args.self.now c.args.pads.now c.from_residual.result (search rules)

pub returns-in_err-number-clause-stubs_are_numbered_in_order : goal.returns-in_err-number-clause-stubs_are_numbered_in_order
returns-in_err-number-clause-stubs_are_numbered_in_order g c =
    numbered_in_order g.F.Field.arithmetic g.F.Coordinates.layout g.F.CodedField.bits c.args.self.now c.args.pads.now c.from_residual-in_err-number.result (search (rules, lowest_first))

pub returns-clause-stubs_are_numbered_in_order : goal.returns-clause-stubs_are_numbered_in_order
returns-clause-stubs_are_numbered_in_order g c =
    numbered_in_order g.F.Field.arithmetic g.F.Coordinates.layout g.F.CodedField.bits c.args.self.now c.args.pads.now (Ok c.drawn.result) (search (rules, lowest_first))
