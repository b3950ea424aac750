use Rattle.std.proofs.Common.{rules}
use Rattle.validator.proofs.Rides.{reports_its_rides}
use Rattle.validator.proofs.Validator.report.Goals as goal

pub returns-clause-rides : goal.returns-clause-rides
returns-clause-rides g c = reports_its_rides g.F.Field.arithmetic g.F.Coordinates.layout g.F.CodedField.bits c.args.self.now c.args.route _ (search rules)
