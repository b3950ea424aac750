use Rattle.std.proofs.Common.{sym, ◌∙◌}
use Rattle.field.specs.ExtensionCoordinates.{even_coefficient, odd_coefficient}
use Rattle.field.proofs.powers.QuadraticCoordinates.coefficient.Goals as goal

pub returns-then-power-eq0 : goal.returns-then-power-eq0
returns-then-power-eq0 g c =
    c.coefficient.ensures
    ∙ sym (even_coefficient g.met.F.Field.laws g.met.F.Coordinates.coordinates (λ x. x.a0) (λ x. x.a1) c.args.self c.args.power c.if-power-eq0.true)

pub returns-else-power-eq0 : goal.returns-else-power-eq0
returns-else-power-eq0 g c =
    c.coefficient-else-power-eq0.ensures
    ∙ sym (odd_coefficient g.met.F.Field.laws g.met.F.Coordinates.coordinates (λ x. x.a0) (λ x. x.a1) c.args.self c.args.power c.if-power-eq0.false)
