use Rattle.std.proofs.Common.{refl}
use Rattle.field.specs.ExtensionCoordinates.{even_replaced, odd_replaced}
use Rattle.field.proofs.powers.QuadraticCoordinates.with_coefficient.Goals as goal

pub returns-in_ok-a0 : goal.returns-in_ok-a0
returns-in_ok-a0 g c = (
  c.in_ok-a0.ensures.0,
  even_replaced g.met.F.Field.laws g.met.F.Coordinates.coordinates (λ x. x.a0) (λ x. x.a1) c.args.self _ c.args.power c.args.coefficient c.if-power-eq0.true refl c.in_ok-a0.ensures.1,
)

pub returns-in_ok-a1 : goal.returns-in_ok-a1
returns-in_ok-a1 g c = (
  c.in_ok-a1.ensures.0,
  odd_replaced g.met.F.Field.laws g.met.F.Coordinates.coordinates (λ x. x.a0) (λ x. x.a1) c.args.self _ c.args.power c.args.coefficient c.if-power-eq0.false refl c.in_ok-a1.ensures.1,
)
