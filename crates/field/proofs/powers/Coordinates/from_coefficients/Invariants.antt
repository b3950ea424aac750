use Rattle.std.proofs.Common.{◌≡◌, ◌+◌, take, drop}
use Rattle.field.specs.Coordinates.{below_before}
use Rattle.field.proofs.powers.Coordinates.from_coefficients.Given as goal

-- the first coefficients stand in the value, and none of them was out of range
abbrev pub invariant-loop-power : goal.invariant-loop-power
invariant-loop-power g l =
    (take l.power (g.Self.Coordinates.layout.by_power (g.Self.Field.arithmetic.meaning l.value)) ≡ take l.power l.coefficients)
    × (l.power + below_before g.Self.Coordinates.layout.modulus (drop l.power l.coefficients) ≡ below_before g.Self.Coordinates.layout.modulus l.coefficients)
