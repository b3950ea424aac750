use Rattle.std.proofs.Common.{◌++◌, ap, ◌∙◌}
use Rattle.field.specs.ExtensionLaws.{extension_by_generator}
use Rattle.field.proofs.extension.QuadraticField.mul_by_non_residue.Goals as goal

pub returns : goal.returns
returns g c =
    ap (λ t. t ++ g.F.Field.arithmetic.meaning c.args.self.a0) c.mul_by_non_residue.ensures
    ∙ extension_by_generator g.met.F.Field.laws (λ x. x.a0) (λ x. x.a1) c.args.self
