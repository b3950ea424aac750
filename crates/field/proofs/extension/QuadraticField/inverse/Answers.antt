use Rattle.std.proofs.Common.{◌++◌, sym, ap, ◌∙◌, ap₂}
use Rattle.std.proofs.lemmas.Result.{err_from_is_err_and}
use Rattle.field.specs.Quadratics.{quadratic, quadratic_laws}
use Rattle.field.specs.ExtensionLaws.{extension_inverse, norm_zero_means_zero}
use Rattle.field.proofs.UniqueInverses.{inverse_not_zero}
use Rattle.field.proofs.extension.QuadraticField.inverse.Goals as goal

pub returns-in_err-factor : goal.returns-in_err-factor
returns-in_err-factor g c =
    let p = err_from_is_err_and c.from_residual.result c.from_residual.ensures.1 in
    let zero = norm_zero_means_zero g.met.F.Field.laws (λ x. x.a0) (λ x. x.a1) c.args.self (sym c.norm.ensures ∙ c.in_err-factor.ensures.0) in
    rw (p.1, p.2) (zero, c.in_err-factor.ensures.1)

pub returns : goal.returns
returns g c =
    let f = g.F.Field.arithmetic in
    let l = g.met.F.Field.laws in
    let factor = c.in_ok-factor.factor in
    let inverts = ap (λ t. f.times t (f.meaning factor)) (sym c.norm.ensures) ∙ c.in_ok-factor.ensures.1 in
    let product =
    ap ((quadratic f).times (f.meaning c.args.self.a0 ++ f.meaning c.args.self.a1))
    (ap₂ ◌++◌ c.mul.ensures (c.neg.ensures ∙ ap f.opposite c.mul-2.ensures))
    ∙ extension_inverse l (λ x. x.a0) (λ x. x.a1) c.args.self factor inverts in
    (inverse_not_zero (quadratic_laws l) c.args.self (record { a0 = c.mul.result; a1 = c.neg.result }) product, product)
