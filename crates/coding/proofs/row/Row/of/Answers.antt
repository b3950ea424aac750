use Rattle.std.proofs.Common.{rules, ◌∙◌, sym, arith}
use Rattle.std.proofs.lemmas.List.{ext_get_or}
use Rattle.coding.proofs.row.Row.of.Goals as goal

pub returns : goal.returns
returns g c =
    let told = g.met.F.Coordinates.coordinates.told c.args.value in
    ext_get_or 0 c.by_power.result _ (c.by_power.ensures.length ∙ sym told.0) (λ k h. let e = c.by_power.ensures.each k (omega arith) in search rules)
