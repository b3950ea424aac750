use Rattle.std.proofs.Common.{rules}
use Rattle.coding.proofs.Regrouping.{is_regrouped}
use Rattle.coding.proofs.row.Row.cut.Goals as goal

pub returns : goal.returns
returns g c = is_regrouped 8 c.args.width c.args.bytes.now c.by_power.result _ c.by_power.ensures.length (λ k h. let e = c.by_power.ensures.each k h in search rules)
