use Rattle.std.proofs.Common.{rules}
use Rattle.polynomial.specs.Reversals.{table_is_rule}
use Rattle.polynomial.proofs.reversal.bit_reversed.Goals as goal

pub returns : goal.returns
returns c = table_is_rule c.args.list (search rules)
