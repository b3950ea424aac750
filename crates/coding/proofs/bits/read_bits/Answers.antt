use Rattle.std.proofs.Common.{refl}
use Rattle.coding.proofs.Windows.{windowed, windowed_lt}
use Rattle.coding.proofs.bits.read_bits.Goals as goal

pub overflow_cast-result : goal.overflow_cast-result
overflow_cast-result c =
    let fits = c.type_inv.bytes in
    record { fits = rw c.window.ensures (windowed_lt c.args.bytes.now c.args.start c.args.width _ _ _ refl refl refl (fits _).fits (fits _).fits (fits _).fits c.requires.width_bound) }

pub returns : goal.returns
returns c =
    let fits = c.type_inv.bytes in
    rw c.window.ensures (windowed c.args.bytes.now c.args.start c.args.width _ _ _ refl refl refl (fits _).fits (fits _).fits (fits _).fits c.requires.width_bound)
