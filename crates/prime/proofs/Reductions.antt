-- Sums and products may be reduced before or after.
use native.Mathlib.Nat.{mod-mod, mod-add-mod, add-mod-mod}
use Rattle.std.proofs.lemmas.Nat.{mul-mod_first, mul-mod_second}

pub ruleset reducing = (mod-mod, mod-add-mod, add-mod-mod, mul-mod_first, mul-mod_second)
