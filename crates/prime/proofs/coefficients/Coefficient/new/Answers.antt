use mathlib.Core.Path.{◌≡◌}
use mathlib.Core.Bool.{true}
use Prim.Native.Nat.{◌<◌}
use native.Mathlib.Nat.{mod-eq_of_lt}
use borrow.Author.Tests.{lt-ltb}
use lib.Dec.{ltb}
use Rattle.prime.proofs.coefficients.Coefficient.new.Goals as goal

pub returns-then-number-modulus : goal.returns-then-number-modulus
returns-then-number-modulus g c =
    let below : c.args.number < g.M.Modulus.Q = rw c.modulus.ensures at c.if-number-modulus.true in
    let test : ltb c.args.number g.M.Modulus.Q ≡ true = lt-ltb _ _ below in
    simp (test, mod-eq_of_lt below)
