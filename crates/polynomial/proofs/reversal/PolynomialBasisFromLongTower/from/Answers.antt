use Rattle.std.proofs.Common.{rules, ap, ◌∙◌}
use native.Mathlib.Nat.{mod-mod}
use Rattle.std.specs.List.{slice_index}
use Rattle.prime.specs.Towers.{long_tower}
use Rattle.polynomial.specs.BitReversal.{bit_reversal_of}
use Rattle.polynomial.specs.Polynomials.{eight_remainders}
use Rattle.polynomial.specs.Reversals.{tower_to_basis}
use Rattle.polynomial.proofs.FromFn.{from_fn_is}
use Rattle.polynomial.proofs.reversal.PolynomialBasisFromLongTower.from.Goals as goal

pub returns-clause-keeps : goal.returns-clause-keeps
returns-clause-keeps g c = tower_to_basis g.M.Modulus.Q g.M.Modulus.ROOT (λ x. x.kept)

pub returns-clause-value : goal.returns-clause-value
returns-clause-value g c =
    let q = g.M.Modulus.Q in
    let xs = bit_reversal_of 3 ((long_tower q g.M.Modulus.ROOT).meaning c.args.x) in
    let made = from_fn_is _ (slice_index xs) _ (λ i y p called. (search rules, search rules)) c.from_fn.result 8 0 c.from_fn.ensures.items in
    ap (eight_remainders q) (c.keeping.ensures ∙ made) ∙ simp mod-mod
