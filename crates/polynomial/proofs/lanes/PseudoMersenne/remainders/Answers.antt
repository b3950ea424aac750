use Rattle.std.proofs.Common.{◌≤◌, ◌^◌, arith, pow_mono}
use Rattle.std.proofs.lemmas.Simd.{Each1-all, Each2-splat}
use Rattle.polynomial.proofs.lanes.PseudoMersenne.remainders.Goals as goal

pub nonzero_rem-result : goal.nonzero_rem-result
nonzero_rem-result c =
    let q = c.args.self.q in
    let e = c.args.self.power in
    let least : 64 ≤ 2 ^ c.args.self.bits = pow_mono c.args.self.from in
    Each2-splat _ c.args.f 8 q (Each1-all _ (λ n. omega arith) c.args.f)
