use Rattle.std.proofs.Common.{lit<, w32, refl}
use Rattle.std.proofs.lemmas.Simd.{below_from_Fits}
use Rattle.polynomial.proofs.Folds.{lanes_are, folded_same}
use Rattle.polynomial.proofs.lanes.PseudoMersenne.fold32.Goals as goal

pub returns : goal.returns
returns c =
    let p = c.args.self in
    let x = c.args.x in
    rw (lanes_are p 4294967296 (lit< tt) x c.fits-x.0 (below_from_Fits w32 x c.fits-x.1)) (record { same = folded_same p x; is = refl })
