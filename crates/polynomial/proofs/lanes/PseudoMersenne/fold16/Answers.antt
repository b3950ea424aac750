use Rattle.polynomial.proofs.Folds.{fold_by_lanes}
use Rattle.polynomial.proofs.lanes.PseudoMersenne.fold16.Goals as goal

pub returns : goal.returns
returns c =
    let folded = fold_by_lanes c.args.self c.args.x c.fits-x.0 c.fits-x.1 in
    record { same = folded.0; small = folded.1 }
