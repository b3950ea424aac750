use Rattle.std.proofs.Common.{lit≤, w16, w32}
use Rattle.std.proofs.lemmas.Simd.{widens}
use Rattle.polynomial.proofs.Sums.{pairs_are}
use Rattle.polynomial.proofs.lanes.pair_sums.Goals as goal

pub overflow_cast-p : goal.overflow_cast-p
overflow_cast-p c = widens w16 w32 (lit≤ tt) c.args.a c.fits-a.1

pub overflow_cast-p-2 : goal.overflow_cast-p-2
overflow_cast-p-2 c = widens w16 w32 (lit≤ tt) c.args.b c.fits-b.1

pub returns : goal.returns
returns c = pairs_are c.args.a c.args.b c.fits-a.0 c.fits-b.0 c.requires.a_small c.requires.b_small
