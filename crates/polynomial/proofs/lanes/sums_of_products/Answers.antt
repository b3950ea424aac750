use Rattle.std.proofs.Common.{sym, ◌∙◌, subst, ap₂}
use lib.Lanes.{Each1}
use Rattle.polynomial.proofs.Sums.{pair_factors, sums_are, sums_small, add32, Quarter}
use Rattle.polynomial.proofs.lanes.sums_of_products.Goals as goal

pub pair_sums-s0-requires : goal.pair_sums-s0-requires
pair_sums-s0-requires c = let p = pair_factors c.args.x c.args.h c.requires.x_small c.requires.h_small 0 7 in record { a_small = p.0; b_small = p.1 }

pub pair_sums-s2-requires : goal.pair_sums-s2-requires
pair_sums-s2-requires c = let p = pair_factors c.args.x c.args.h c.requires.x_small c.requires.h_small 2 5 in record { a_small = p.0; b_small = p.1 }

pub pair_sums-s4-requires : goal.pair_sums-s4-requires
pair_sums-s4-requires c = let p = pair_factors c.args.x c.args.h c.requires.x_small c.requires.h_small 4 3 in record { a_small = p.0; b_small = p.1 }

pub pair_sums-s6-requires : goal.pair_sums-s6-requires
pair_sums-s6-requires c = let p = pair_factors c.args.x c.args.h c.requires.x_small c.requires.h_small 6 1 in record { a_small = p.0; b_small = p.1 }

pub returns : goal.returns
returns c =
    let x = c.args.x in
    let h = c.args.h in
    let same =
    ap₂ add32 (ap₂ add32 c.pair_sums-s0.ensures c.pair_sums-s2.ensures) (ap₂ add32 c.pair_sums-s4.ensures c.pair_sums-s6.ensures)
    ∙ sums_are x h c.fits-x.0 c.fits-h.0 c.requires.x_small c.requires.h_small in
    record { is = same; small = subst (Each1 Quarter) (sym same) (sums_small x h c.fits-x.0 c.fits-h.0 c.requires.x_small c.requires.h_small) }
