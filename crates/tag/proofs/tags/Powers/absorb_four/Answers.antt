use Rattle.std.proofs.Common.{◌≡◌, ◌++◌, [], ◌∷◌, fold, sym, ap, ◌∙◌, ap₂, arith}
use Rattle.coding.specs.Encoding.{block_size_of}
use Rattle.tag.specs.Tags.{absorbed, blocks}
use Rattle.tag.proofs.BlockMeanings.{block_size_positive}
use Rattle.tag.proofs.Chunks.{four_blocks}
use Rattle.tag.proofs.Groups.{group_absorbed}
use Rattle.tag.proofs.tags.Powers.absorb_four.Goals as goal

pub returns : goal.returns
returns g c =
    let a = g.F.Field.arithmetic in
    let l = g.F.Coordinates.layout in
    let w = g.F.CodedField.bits in
    let B = block_size_of w l.count in
    let powers = c.args.self.now in
    let (second, third, fourth) = powers.are_powers in
    let sized : c.block_size-size.result ≡ B = c.block_size-size.ensures in
    let halves = c.split_at.result in
    let front = c.split_at-2.result in
    let back = c.split_at-3.result in
    let whole : c.args.group.now ≡ (front.0.now ++ front.1.now) ++ (back.0.now ++ back.1.now) =
    c.split_at.ensures.by_index.0 ∙ ap₂ ◌++◌ c.split_at-2.ensures.by_index.0 c.split_at-3.ensures.by_index.0 in
    let four : blocks B c.args.group.now ≡ front.0.now ∷ front.1.now ∷ back.0.now ∷ back.1.now ∷ [] =
    ap (blocks B) whole
    ∙ four_blocks B (block_size_positive g.met.F.CodedField.limits) front.0.now front.1.now back.0.now back.1.now (omega arith) (omega arith) (omega arith) (omega arith) (omega arith) in
    c.sum_of_products.ensures
    ∙ ap₂ a.plus
    (ap₂ a.plus (ap₂ a.times (c.add.ensures ∙ ap (a.plus (a.meaning c.args.sum)) c.from_block.ensures) fourth) (ap₂ a.times c.from_block-2.ensures third))
    (ap₂ a.plus (ap₂ a.times c.from_block-3.ensures second) (ap (λ t. a.times t (a.meaning powers.first)) c.from_block-4.ensures))
    ∙ group_absorbed g.met.F.Field.laws g.met.F.Coordinates.coordinates g.met.F.CodedField.limits powers.first c.args.sum front.0.now front.1.now back.0.now back.1.now
    ∙ ap (fold (absorbed a l w (a.meaning powers.first)) (a.meaning c.args.sum)) (sym four)
