use Rattle.std.proofs.Common.{sym, ap, ◌∙◌}
use Rattle.coding.specs.Encoding.{block_size_of}
use Rattle.tag.specs.Tags.{absorbed, all_absorbed}
use Rattle.tag.proofs.BlockMeanings.{block_size_positive}
use Rattle.tag.proofs.Chunks.{folded_next, folded_all}
use Rattle.tag.proofs.tags.absorb_each.Goals as goal

pub loop-block-preserved : goal.loop-block-preserved
loop-block-preserved g c =
    let a = g.F.Field.arithmetic in
    let l = g.F.Coordinates.layout in
    let w = g.F.CodedField.bits in
    let key = a.meaning c.args.key in
    let (kept, step) = c.in-Some.ensures.steps in
    let (cut, long, some) = step in
    let (same, left) = c.loop-block.invariant in (
      kept ∙ same,
      ap (λ s. all_absorbed a l w key s c.next.new.self.rest.now) c.absorb-sum.ensures
          ∙ sym (folded_next (absorbed a l w key) (a.meaning c.loop-block.sum) (block_size_of w l.count) (block_size_positive g.met.F.CodedField.limits) _ _ _ _ cut long same some)
          ∙ left,
    )

pub returns : goal.returns
returns g c =
    let a = g.F.Field.arithmetic in
    let l = g.F.Coordinates.layout in
    let w = g.F.CodedField.bits in
    sym (folded_all (absorbed a l w (a.meaning c.args.key)) (a.meaning c.loop-block.sum) (block_size_of w l.count) (block_size_positive g.met.F.CodedField.limits) _ c.in-None.ensures.steps.1.0)
    ∙ c.loop-block.invariant.1
