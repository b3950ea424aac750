use Rattle.std.proofs.Common.{sym, ap, ◌∙◌}
use Rattle.std.proofs.lemmas.List.{nil_from_length}
use Rattle.coding.specs.Encoding.{block_size_of}
use Rattle.tag.specs.Tags.{absorbed, all_absorbed}
use Rattle.tag.proofs.BlockMeanings.{block_size_positive}
use Rattle.tag.proofs.Chunks.{folded_group}
use Rattle.tag.proofs.tags.absorb_fours.Goals as goal

pub loop-group-preserved : goal.loop-group-preserved
loop-group-preserved g c =
    let a = g.F.Field.arithmetic in
    let l = g.F.Coordinates.layout in
    let w = g.F.CodedField.bits in
    let (kept, step) = c.in-Some.ensures.steps in
    let (cut, long, some) = step in
    let (same, left) = c.loop-group.invariant in (
      kept ∙ same,
      ap (λ s. all_absorbed a l w (a.meaning c.args.key) s c.next.new.self.rest.now)
          (c.absorb_four-sum.ensures ∙ ap (λ k. all_absorbed a l w (a.meaning k) (a.meaning c.loop-group.sum) c.in-Some.group.now) c.new-powers.ensures)
          ∙ sym (folded_group (absorbed a l w (a.meaning c.args.key)) (a.meaning c.loop-group.sum) (block_size_of w l.count) (block_size_positive g.met.F.CodedField.limits) _ _ _ _ cut long same)
          ∙ left,
    )

pub returns : goal.returns
returns g c =
    let a = g.F.Field.arithmetic in
    ap (all_absorbed a g.F.Coordinates.layout g.F.CodedField.bits (a.meaning c.args.key) (a.meaning c.loop-group.sum)) (sym (nil_from_length _ c.in-None.ensures.steps.1.0))
    ∙ c.loop-group.invariant.1
