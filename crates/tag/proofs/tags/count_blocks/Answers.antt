use Rattle.std.proofs.Common.{◌∙◌, arith}
use Rattle.std.proofs.lemmas.Grind.{common_steps}
use Rattle.tag.proofs.BlockMeanings.{block_size_positive}
use Rattle.tag.proofs.Chunks.{count_rounded_up}
use Rattle.tag.proofs.tags.count_blocks.Goals as goal

pub returns : goal.returns
returns g c =
    let e = rw c.block_size.ensures at c.div_ceil.ensures in
    let counted = e ∙ count_rounded_up c.args.length _ (block_size_positive g.met.F.CodedField.limits) in
    grind (arith, common_steps, counted)
