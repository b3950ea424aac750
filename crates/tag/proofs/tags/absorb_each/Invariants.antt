use Rattle.std.proofs.Common.{◌≡◌}
use Rattle.coding.specs.Encoding.{block_size_of}
use Rattle.tag.specs.Tags.{all_absorbed}
use Rattle.tag.proofs.tags.absorb_each.Given as goal

-- the blocks that are left give, taken in, what all of them give
abbrev pub invariant-loop-block : goal.invariant-loop-block
invariant-loop-block g l =
    let a = g.F.Field.arithmetic in
    let all = all_absorbed a g.F.Coordinates.layout g.F.CodedField.bits (a.meaning l.key) in
    (l.block-iterator.size ≡ block_size_of g.F.CodedField.bits g.F.Coordinates.layout.count)
    × (all (a.meaning l.sum) l.block-iterator.rest.now ≡ all (a.meaning l.fn.sum) l.bytes)
