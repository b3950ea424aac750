use Rattle.std.proofs.Common.{◌≡◌, ◌*◌}
use Rattle.coding.specs.Encoding.{block_size_of}
use Rattle.tag.specs.Tags.{all_absorbed}
use Rattle.tag.proofs.tags.absorb_fours.Given as goal

-- the blocks that are left give, taken in, what all of them give
abbrev pub invariant-loop-group : goal.invariant-loop-group
invariant-loop-group g l =
    let a = g.F.Field.arithmetic in
    let all = all_absorbed a g.F.Coordinates.layout g.F.CodedField.bits (a.meaning l.fn.key) in
    (l.group-iterator.size ≡ 4 * block_size_of g.F.CodedField.bits g.F.Coordinates.layout.count)
    × (all (a.meaning l.sum) l.group-iterator.rest.now ≡ all a.zero l.body)
