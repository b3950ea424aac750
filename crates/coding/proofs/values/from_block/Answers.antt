use Rattle.std.proofs.Common.{rules, ◌≡◌}
use Rattle.coding.specs.Encoding.{block_coefficients}
use Rattle.coding.proofs.Decoding.{block_built}
use Rattle.coding.proofs.values.from_block.Goals as goal

pub unwrap-requires : goal.unwrap-requires
unwrap-requires g c =
    let l = g.F.Coordinates.layout in
    let w = g.F.CodedField.bits in
    let row : c.numbers.result.now ≡ block_coefficients w l.count c.args.block.now = search rules in
    block_built g.F.Field.arithmetic l w g.met.F.CodedField.limits c.args.block.now c.from_coefficients.result (rw row at c.from_coefficients.ensures)
