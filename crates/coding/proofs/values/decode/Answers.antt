use Rattle.std.proofs.Common.{rules, ◌≡◌, Ok, Err, sym, ap, ◌∙◌}
use Rattle.std.proofs.lemmas.Result.{err_from_is_err_and}
use Rattle.field.specs.Coordinates.{coefficients}
use Rattle.coding.specs.Encoding.{decoded, standing}
use Rattle.coding.proofs.RoundTrips.{decoded_encodes}
use Rattle.coding.proofs.Decoding.{decoded_refused, mapped_error}
use Rattle.coding.proofs.values.decode.Goals as goal

pub returns-in_err-value-clause-answer : goal.returns-in_err-value-clause-answer
returns-in_err-value-clause-answer g c =
    let l = g.F.Coordinates.layout in
    let w = g.F.CodedField.bits in
    let bytes = c.args.bytes.now in
    let mapped = mapped_error _ c.from_coefficients.result c.map_err.result c.in_err-value.field-0.0 c.map_err.ensures.cases c.in_err-value.was in
    let with_part : c.in_err-value.field-0.0 ≡ record mapped.0 { part = c.args.part } = search rules in
    let left = err_from_is_err_and c.from_residual.result c.from_residual.ensures.1 in
    let read : coefficients l c.numbers.result.now ≡ Err mapped.0 = rw mapped.1 at c.from_coefficients.ensures in
    let row : c.numbers.result.now ≡ standing w l.count bytes = search rules in
    let refused = decoded_refused l w c.args.part bytes mapped.0 (search rules) (rw row at read) in
    rw left.1 (refused ∙ ap Err (sym (left.2 ∙ with_part)))

pub returns : goal.returns
returns g c =
    let l = g.F.Coordinates.layout in
    let w = g.F.CodedField.bits in
    let xs = l.by_power (g.F.Field.arithmetic.meaning c.in_ok-value.value) in
    let given : decoded l w c.args.part c.args.bytes.now ≡ Ok xs = search rules in
    record {
      answer = given;
      encodes_back = decoded_encodes l w g.met.F.CodedField.limits c.args.part c.args.bytes.now xs (λ i h. (c.type_inv.bytes i).fits) given;
    }
