use Rattle.coding.proofs.RoundTrips.{encoded_decodes}
use Rattle.coding.proofs.OneNumber.{one_number}
use Rattle.coding.proofs.values.encode.Goals as goal

pub returns-then-out-encoded_size-clause-one_number :
    goal.returns-then-out-encoded_size-clause-one_number
returns-then-out-encoded_size-clause-one_number g c =
    one_number g.F.Coordinates.layout g.F.CodedField.bits g.met.F.CodedField.limits _ (g.met.F.Coordinates.coordinates.told c.args.value)

pub returns-then-out-encoded_size-clause-decodes_back :
    goal.returns-then-out-encoded_size-clause-decodes_back
returns-then-out-encoded_size-clause-decodes_back g c part =
    encoded_decodes g.F.Coordinates.layout g.F.CodedField.bits g.met.F.CodedField.limits part _ (g.met.F.Coordinates.coordinates.told c.args.value)

pub returns-clause-one_number : goal.returns-clause-one_number
returns-clause-one_number g c =
    one_number g.F.Coordinates.layout g.F.CodedField.bits g.met.F.CodedField.limits _ (g.met.F.Coordinates.coordinates.told c.args.value)

pub returns-clause-decodes_back : goal.returns-clause-decodes_back
returns-clause-decodes_back g c part =
    encoded_decodes g.F.Coordinates.layout g.F.CodedField.bits g.met.F.CodedField.limits part _ (g.met.F.Coordinates.coordinates.told c.args.value)
