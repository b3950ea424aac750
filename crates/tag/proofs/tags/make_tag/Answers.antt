use Rattle.tag.proofs.FewKeys.{few_keys_fit_two_bodies}
use Rattle.tag.proofs.WeighedSum.{tag_is_weighed_sum}
use Rattle.tag.proofs.tags.make_tag.Goals as goal

pub returns-in_err-count_blocks-clause-weighed_sum : goal.returns-in_err-count_blocks-clause-weighed_sum
returns-in_err-count_blocks-clause-weighed_sum g c = tag_is_weighed_sum g.met.F.Field.laws g.met.F.Coordinates.coordinates g.met.F.CodedField.limits

pub returns-in_err-count_blocks-clause-few_keys : goal.returns-in_err-count_blocks-clause-few_keys
returns-in_err-count_blocks-clause-few_keys g c = few_keys_fit_two_bodies g.met.F.Field.laws g.met.F.Coordinates.coordinates g.met.F.CodedField.limits

pub returns-clause-weighed_sum : goal.returns-clause-weighed_sum
returns-clause-weighed_sum g c = tag_is_weighed_sum g.met.F.Field.laws g.met.F.Coordinates.coordinates g.met.F.CodedField.limits

pub returns-clause-few_keys : goal.returns-clause-few_keys
returns-clause-few_keys g c = few_keys_fit_two_bodies g.met.F.Field.laws g.met.F.Coordinates.coordinates g.met.F.CodedField.limits
