use Rattle.std.proofs.Common.{◌≡◌, ◌+◌, ◌-◌, length, take, Ok, sym, ap, ◌∙◌, subst, ap₂, arith, rules}
use borrow.Rule.Slice.PartMut.{put_mid}
use Rattle.std.proofs.lemmas.List.{take_at}
use Rattle.fault.specs.declared.Part.TheVariants.{Tag}
use Rattle.coding.specs.Encoding.{encoded_size_of, encoded, decoded}
use Rattle.tag.specs.Bodies.{body_bytes, written_first}
use Rattle.tag.specs.Tags.{tag_of}
use Rattle.coding.proofs.Regrouping.{length_regrouped}
use Rattle.issuer.proofs.Written.{tag_behind_body, tag_given, ticket_right}
use Rattle.issuer.proofs.writing.write_ticket.Goals as goal

pub returns : goal.returns
returns g c =
    let a = g.F.Field.arithmetic in
    let l = g.F.Coordinates.layout in
    let w = g.F.CodedField.bits in
    let number = c.args.body.number in
    let route = c.args.body.route in
    let text = c.args.body.text.now in
    let paper = c.args.paper.now in
    let body = body_bytes number route text in
    let end = c.in_ok-end.end in
    let T = encoded_size_of w l.count in
    let tag = tag_of a l w (a.meaning c.args.key) (a.meaning c.args.pad) body in
    let size : c.encoded_size.result ≡ T = c.encoded_size.ensures in
    let long : end ≡ length text + 2 = search rules in
    let first : c.write.new.paper ≡ written_first body paper = search rules in
    let cut : take end c.write.new.paper ≡ body = ap (take end) first ∙ take_at body _ end (omega arith) in
    let right : tag ≡ a.meaning c.in_ok-tag.tag = tag_given body tag _ (omega arith) (omega (arith, c.requires.text_in_range)) (rw cut at c.in_ok-tag.ensures.answer) in
    let out : c.encode.new.out ≡ encoded w l.count (l.by_power tag) = (let h : c.encode.new.out ≡ encoded w l.count (l.by_power (a.meaning c.in_ok-tag.tag)) = search rules in rw right h) in
    record {
      answer = search rules;
      bytes = ap₂ (put_mid end (end + c.encoded_size.result - end)) first out ∙ tag_behind_body body (encoded w l.count (l.by_power tag)) paper end c.encoded_size.result (omega arith) (length_regrouped w 8 _ (l.by_power tag) ∙ sym size);
      right = ticket_right a l w (a.meaning c.args.key) (a.meaning c.args.pad) number route text c.requires.number_in_range c.requires.route_in_range c.requires.text_in_range
          (subst (λ m. decoded l w Tag (encoded w l.count (l.by_power m)) ≡ Ok (l.by_power m)) (sym right) (c.encode.ensures.decodes_back Tag))
          (subst (λ m. l.from_power (l.by_power m) ≡ m) (sym right) (g.met.F.Coordinates.coordinates.told_back c.in_ok-tag.tag));
    }
