use Rattle.std.proofs.Common.{length, Err, sym, refl, ap, ◌∙◌}
use Rattle.std.proofs.lemmas.Result.{err_from_is_err_and}
use Rattle.door.proofs.Inverting.{zero_refused, inverse_done, inverse_left}
use Rattle.door.proofs.calls.inverse_of.Goals as goal

pub returns-in_err-inverse : goal.returns-in_err-inverse
returns-in_err-inverse g c =
    let a = g.F.Field.arithmetic in
    let l = g.F.Coordinates.layout in
    let p = err_from_is_err_and c.from_residual-in_err-inverse.result c.from_residual-in_err-inverse.ensures.1 in
    let e = zero_refused a l g.met.F.Coordinates.coordinates c.args.a.now (length c.args.out.now) c.in_ok-x.x c.in_ok-x.ensures c.in_err-inverse.ensures.0 in
    rw e (record { answer = p.1 ∙ ap Err (p.2 ∙ c.in_err-inverse.ensures.1); row = refl })

pub returns : goal.returns
returns g c =
    let a = g.F.Field.arithmetic in
    let l = g.F.Coordinates.layout in
    let k = g.met.F.Coordinates.coordinates in
    let found = c.in_ok-inverse.ensures in
    record {
      answer = c.tell.ensures.answer ∙ sym (inverse_done a l k c.args.a.now (length c.args.out.now) c.in_ok-x.x c.in_ok-x.ensures c.in_ok-inverse.field-0 found.0 found.1);
      row = inverse_left a l k c.args.a.now (length c.args.out.now) c.in_ok-x.x c.in_ok-x.ensures c.in_ok-inverse.field-0 found.0 found.1 c.args.out.now c.tell.new.out c.tell.ensures.row;
    }
