use Rattle.std.proofs.Common.{◌≡◌, true, eqb, length, sym, refl, ◌∙◌, arith, eqb-true}
use Rattle.std.proofs.lemmas.List.{ext_get_or}
use Rattle.door.proofs.calls.tell.Goals as goal

pub returns : goal.returns
returns g c =
    let l = g.F.Coordinates.layout in
    let told = g.met.F.Coordinates.coordinates.told c.args.value in
    let fits : eqb (length c.args.out.now) l.count ≡ true = sym c.has_count.ensures ∙ c.if-not-has_count.false in
    let whole : length c.args.out.now ≡ l.count = eqb-true _ _ fits in
    rw fits (record {
      answer = refl;
      row = ext_get_or 0 c.loop-power.out _ (omega (arith, told.0)) (λ i h. c.loop-power.invariant i (omega arith));
    })
