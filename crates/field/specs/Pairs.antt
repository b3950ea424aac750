-- Pairs a0 + a1·g over a field, with g·g a value s that is no square: they are a field, and g is no square in it.
use Rattle.std.specs.Prelude.{◌≡◌, [], ◌∷◌, refl}
use Rattle.std.proofs.Math.Path.{Path}
use Rattle.std.proofs.Common.{sym, ap, ◌∙◌}
use mathlib.Core.HLevel.{×_discrete}
use Rattle.field.specs.Rings.{Operations, Ring}
use Rattle.field.specs.Quotes.{quotes, ring}
use Rattle.field.specs.FieldTheory.{IsField, HasNoRoot, no_ratio, norm_zero}

abbrev pub pairs : {A : Type 0} → Operations A → A → Operations (A × A)
pairs o s = record {
  zero = (o.zero, o.zero);
  one = (o.one, o.zero);
  plus = λ a b. (o.plus a.0 b.0, o.plus a.1 b.1);
  times = λ a b. (o.plus (o.times a.0 b.0) (o.times s (o.times a.1 b.1)), o.plus (o.times a.0 b.1) (o.times a.1 b.0));
  opposite = λ a. (o.opposite a.0, o.opposite a.1);
}

abbrev both : {A : Type 0} {a b c d : A} → a ≡ c → b ≡ d → Path (A × A) (a, b) (c, d)
both p q = λ i. (p i, q i)

module _ {A : Type 0} (o : Operations A) (r : Ring o) (s : A) where
  pub pairs_ring : Ring (pairs o s)
  pairs_ring = record {
    plus_commutes = λ x y. both (r.plus_commutes _ _) (r.plus_commutes _ _);
    plus_associates = λ x y z. both (r.plus_associates _ _ _) (r.plus_associates _ _ _);
    plus_zero = λ x. both (r.plus_zero _) (r.plus_zero _);
    plus_opposite = λ x. both (r.plus_opposite _) (r.plus_opposite _);
    times_commutes = λ x y. both
        (ring o r (s ∷ x.0 ∷ x.1 ∷ y.0 ∷ y.1 ∷ []) (search quotes) refl)
        (ring o r (s ∷ x.0 ∷ x.1 ∷ y.0 ∷ y.1 ∷ []) (search quotes) refl);
    times_associates = λ x y z. both
        (ring o r (s ∷ x.0 ∷ x.1 ∷ y.0 ∷ y.1 ∷ z.0 ∷ z.1 ∷ []) (search quotes depth 12) refl)
        (ring o r (s ∷ x.0 ∷ x.1 ∷ y.0 ∷ y.1 ∷ z.0 ∷ z.1 ∷ []) (search quotes depth 12) refl);
    times_one = λ x. both
        (ring o r (s ∷ x.0 ∷ x.1 ∷ []) (search quotes) refl)
        (ring o r (s ∷ x.0 ∷ x.1 ∷ []) (search quotes) refl);
    distributes = λ x y z. both
        (ring o r (s ∷ x.0 ∷ x.1 ∷ y.0 ∷ y.1 ∷ z.0 ∷ z.1 ∷ []) (search quotes depth 12) refl)
        (ring o r (s ∷ x.0 ∷ x.1 ∷ y.0 ∷ y.1 ∷ z.0 ∷ z.1 ∷ []) (search quotes depth 12) refl);
  }

  -- a pair times (a0·e, −a1·e) is its norm times e, and nothing at g
  pub norm_times : (x : A × A) (e : A) → Path (A × A)
      ((pairs o s).times x (o.times x.0 e, o.opposite (o.times x.1 e)))
      (o.times (o.plus (o.times x.0 x.0) (o.opposite (o.times s (o.times x.1 x.1)))) e, o.zero)
  norm_times x e = both
      (ring o r (s ∷ x.0 ∷ x.1 ∷ e ∷ []) (search quotes depth 12) refl)
      (ring o r (s ∷ x.0 ∷ x.1 ∷ e ∷ []) (search quotes depth 12) refl)

  pub pairs_root : (i : A) → o.times i i ≡ o.opposite o.one → (pairs o s).times (i, o.zero) (i, o.zero) ≡ (pairs o s).opposite (pairs o s).one
  pairs_root i h = both
      (ring o r (s ∷ i ∷ []) (search quotes) refl ∙ h)
      (ring o r (s ∷ i ∷ []) (search quotes) refl)

module _ {A : Type 0} (o : Operations A) (f : IsField o) (s : A) (no_root : HasNoRoot o s) where
  open o use {zero, one, plus as ◌+◌, times as ◌*◌, opposite as neg}

  infixl 65 ◌+◌
  infixl 70 ◌*◌
  open f use {is_ring as r}

  pub pairs_field : IsField (pairs o s)
  pairs_field = record {
    is_ring = pairs_ring o r s;
    decide = ×_discrete f.decide f.decide;
    zero_is_not_one = λ h. f.zero_is_not_one (ap (λ (x : A × A). x.0) h);
    inverse = λ x n.
        let norm = x.0 * x.0 + neg (s * (x.1 * x.1)) in
        let e = f.inverse norm (λ h. n (both (norm_zero o f s no_root x.0 x.1 h).0 (norm_zero o f s no_root x.0 x.1 h).1)) in
        ((x.0 * e.0, neg (x.1 * e.0)), norm_times o r s x e.0 ∙ both e.1 refl);
  }

  -- where the field below has a root of minus one, g is no square
  pub generator_has_no_root : (i : A) → i * i ≡ neg one → HasNoRoot (pairs o s) (zero, one)
  generator_has_no_root i root_squared t h =
      let p : t.0 * t.0 + s * (t.1 * t.1) ≡ zero = ap (λ (x : A × A). x.0) h in
      let q : t.0 * t.1 + t.1 * t.0 ≡ one = ap (λ (x : A × A). x.1) h in
      let z : t.1 ≡ zero = no_ratio o f s no_root (i * t.0) t.1
      (ring o r (i ∷ t.0 ∷ []) (search quotes) refl ∙ ap (λ u. u * (t.0 * t.0)) root_squared
      ∙ ring o r (s ∷ t.0 ∷ t.1 ∷ []) (search quotes) refl
      ∙ ap (λ u. s * (t.1 * t.1) + neg u) p ∙ ring o r (s ∷ t.1 ∷ []) (search quotes) refl) in
      f.zero_is_not_one (sym (ap (λ u. t.0 * u + u * t.0) z ∙ ring o r (t.0 ∷ []) (search quotes) refl) ∙ q)
