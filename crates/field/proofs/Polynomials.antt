-- Polynomials over a field on any type, as lists of coefficients, the constant one first.
-- A polynomial with a coefficient that is not zero has fewer roots than coefficients.
use Rattle.std.proofs.Common.{◌≡◌, suc, ◌<◌, ◌≤◌, max, ◌≢◌, List, [], ◌∷◌, length, sym, refl, ap, ◌∙◌, ap₂, le_of_suc-le-suc, not-suc-le-zero, suc-ne-zero, arith}
use native.Mathlib.Nat.{suc_inj}
use native.Mathlib.Decide.{dec_le}
use Rattle.std.specs.List.{AllByRecursion}
use Rattle.field.specs.Rings.{Operations}
use Rattle.field.specs.Quotes.{quotes, ring}
use Rattle.field.specs.FieldTheory.{IsField, no_zero_divisor, difference_zero}

-- the values are pairwise different, by recursion: std's AllPairs is by places, and each proof here goes by recursion
abbrev pub PairwiseDifferent : {A : Type 0} → List A → Type 0
PairwiseDifferent [] = Unit {0}
PairwiseDifferent (x ∷ xs) = AllByRecursion (λ y. x ≢ y) xs × PairwiseDifferent xs

module _ {A : Type 0} (o : Operations A) where
  -- the value of a polynomial at x
  abbrev pub horner : List A → A → A
  horner [] x = o.zero
  horner (c ∷ cs) x = o.plus c (o.times x (horner cs x))

  abbrev pub AllZero : List A → Type 0
  AllZero cs = AllByRecursion (λ c. c ≡ o.zero) cs

  abbrev pub AllRoots : List A → List A → Type 0
  AllRoots cs xs = AllByRecursion (λ x. horner cs x ≡ o.zero) xs

  -- cs minus ds, coefficient by coefficient
  abbrev pub difference : List A → List A → List A
  difference [] [] = []
  difference [] (d ∷ ds) = o.opposite d ∷ difference [] ds
  difference (c ∷ cs) [] = c ∷ cs
  difference (c ∷ cs) (d ∷ ds) = o.plus c (o.opposite d) ∷ difference cs ds

  pub length_difference : (cs ds : List A) → length (difference cs ds) ≡ max (length cs) (length ds)
  length_difference [] [] = refl
  length_difference [] (d ∷ ds) = let h = length_difference [] ds in omega arith
  length_difference (c ∷ cs) [] = omega arith
  length_difference (c ∷ cs) (d ∷ ds) = let h = length_difference cs ds in omega arith

module _ {A : Type 0} (o : Operations A) (f : IsField o) where
  open o use {zero, plus as ◌+◌, times as ◌*◌, opposite as neg}

  infixl 65 ◌+◌
  infixl 70 ◌*◌
  open f use {is_ring as r}

  pub horner_difference : (cs ds : List A) (x : A) → horner o (difference o cs ds) x ≡ horner o cs x + neg (horner o ds x)
  horner_difference [] [] x = ring o r [] (search quotes) refl
  horner_difference [] (d ∷ ds) x = ap (λ t. neg d + x * t) (horner_difference [] ds x) ∙ ring o r (d ∷ x ∷ horner o ds x ∷ []) (search quotes depth 9) refl
  horner_difference (c ∷ cs) [] x = ring o r (horner o (c ∷ cs) x ∷ []) (search quotes) refl
  horner_difference (c ∷ cs) (d ∷ ds) x = ap (λ t. (c + neg d) + x * t) (horner_difference cs ds x) ∙ ring o r (c ∷ d ∷ x ∷ horner o cs x ∷ horner o ds x ∷ []) (search quotes depth 9) refl

  pub no_difference : (cs ds : List A) → length cs ≡ length ds → AllZero o (difference o cs ds) → cs ≡ ds
  no_difference [] [] e z = refl
  no_difference [] (d ∷ ds) e z = absurd (suc-ne-zero _ (sym e))
  no_difference (c ∷ cs) [] e z = absurd (suc-ne-zero _ e)
  no_difference (c ∷ cs) (d ∷ ds) e z = ap₂ ◌∷◌ (difference_zero o f c d z.0) (no_difference cs ds (suc_inj e) z.1)

  -- The quotient of c ∷ cs by x − t, which does not depend on c: its coefficients are the values at t of cs,
  -- of cs without its first coefficient, and so on.
  quotient : A → List A → List A
  quotient t [] = []
  quotient t (c ∷ cs) = horner o (c ∷ cs) t ∷ quotient t cs

  length_quotient : (t : A) (cs : List A) → length (quotient t cs) ≡ length cs
  unfolding quotient
  length_quotient t [] = refl
  length_quotient t (c ∷ cs) = ap suc (length_quotient t cs)

  quotient_right : (t x : A) (cs : List A) → x * horner o cs x + neg (t * horner o cs t) ≡ (x + neg t) * horner o (quotient t cs) x
  unfolding quotient
  quotient_right t x [] = ring o r (t ∷ x ∷ []) (search quotes) refl
  quotient_right t x (c ∷ cs) =
      let at_x = horner o cs x in let at_t = horner o cs t in let at_quotient = horner o (quotient t cs) x in
      ring o r (t ∷ x ∷ c ∷ at_x ∷ at_t ∷ []) (search quotes depth 12) refl
      ∙ ap (λ (u : A). (x + neg t) * (c + t * at_t) + x * u) (quotient_right t x cs)
      ∙ ring o r (t ∷ x ∷ c ∷ at_t ∷ at_quotient ∷ []) (search quotes depth 12) refl

  module _ (c : A) (cs : List A) (t : A) (root : horner o (c ∷ cs) t ≡ zero) where
    -- a root of c ∷ cs other than t is a root of the quotient
    root_stays : (x : A) → t ≢ x → horner o (c ∷ cs) x ≡ zero → horner o (quotient t cs) x ≡ zero
    root_stays x n h =
        let at_x = x * horner o cs x in let at_t = t * horner o cs t in
        no_zero_divisor o f (x + neg t) (horner o (quotient t cs) x) (λ e. n (sym (difference_zero o f x t e)))
        (sym (quotient_right t x cs) ∙ ring o r (c ∷ at_x ∷ at_t ∷ []) (search quotes) refl ∙ ap₂ (λ u v. u + neg v) h root ∙ r.plus_opposite zero)

    roots_stay : (xs : List A) → AllByRecursion (λ x. t ≢ x) xs → AllRoots o (c ∷ cs) xs → AllRoots o (quotient t cs) xs
    roots_stay [] n h = tt
    roots_stay (x ∷ xs) n h = (root_stays x n.0 h.0, roots_stay xs n.1 h.1)

  -- the first coefficient is the value at t where the others give zero
  first_is_value : (c : A) (cs : List A) (t : A) → horner o cs t ≡ zero → c ≡ horner o (c ∷ cs) t
  first_is_value c cs t h = sym (ap (λ u. c + t * u) h ∙ ring o r (c ∷ t ∷ []) (search quotes) refl)

  quotient_zero : (t : A) (cs : List A) → AllZero o (quotient t cs) → AllZero o cs × (horner o cs t ≡ zero)
  unfolding quotient
  quotient_zero t [] z = (tt, refl)
  quotient_zero t (c ∷ cs) z = let w = quotient_zero t cs z.1 in ((first_is_value c cs t w.1 ∙ z.0, w.0), z.0)

  -- as many roots as coefficients: every coefficient is zero
  many_roots : (xs cs : List A) → PairwiseDifferent xs → AllRoots o cs xs → length cs ≤ length xs → AllZero o cs
  many_roots [] [] d h m = tt
  many_roots [] (c ∷ cs) d h m = absurd (not-suc-le-zero m)
  many_roots (t ∷ xs) [] d h m = tt
  many_roots (t ∷ xs) (c ∷ cs) d h m =
      let fewer : length (quotient t cs) ≤ length xs = rw length_quotient (le_of_suc-le-suc m) in
      let w = quotient_zero t cs (many_roots xs (quotient t cs) d.1 (roots_stay c cs t h.0 xs d.0 h.1) fewer) in
      (first_is_value c cs t w.1 ∙ h.0, w.0)

  -- fewer roots than coefficients, unless every coefficient is zero
  pub root_bound : (cs xs : List A) → ¬ (AllZero o cs) → PairwiseDifferent xs → AllRoots o cs xs → length xs < length cs
  root_bound cs xs n d h = go (dec_le (length cs) (length xs))
    where
      go : Dec (length cs ≤ length xs) → length xs < length cs
      go (yes m) = absurd (n (many_roots xs cs d h m))
      go (no m) = omega arith
