-- From the laws over a field's values: the type of the meanings that values have, which is a field with total laws.
-- Mathematics is done there, and its results are carried back to meanings.
use Rattle.std.specs.Prelude.{◌≡◌, ℕ, ◌≢◌, List, length, refl}
use Rattle.std.proofs.Common.{sym, ap, ◌∙◌, subst}
use Rattle.std.proofs.Math.Path.{fst_path}
use Rattle.std.proofs.Math.Logic.{∥∥₁_elim, ∥∥₁_prop}
use mathlib.Core.HLevel.{Σ_prop_path, Σ_prop_discrete, hedberg, ¬_prop}
use mathlib.Core.List.{List-discrete}
use Rattle.std.proofs.Math.Decide.{ℕ_discrete}
use Rattle.field.specs.Fields.{Arithmetic, Laws, Meant}
use Rattle.field.specs.Rings.{Operations, Ring, inverse_unique}
use Rattle.field.specs.FieldTheory.{IsField, HasNoRoot}

pub lists_are_a_set : IsSet (List ℕ)
lists_are_a_set = hedberg (List-discrete ℕ_discrete)

-- the operations of an arithmetic on lists
abbrev pub on_lists : {V : Type 0} → Arithmetic V → Operations (List ℕ)
on_lists a = record { zero = a.zero; one = a.one; plus = a.plus; times = a.times; opposite = a.opposite }

module _ {V : Type 0} {a : Arithmetic V} (l : Laws a) where
  -- the lists that some value means
  abbrev pub Meaning : Type 0
  Meaning = (xs : List ℕ) × Meant a xs

  abbrev pub meaning_of : V → Meaning
  meaning_of v = (a.meaning v, ∣ (v, refl) ∣₁)

  pub same_list : {x y : Meaning} → x.0 ≡ y.0 → x ≡ y
  same_list p = Σ_prop_path (λ _. ∥∥₁_prop) p

  -- a proposition that holds of the meaning of each value holds of each meaning
  pub of_each : (P : List ℕ → Type 0) → ((xs : List ℕ) → IsProp (P xs)) → ((v : V) → P (a.meaning v)) → (x : Meaning) → P x.0
  of_each P prop h x = ∥∥₁_elim x.1 (prop x.0) (λ w. subst P w.1 (h w.0))

  equal1 : (f g : List ℕ → List ℕ) → ((v : V) → f (a.meaning v) ≡ g (a.meaning v)) → (x : Meaning) → f x.0 ≡ g x.0
  equal1 f g h x = of_each (λ xs. f xs ≡ g xs) (λ xs. lists_are_a_set (f xs) (g xs)) h x

  equal2 : (f g : List ℕ → List ℕ → List ℕ) → ((v w : V) → f (a.meaning v) (a.meaning w) ≡ g (a.meaning v) (a.meaning w)) → (x y : Meaning) → f x.0 y.0 ≡ g x.0 y.0
  equal2 f g h x y = equal1 (λ xs. f xs y.0) (λ xs. g xs y.0) (λ v. equal1 (f (a.meaning v)) (g (a.meaning v)) (h v) y) x

  equal3 : (f g : List ℕ → List ℕ → List ℕ → List ℕ) → ((v w u : V) → f (a.meaning v) (a.meaning w) (a.meaning u) ≡ g (a.meaning v) (a.meaning w) (a.meaning u)) → (x y z : Meaning) → f x.0 y.0 z.0 ≡ g x.0 y.0 z.0
  equal3 f g h x y z = equal1 (λ xs. f xs y.0 z.0) (λ xs. g xs y.0 z.0) (λ v. equal2 (f (a.meaning v)) (g (a.meaning v)) (h v) y z) x

  pub meant1 : (f : List ℕ → List ℕ) → ((v : V) → Meant a (f (a.meaning v))) → (x : Meaning) → Meant a (f x.0)
  meant1 f h = of_each (λ xs. Meant a (f xs)) (λ _. ∥∥₁_prop) h

  pub meant2 : (f : List ℕ → List ℕ → List ℕ) → ((v w : V) → Meant a (f (a.meaning v) (a.meaning w))) → (x y : Meaning) → Meant a (f x.0 y.0)
  meant2 f h x y = of_each (λ xs. Meant a (f xs y.0)) (λ _. ∥∥₁_prop) (λ v. meant1 (f (a.meaning v)) (h v) y) x

  pub meaning_length : (x : Meaning) → length x.0 ≡ a.size
  meaning_length = of_each (λ xs. length xs ≡ a.size) (λ xs. native.Mathlib.Nat.ℕ_set (length xs) a.size) l.one_length

  abbrev pub meanings : Operations Meaning
  meanings = record {
    zero = (a.zero, l.meant_zero);
    one = (a.one, l.meant_one);
    plus = λ x y. (a.plus x.0 y.0, meant2 a.plus l.meant_plus x y);
    times = λ x y. (a.times x.0 y.0, meant2 a.times l.meant_times x y);
    opposite = λ x. (a.opposite x.0, meant1 a.opposite l.meant_opposite x);
  }

  pub meanings_ring : Ring meanings
  meanings_ring = record {
    plus_commutes = λ x y. same_list (equal2 (λ p q. a.plus p q) (λ p q. a.plus q p) l.plus_commutes x y);
    plus_associates = λ x y z. same_list (equal3 (λ p q r. a.plus (a.plus p q) r) (λ p q r. a.plus p (a.plus q r)) l.plus_associates x y z);
    plus_zero = λ x. same_list (equal1 (λ p. a.plus p a.zero) (λ p. p) l.plus_zero x);
    plus_opposite = λ x. same_list (equal1 (λ p. a.plus p (a.opposite p)) (λ p. a.zero) l.plus_opposite x);
    times_commutes = λ x y. same_list (equal2 (λ p q. a.times p q) (λ p q. a.times q p) l.times_commutes x y);
    times_associates = λ x y z. same_list (equal3 (λ p q r. a.times (a.times p q) r) (λ p q r. a.times p (a.times q r)) l.times_associates x y z);
    times_one = λ x. same_list (equal1 (λ p. a.times p a.one) (λ p. p) l.times_one x);
    distributes = λ x y z. same_list (equal3 (λ p q r. a.times p (a.plus q r)) (λ p q r. a.plus (a.times p q) (a.times p r)) l.distributes x y z);
  }

  meanings_decide : (x y : Meaning) → Dec (x ≡ y)
  meanings_decide = Σ_prop_discrete (λ _. ∥∥₁_prop) (List-discrete ℕ_discrete)

  -- there is only one inverse, so it comes out of the truncation
  meanings_inverse : (x : Meaning) → x ≢ meanings.zero → (y : Meaning) × (meanings.times x y ≡ meanings.one)
  meanings_inverse x n =
      ∥∥₁_elim x.1 only (λ w. ∥∥₁_elim (l.inverse_exists w.0 (λ h. n (same_list (sym w.1 ∙ h)))) only
      (λ i. (meaning_of i.0, same_list (ap (λ xs. a.times xs (a.meaning i.0)) (sym w.1) ∙ i.1))))
    where
      only : IsProp ((y : Meaning) × (meanings.times x y ≡ meanings.one))
      only p q = Σ_prop_path (λ y. hedberg meanings_decide (meanings.times x y) meanings.one) (inverse_unique meanings meanings_ring x p.0 q.0 p.1 q.1)

  pub meanings_field : IsField meanings
  meanings_field = record {
    is_ring = meanings_ring;
    decide = meanings_decide;
    zero_is_not_one = λ h. l.zero_is_not_one (fst_path h);
    inverse = meanings_inverse;
  }

  abbrev pub meaning_non_residue : Meaning
  meaning_non_residue = (a.non_residue, l.meant_non_residue)

  abbrev pub meaning_root : Meaning
  meaning_root = (a.sqrt_minus_one, l.meant_sqrt_minus_one)

  pub meanings_no_root : HasNoRoot meanings meaning_non_residue
  meanings_no_root t h = of_each (λ xs. a.times xs xs ≢ a.non_residue) (λ xs. ¬_prop) l.non_residue_has_no_root t (fst_path h)

  pub meanings_root : meanings.times meaning_root meaning_root ≡ meanings.opposite meanings.one
  meanings_root = same_list l.root_squared
