-- Inverses are unique in every field, and in the tower of each height on it.
use Rattle.std.proofs.Common.{ℕ, zero, suc, ◌≢◌, sym, refl, ap, ◌∙◌}
use mathlib.Core.Path.{fst_path}
use Rattle.field.specs.Fields.{Arithmetic, Laws}
use Rattle.field.specs.Extensions.{tower}
use Rattle.field.specs.Inverses.{Inverse, JustOneInverse, UniqueInversesAtEveryHeight}
use Rattle.field.specs.Rings.{inverse_unique, zero_times}
use Rattle.field.specs.Meanings.{meaning_of, same_list, meanings, meanings_ring}
use Rattle.field.specs.ExtensionLaws.{extension_laws}

pub tower_laws : {V : Type 0} {a : Arithmetic V} → Laws a → (height : ℕ) → Laws (tower a height)
tower_laws l zero = l
tower_laws l (suc n) = extension_laws (tower_laws l n) (λ p. p.0) (λ p. p.1) (λ x y. ((x, y), refl, refl))

module _ {V : Type 0} {a : Arithmetic V} (l : Laws a) where
  pub inverse_not_zero : (x y : V) → Inverse a x y → a.meaning x ≢ a.zero
  inverse_not_zero x y p h = l.zero_is_not_one (sym (fst_path (zero_times (meanings l) (meanings_ring l) (meaning_of l y))) ∙ ap (λ t. a.times t (a.meaning y)) (sym h) ∙ p)

  pub just_one_inverse : (x : V) → JustOneInverse a x
  just_one_inverse x = record {
    exists = l.inverse_exists x;
    unique = λ y z p q. fst_path (inverse_unique (meanings l) (meanings_ring l) (meaning_of l x) (meaning_of l y) (meaning_of l z) (same_list l p) (same_list l q));
    zero_has_none = λ h y p. inverse_not_zero x y p h;
  }

pub unique_inverses_at_every_height : {V : Type 0} {a : Arithmetic V} → Laws a → UniqueInversesAtEveryHeight a
unique_inverses_at_every_height l height x = just_one_inverse (tower_laws l height) x
