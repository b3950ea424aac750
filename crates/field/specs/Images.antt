-- A field on any type whose values are carried to lists, each to another, gives the laws of an arithmetic.
use Rattle.std.specs.Prelude.{◌≡◌, ℕ, List, [], ◌∷◌, length, slice_index_or, refl}
use Rattle.std.proofs.Common.{sym, ap, ap₂, ◌∙◌}
use Rattle.std.proofs.Math.Logic.{∥∥₁_map}
use Rattle.field.specs.Fields.{Arithmetic, Laws, Meant}
use Rattle.field.specs.Rings.{Operations}
use Rattle.field.specs.Solver.{Expression, at, e0, e1, ◌⊕◌, ◌⊗◌, ⊖◌, value, Same}
use Rattle.field.specs.Homomorphisms.{Keeps, carry}
use Rattle.field.specs.FieldTheory.{IsField, HasNoRoot}
use Rattle.field.specs.Meanings.{on_lists}

-- the arithmetic in which a value means another list
abbrev pub with_meaning : {W : Type 0} → Arithmetic W → (W → List ℕ) → Arithmetic W
with_meaning b m = record {
  meaning = m;
  size = b.size;
  zero = b.zero;
  one = b.one;
  plus = b.plus;
  times = b.times;
  opposite = b.opposite;
  non_residue = b.non_residue;
  sqrt_minus_one = b.sqrt_minus_one;
}

-- Each w stands for the field's value `lift w`, and means what φ carries that to.
module _ {A : Type 0} {o : Operations A} (f : IsField o) {W : Type 0} (b : Arithmetic W) {φ : A → List ℕ}
    (k : Keeps o (on_lists b) φ) (injective : (x y : A) → φ x ≡ φ y → x ≡ y) (lift : W → A) where
  abbrev e : Arithmetic W
  e = with_meaning b (λ w. φ (lift w))

  -- an equation between ring expressions in the meanings of values
  equation : (ws : List W) (w : W) (x y : Expression) → Same x y → value (on_lists e) (λ n. e.meaning (slice_index_or ws n w)) x ≡ value (on_lists e) (λ n. e.meaning (slice_index_or ws n w)) y
  equation ws w x y h = carry k f.is_ring (λ n. lift (slice_index_or ws n w)) x y h

  module _ (long : (w : W) → length (φ (lift w)) ≡ b.size) (meant : (x : A) (xs : List ℕ) → φ x ≡ xs → Meant (with_meaning b (λ w. φ (lift w))) xs)
      (s : A) (shows : φ s ≡ b.non_residue) (no_root : HasNoRoot o s)
      (i : A) (shown : φ i ≡ b.sqrt_minus_one) (squared : o.times i i ≡ o.opposite o.one) where
    pub image_laws : Laws (with_meaning b (λ w. φ (lift w)))
    image_laws = record {
      one_length = long;
      meant_zero = meant o.zero _ k.zero;
      meant_one = meant o.one _ k.one;
      meant_plus = λ x y. meant (o.plus (lift x) (lift y)) _ (k.plus (lift x) (lift y));
      meant_times = λ x y. meant (o.times (lift x) (lift y)) _ (k.times (lift x) (lift y));
      meant_opposite = λ x. meant (o.opposite (lift x)) _ (k.opposite (lift x));
      meant_non_residue = meant s _ shows;
      meant_sqrt_minus_one = meant i _ shown;
      plus_commutes = λ x y. equation (x ∷ y ∷ []) x (at 0 ⊕ at 1) (at 1 ⊕ at 0) refl;
      plus_associates = λ x y z. equation (x ∷ y ∷ z ∷ []) x (at 0 ⊕ at 1 ⊕ at 2) (at 0 ⊕ (at 1 ⊕ at 2)) refl;
      plus_zero = λ x. equation (x ∷ []) x (at 0 ⊕ e0) (at 0) refl;
      plus_opposite = λ x. equation (x ∷ []) x (at 0 ⊕ ⊖ at 0) e0 refl;
      times_commutes = λ x y. equation (x ∷ y ∷ []) x (at 0 ⊗ at 1) (at 1 ⊗ at 0) refl;
      times_associates = λ x y z. equation (x ∷ y ∷ z ∷ []) x (at 0 ⊗ at 1 ⊗ at 2) (at 0 ⊗ (at 1 ⊗ at 2)) refl;
      times_one = λ x. equation (x ∷ []) x (at 0 ⊗ e1) (at 0) refl;
      distributes = λ x y z. equation (x ∷ y ∷ z ∷ []) x (at 0 ⊗ (at 1 ⊕ at 2)) (at 0 ⊗ at 1 ⊕ at 0 ⊗ at 2) refl;
      zero_is_not_one = λ h. f.zero_is_not_one (injective o.zero o.one (k.zero ∙ h ∙ sym k.one));
      inverse_exists = λ x n.
          let p = f.inverse (lift x) (λ q. n (ap φ q ∙ k.zero)) in
          ∥∥₁_map (meant p.0 _ refl) (λ v. (v.0, ap (b.times (φ (lift x))) v.1 ∙ sym (k.times (lift x) p.0) ∙ ap φ p.1 ∙ k.one));
      root_squared = ap₂ b.times (sym shown) (sym shown) ∙ sym (k.times i i) ∙ ap φ squared ∙ k.opposite o.one ∙ ap b.opposite k.one;
      non_residue_has_no_root = λ x h. no_root (lift x) (injective _ _ (k.times (lift x) (lift x) ∙ h ∙ sym shows));
    }
