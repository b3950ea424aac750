-- Where a map carries the arithmetic of a field to another implementation, the laws go over too.
use Rattle.std.proofs.Common.{◌≡◌, ℕ, List, length, ap, ◌∙◌, subst}
use mathlib.Core.Path.{Path}
use mathlib.Core.Logic.{∥∥₁_map}
use Rattle.field.specs.Fields.{Arithmetic, Laws, Meant}
use Rattle.field.specs.Homomorphisms.{Keeps}
use Rattle.field.specs.Images.{with_meaning, image_laws}
use Rattle.field.specs.Meanings.{Meaning, meaning_of, same_list, on_lists, meaning_length, meanings, meanings_field, meaning_non_residue, meaning_root, meanings_no_root, meanings_root}

-- φ carries the arithmetic a to the arithmetic b, on lists of a's size
pub record Carries {V W : Type 0} (a : Arithmetic V) (b : Arithmetic W) (φ : List ℕ → List ℕ) : Type 0 where
  pub long : (xs : List ℕ) → length xs ≡ a.size → length (φ xs) ≡ b.size
  pub injective : (xs ys : List ℕ) → length xs ≡ a.size → length ys ≡ a.size → φ xs ≡ φ ys → xs ≡ ys
  pub zero : φ a.zero ≡ b.zero
  pub one : φ a.one ≡ b.one
  pub plus : (xs ys : List ℕ) → length xs ≡ a.size → length ys ≡ a.size → φ (a.plus xs ys) ≡ b.plus (φ xs) (φ ys)
  pub times : (xs ys : List ℕ) → length xs ≡ a.size → length ys ≡ a.size → φ (a.times xs ys) ≡ b.times (φ xs) (φ ys)
  pub opposite : (xs : List ℕ) → length xs ≡ a.size → φ (a.opposite xs) ≡ b.opposite (φ xs)
  pub non_residue : φ a.non_residue ≡ b.non_residue
  pub sqrt_minus_one : φ a.sqrt_minus_one ≡ b.sqrt_minus_one

module _ {V : Type 0} {a : Arithmetic V} (l : Laws a) {W : Type 0} {b : Arithmetic W} {φ : List ℕ → List ℕ} (c : Carries a b φ)
    (view : W → V) (make : (v : V) → (w : W) × (φ (a.meaning (view w)) ≡ φ (a.meaning v))) where
  abbrev carried : W → List ℕ
  carried w = φ (a.meaning (view w))

  abbrev b' : Arithmetic W
  b' = with_meaning b carried

  abbrev ψ : Meaning l → List ℕ
  ψ x = φ x.0

  ψ_injective : (x y : Meaning l) → ψ x ≡ ψ y → x ≡ y
  ψ_injective x y h = same_list l (c.injective x.0 y.0 (meaning_length l x) (meaning_length l y) h)

  keeps : Keeps (meanings l) (on_lists b') ψ
  keeps = record {
    zero = c.zero;
    one = c.one;
    plus = λ x y. c.plus x.0 y.0 (meaning_length l x) (meaning_length l y);
    times = λ x y. c.times x.0 y.0 (meaning_length l x) (meaning_length l y);
    opposite = λ x. c.opposite x.0 (meaning_length l x);
  }

  abbrev lifted : W → Meaning l
  lifted w = meaning_of l (view w)

  meant : (x : Meaning l) (xs : List ℕ) → ψ x ≡ xs → Meant b' xs
  meant x xs h = ∥∥₁_map x.1 (λ v. let w = make v.0 in (w.0, w.1 ∙ ap φ v.1 ∙ h))

  carried_laws : Laws b'
  carried_laws =
      image_laws (meanings_field l) b keeps ψ_injective lifted (λ w. c.long (a.meaning (view w)) (l.one_length (view w))) meant
      (meaning_non_residue l) c.non_residue (meanings_no_root l) (meaning_root l) c.sqrt_minus_one (meanings_root l)

  pub transported_laws : ((w : W) → φ (a.meaning (view w)) ≡ b.meaning w) → Laws b
  transported_laws shows = let way : Path (W → List ℕ) carried b.meaning = λ i w. shows w i in subst (λ (m : W → List ℕ). Laws (with_meaning b m)) way carried_laws
