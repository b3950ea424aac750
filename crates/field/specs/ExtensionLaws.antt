-- The laws of a field give those of its quadratic extension.
use Rattle.std.specs.Prelude.{◌≡◌, Bool, ◌&&◌, ℕ, ◌+◌, List, [], ◌∷◌, ◌++◌, length, take, drop, refl}
use Rattle.std.proofs.Math.Path.{Path}
use Rattle.std.proofs.Common.{sym, ap, ap₂, ◌∙◌, subst, length-append}
use Rattle.std.proofs.lemmas.Bool.Decides.{Decides-and}
use Rattle.std.proofs.Math.Logic.{∥∥₁_map₂}
use Rattle.std.proofs.Math.Seq.{take-append_seam, drop-append_seam}
use Rattle.field.specs.Fields.{Arithmetic, Laws, Meant, EqualByMeaning}
use Rattle.field.specs.Extensions.{extension, norm}
use Rattle.field.specs.Rings.{Operations}
use Rattle.field.specs.Images.{image_laws}
use Rattle.field.specs.Quotes.{quotes, ring}
use Rattle.field.specs.Homomorphisms.{Keeps}
use Rattle.field.specs.FieldTheory.{IsField, norm_zero}
use Rattle.field.specs.Pairs.{pairs, pairs_field, pairs_root, generator_has_no_root, norm_times}
use Rattle.field.specs.Meanings.{Meaning, meaning_of, same_list, on_lists, meaning_length, meanings, meanings_ring, meanings_field, meaning_non_residue, meaning_root, meanings_no_root, meanings_root}

abbrev halves : ℕ → List ℕ → List ℕ × List ℕ
halves n xs = (take n xs, drop n xs)

halves_joined : (xs ys : List ℕ) → Path (List ℕ × List ℕ) (halves (length xs) (xs ++ ys)) (xs, ys)
halves_joined xs ys = λ i. (take-append_seam xs ys i, drop-append_seam xs ys i)

module _ {V : Type 0} {f : Arithmetic V} (l : Laws f) {W : Type 0} (a0 a1 : W → V) where
  abbrev e : Arithmetic W
  e = extension f a0 a1

  abbrev Pair : Type 0
  Pair = Meaning l × Meaning l

  abbrev o : Operations Pair
  o = pairs (meanings l) (meaning_non_residue l)

  abbrev joined : Pair → List ℕ
  joined p = p.0.0 ++ p.1.0

  joined_halves : (p : Pair) → Path (List ℕ × List ℕ) (halves f.size (joined p)) (p.0.0, p.1.0)
  joined_halves p = subst (λ n. Path (List ℕ × List ℕ) (halves n (joined p)) (p.0.0, p.1.0)) (meaning_length l p.0) (halves_joined p.0.0 p.1.0)

  joined_injective : (p q : Pair) → joined p ≡ joined q → p ≡ q
  joined_injective p q h =
      let both : Path (List ℕ × List ℕ) (p.0.0, p.1.0) (q.0.0, q.1.0) = sym (joined_halves p) ∙ ap (halves f.size) h ∙ joined_halves q in
      let first : p.0 ≡ q.0 = same_list l (λ i. (both i).0) in
      let second : p.1 ≡ q.1 = same_list l (λ i. (both i).1) in
      λ i. (first i, second i)

  -- joining keeps the operations
  keeps : Keeps o (on_lists e) joined
  keeps = record {
    zero = refl;
    one = refl;
    plus = λ x y. sym (ap₂ (λ (u v : List ℕ × List ℕ). f.plus u.0 v.0 ++ f.plus u.1 v.1) (joined_halves x) (joined_halves y));
    times = λ x y. sym (ap₂ (λ (u v : List ℕ × List ℕ). f.plus (f.times u.0 v.0) (f.times f.non_residue (f.times u.1 v.1)) ++ f.plus (f.times u.0 v.1) (f.times u.1 v.0)) (joined_halves x) (joined_halves y));
    opposite = λ x. sym (ap (λ (u : List ℕ × List ℕ). f.opposite u.0 ++ f.opposite u.1) (joined_halves x));
  }

  abbrev pair_of : W → Pair
  pair_of w = (meaning_of l (a0 w), meaning_of l (a1 w))

  pub extension_plus : (x y : W) → f.plus (f.meaning (a0 x)) (f.meaning (a0 y)) ++ f.plus (f.meaning (a1 x)) (f.meaning (a1 y)) ≡ (extension f a0 a1).plus ((extension f a0 a1).meaning x) ((extension f a0 a1).meaning y)
  extension_plus x y = keeps.plus (pair_of x) (pair_of y)

  pub extension_opposite : (x : W) → f.opposite (f.meaning (a0 x)) ++ f.opposite (f.meaning (a1 x)) ≡ (extension f a0 a1).opposite ((extension f a0 a1).meaning x)
  extension_opposite x = keeps.opposite (pair_of x)

  pub extension_times : (x y : W) →
      f.plus (f.times (f.meaning (a0 x)) (f.meaning (a0 y))) (f.times f.non_residue (f.times (f.meaning (a1 x)) (f.meaning (a1 y))))
      ++ f.plus (f.times (f.meaning (a0 x)) (f.meaning (a1 y))) (f.times (f.meaning (a1 x)) (f.meaning (a0 y)))
      ≡ (extension f a0 a1).times ((extension f a0 a1).meaning x) ((extension f a0 a1).meaning y)
  extension_times x y = keeps.times (pair_of x) (pair_of y)

  -- (a0² + s·a1², 2·a0·a1) is the square
  pub extension_square : (x : W) →
      f.plus (f.times (f.meaning (a0 x)) (f.meaning (a0 x))) (f.times f.non_residue (f.times (f.meaning (a1 x)) (f.meaning (a1 x))))
      ++ f.plus (f.times (f.meaning (a0 x)) (f.meaning (a1 x))) (f.times (f.meaning (a0 x)) (f.meaning (a1 x)))
      ≡ (extension f a0 a1).times ((extension f a0 a1).meaning x) ((extension f a0 a1).meaning x)
  extension_square x =
      ap (λ t. f.plus (f.times (f.meaning (a0 x)) (f.meaning (a0 x))) (f.times f.non_residue (f.times (f.meaning (a1 x)) (f.meaning (a1 x)))) ++ f.plus (f.times (f.meaning (a0 x)) (f.meaning (a1 x))) t) (l.times_commutes (a0 x) (a1 x))
      ∙ extension_times x x

  -- (s·a1, a0) is the product with g
  pub extension_by_generator : (x : W) → f.times f.non_residue (f.meaning (a1 x)) ++ f.meaning (a0 x) ≡ (extension f a0 a1).times (f.zero ++ f.one) ((extension f a0 a1).meaning x)
  extension_by_generator x =
      let s = meaning_non_residue l in let u = meaning_of l (a0 x) in let v = meaning_of l (a1 x) in
      let g : Pair = ((meanings l).zero, (meanings l).one) in
      let p : (meanings l).times s v ≡ (o.times g (u, v)).0 = ring (meanings l) (meanings_ring l) (s ∷ u ∷ v ∷ []) (search quotes) refl in
      let q : u ≡ (o.times g (u, v)).1 = ring (meanings l) (meanings_ring l) (s ∷ u ∷ v ∷ []) (search quotes) refl in
      ap₂ (λ (b c : Meaning l). b.0 ++ c.0) p q ∙ keeps.times g (u, v)

  -- with an inverse y of the norm, (a0·y, −a1·y) is an inverse
  pub extension_inverse : (x : W) (y : V) → f.times (norm f a0 a1 x) (f.meaning y) ≡ f.one →
      (extension f a0 a1).times ((extension f a0 a1).meaning x) (f.times (f.meaning (a0 x)) (f.meaning y) ++ f.opposite (f.times (f.meaning (a1 x)) (f.meaning y))) ≡ f.one ++ f.zero
  extension_inverse x y h =
      let m = meanings l in let b = meaning_of l y in
      let z : Pair = (m.times (pair_of x).0 b, m.opposite (m.times (pair_of x).1 b)) in
      sym (keeps.times (pair_of x) z) ∙ ap joined (norm_times m (meanings_ring l) (meaning_non_residue l) (pair_of x) b) ∙ ap (λ t. t ++ f.zero) h

  pub norm_zero_means_zero : (x : W) → norm f a0 a1 x ≡ f.zero → f.meaning (a0 x) ++ f.meaning (a1 x) ≡ f.zero ++ f.zero
  norm_zero_means_zero x h =
      let z = norm_zero (meanings l) (meanings_field l) (meaning_non_residue l) (meanings_no_root l) (pair_of x).0 (pair_of x).1 (same_list l h) in
      ap₂ (λ (b c : Meaning l). b.0 ++ c.0) z.0 z.1

  pub halves_equal : (x y : W) → (extension f a0 a1).meaning x ≡ (extension f a0 a1).meaning y → (f.meaning (a0 x) ≡ f.meaning (a0 y)) × (f.meaning (a1 x) ≡ f.meaning (a1 y))
  halves_equal x y h = let p = joined_injective (pair_of x) (pair_of y) h in (ap (λ (t : Pair). t.0.0) p, ap (λ (t : Pair). t.1.0) p)

  pub extension_equal_by_meaning : {eq : V → V → Bool} → EqualByMeaning f eq → EqualByMeaning (extension f a0 a1) (λ x y. eq (a0 x) (a0 y) && eq (a1 x) (a1 y))
  extension_equal_by_meaning {eq} h x y =
      let d = Decides-and (eq (a0 x) (a0 y)) (eq (a1 x) (a1 y)) (h (a0 x) (a0 y)) (h (a1 x) (a1 y)) in
      (λ e. let p = d.0 e in ap₂ ◌++◌ p.0 p.1, λ e. d.1 (halves_equal x y e))

  extension_field : IsField o
  extension_field = pairs_field (meanings l) (meanings_field l) (meaning_non_residue l) (meanings_no_root l)

  module _ (make : (x y : V) → (w : W) × (a0 w ≡ x) × (a1 w ≡ y)) where
    -- each pair of meanings is meant by a pair of values
    meant : (p : Pair) (xs : List ℕ) → joined p ≡ xs → Meant e xs
    meant p xs h = ∥∥₁_map₂ p.0.1 p.1.1 (λ v w. let m = make v.0 w.0 in (m.0, ap₂ (λ x y. f.meaning x ++ f.meaning y) m.1 m.2 ∙ ap₂ ◌++◌ v.1 w.1 ∙ h))

    pub extension_laws : Laws (extension f a0 a1)
    extension_laws =
        let m = meanings l in let s = meaning_non_residue l in let i = meaning_root l in
        image_laws extension_field e keeps joined_injective pair_of
        (λ x. length-append (f.meaning (a0 x)) (f.meaning (a1 x)) ∙ ap₂ ◌+◌ (l.one_length (a0 x)) (l.one_length (a1 x))) meant
        (m.zero, m.one) refl (generator_has_no_root m (meanings_field l) s (meanings_no_root l) i (meanings_root l))
        (i, m.zero) refl (pairs_root m (meanings_ring l) s i (meanings_root l))
