-- Coefficients by power of a quadratic extension, from those of the field below.
use Rattle.std.specs.Prelude.{◌≡◌, ◌≢◌, ℕ, ◌+◌, ◌/◌, ◌%◌, ◌<◌, List, ◌++◌, length, slice_index, slice_set}
use Rattle.std.proofs.Common.{sym, ap, ap₂, ◌∙◌}
use Rattle.std.proofs.Math.Logic.{∥∥₁_map₂}
use Rattle.field.specs.Fields.{Arithmetic, Laws}
use Rattle.field.specs.Extensions.{extension}
use Rattle.field.specs.Coordinates.{Layout, Coefficients, CoordinateLaws, interleaved, evens, odds, extension_layout}
use Rattle.field.specs.Meanings.{meaning_length, meanings}
use Rattle.field.specs.Interleaving.{front, back, length_interleaved, each_interleaved, evens_interleaved, odds_interleaved, even_place, odd_place, set_even_place, set_odd_place, halves_interleaved, halves_length, each_evens, each_odds, interleaved_replicate}

module _ {V : Type 0} {f : Arithmetic V} {y : Layout} (l : Laws f) (k : CoordinateLaws f y) where
  -- a joined list is told by power as its two halves are
  pub joined_by_power : (x z : List ℕ) → length x ≡ f.size → (extension_layout y).by_power (x ++ z) ≡ interleaved (y.by_power x) (y.by_power z)
  joined_by_power x z e =
      let n : length x ≡ y.count = e ∙ k.size_is_count in
      ap₂ (λ u v. interleaved (y.by_power u) (y.by_power v)) (front y.count x z n) (back y.count x z n)

  pub same_counts : (x z : V) → length (y.by_power (f.meaning x)) ≡ length (y.by_power (f.meaning z))
  same_counts x z = (k.told x).0 ∙ sym (k.told z).0

  module _ {W : Type 0} (a0 a1 : W → V) where
    pub pair_by_power : (w : W) → (extension_layout y).by_power ((extension f a0 a1).meaning w) ≡ interleaved (y.by_power (f.meaning (a0 w))) (y.by_power (f.meaning (a1 w)))
    pair_by_power w = joined_by_power (f.meaning (a0 w)) (f.meaning (a1 w)) (l.one_length (a0 w))

    -- a0 has the coefficients at even powers, a1 those at odd ones
    pub even_coefficient : (w : W) (k : ℕ) → k % 2 ≡ 0 → slice_index ((extension_layout y).by_power ((extension f a0 a1).meaning w)) k ≡ slice_index (y.by_power (f.meaning (a0 w))) (k / 2)
    even_coefficient w k even = ap (λ (t : List ℕ). slice_index t k) (pair_by_power w) ∙ even_place _ _ k (same_counts (a0 w) (a1 w)) even

    pub odd_coefficient : (w : W) (k : ℕ) → (k % 2 ≢ 0) → slice_index ((extension_layout y).by_power ((extension f a0 a1).meaning w)) k ≡ slice_index (y.by_power (f.meaning (a1 w))) (k / 2)
    odd_coefficient w k odd = ap (λ (t : List ℕ). slice_index t k) (pair_by_power w) ∙ odd_place _ _ k (same_counts (a0 w) (a1 w)) odd

    pub even_replaced : (w z : W) (k n : ℕ) → k % 2 ≡ 0 → a1 z ≡ a1 w → y.by_power (f.meaning (a0 z)) ≡ slice_set (y.by_power (f.meaning (a0 w))) (k / 2) n →
        (extension_layout y).by_power ((extension f a0 a1).meaning z) ≡ slice_set ((extension_layout y).by_power ((extension f a0 a1).meaning w)) k n
    even_replaced w z k n even other set =
        pair_by_power z
        ∙ ap₂ (λ (s : List ℕ) (v : V). interleaved s (y.by_power (f.meaning v))) set other
        ∙ set_even_place _ _ k n (same_counts (a0 w) (a1 w)) even
        ∙ ap (λ (t : List ℕ). slice_set t k n) (sym (pair_by_power w))

    pub odd_replaced : (w z : W) (k n : ℕ) → (k % 2 ≢ 0) → a0 z ≡ a0 w → y.by_power (f.meaning (a1 z)) ≡ slice_set (y.by_power (f.meaning (a1 w))) (k / 2) n →
        (extension_layout y).by_power ((extension f a0 a1).meaning z) ≡ slice_set ((extension_layout y).by_power ((extension f a0 a1).meaning w)) k n
    odd_replaced w z k n odd other set =
        pair_by_power z
        ∙ ap₂ (λ (v : V) (s : List ℕ). interleaved (y.by_power (f.meaning v)) s) other set
        ∙ set_odd_place _ _ k n (same_counts (a0 w) (a1 w)) odd
        ∙ ap (λ (t : List ℕ). slice_set t k n) (sym (pair_by_power w))

    pair_told : (w : W) → Coefficients (extension_layout y) ((extension_layout y).by_power ((extension f a0 a1).meaning w))
    pair_told w =
        rw (pair_by_power w)
        (length_interleaved _ _ (same_counts (a0 w) (a1 w)) ∙ ap₂ ◌+◌ (k.told (a0 w)).0 (k.told (a1 w)).0, each_interleaved (λ n. n < y.modulus) _ _ (k.told (a0 w)).1 (k.told (a1 w)).1)

    pair_told_back : (w : W) → (extension_layout y).from_power ((extension_layout y).by_power ((extension f a0 a1).meaning w)) ≡ (extension f a0 a1).meaning w
    pair_told_back w =
        let same = same_counts (a0 w) (a1 w) in
        ap (extension_layout y).from_power (pair_by_power w)
        ∙ ap₂ (λ u v. y.from_power u ++ y.from_power v) (evens_interleaved _ _ same) (odds_interleaved _ _ same)
        ∙ ap₂ ◌++◌ (k.told_back (a0 w)) (k.told_back (a1 w))

    -- a list of coefficients, in its two halves
    halves : (xs : List ℕ) → Coefficients (extension_layout y) xs → Coefficients y (evens xs) × Coefficients y (odds xs)
    halves xs c =
        let n = halves_length y.count xs c.0 in
        ((n.0, each_evens (λ n. n < y.modulus) xs c.1), (n.1, each_odds (λ n. n < y.modulus) xs c.1))

    pair_meant_back : (xs : List ℕ) → Coefficients (extension_layout y) xs → (extension_layout y).by_power ((extension_layout y).from_power xs) ≡ xs
    pair_meant_back xs c =
        let h = halves xs c in
        joined_by_power (y.from_power (evens xs)) (y.from_power (odds xs)) (meaning_length l (y.from_power (evens xs), k.meant (evens xs) h.0))
        ∙ ap₂ interleaved (k.meant_back (evens xs) h.0) (k.meant_back (odds xs) h.1)
        ∙ halves_interleaved y.count xs c.0

    pub extension_coordinate_laws : ((x z : V) → (w : W) × (a0 w ≡ x) × (a1 w ≡ z)) → CoordinateLaws (extension f a0 a1) (extension_layout y)
    extension_coordinate_laws make = record {
      size_is_count = ap₂ ◌+◌ k.size_is_count k.size_is_count;
      told = pair_told;
      told_back = pair_told_back;
      meant = λ xs c.
          let h = halves xs c in
          ∥∥₁_map₂ (k.meant (evens xs) h.0) (k.meant (odds xs) h.1)
          (λ u v. let w = make u.0 v.0 in (w.0, ap₂ (λ s t. f.meaning s ++ f.meaning t) w.1 w.2 ∙ ap₂ ◌++◌ u.1 v.1));
      meant_back = pair_meant_back;
      zero_tells_zero = joined_by_power f.zero f.zero (meaning_length l (meanings l).zero) ∙ ap₂ interleaved k.zero_tells_zero k.zero_tells_zero ∙ interleaved_replicate y.count 0;
    }
