-- How many keys can fit two bodies.
use Rattle.std.specs.Prelude.{◌≡◌, ℕ, ◌+◌, ◌≤◌, max, ◌≢◌, List, [], ◌∷◌, length}
use Rattle.std.specs.List.{AllByRecursion}
use Rattle.field.specs.Fields.{Arithmetic}
use Rattle.field.specs.Coordinates.{Layout}
use Rattle.coding.specs.Encoding.{block_size_of}
use Rattle.tag.specs.Tags.{Body, block_count, tag_of}

module _ {V : Type 0} (a : Arithmetic V) (l : Layout) (w : ℕ) where
  -- the values have pairwise different meanings; by recursion and not by the library's pairs, which go by places
  abbrev pub Different : List V → Type 0
  Different [] = Unit {0}
  Different (x ∷ xs) = AllByRecursion (λ y. a.meaning x ≢ a.meaning y) xs × Different xs

  -- with this key there is one pad for which the two bodies have the two tags
  abbrev pub Fits : List ℕ → V → List ℕ → V → V → Type 0
  Fits x s y t key = ∥ ((pad : V) × (tag_of a l w (a.meaning key) (a.meaning pad) x ≡ a.meaning s) × (tag_of a l w (a.meaning key) (a.meaning pad) y ≡ a.meaning t)) ∥₁

  -- Of two unequal bodies and a tag for each: different keys that fit them are at most one more than the blocks of the
  -- body that has more.
  abbrev pub FewKeysFitTwoBodies : Type 0
  FewKeysFitTwoBodies =
      (x y : List ℕ) → Body x → Body y → x ≢ y → (s t : V) (keys : List V) → Different keys → AllByRecursion (Fits x s y t) keys
      → length keys ≤ 1 + max (block_count (block_size_of w l.count) (length x)) (block_count (block_size_of w l.count) (length y))
