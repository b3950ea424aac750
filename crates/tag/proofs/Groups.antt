-- Four blocks taken in at once.
use Rattle.std.proofs.Common.{◌≡◌, ℕ, List, [], ◌∷◌, fold, refl}
use mathlib.Core.Path.{fst_path}
use Rattle.field.specs.Fields.{Arithmetic, Laws, four_products}
use Rattle.field.specs.Coordinates.{Layout, CoordinateLaws}
use Rattle.field.specs.Rings.{Operations, Ring}
use Rattle.field.specs.Quotes.{quotes, ring}
use Rattle.field.specs.Meanings.{meaning_of, meanings, meanings_ring}
use Rattle.coding.specs.Encoding.{Limits}
use Rattle.tag.specs.Tags.{block_value, absorbed}
use Rattle.tag.proofs.BlockMeanings.{block_meaning}

module _ {A : Type 0} (o : Operations A) (r : Ring o) where
  open o use {plus as ◌+◌, times as ◌*◌}

  infixl 65 ◌+◌
  infixl 70 ◌*◌
  -- the sum s with four blocks, and the key k
  group_is : (s x y z u k : A) → ((s + x) * (k * k * (k * k)) + y * (k * k * k)) + (z * (k * k) + u * k) ≡ ((((s + x) * k + y) * k + z) * k + u) * k
  group_is s x y z u k = ring o r (s ∷ x ∷ y ∷ z ∷ u ∷ k ∷ []) (search quotes depth 14) refl

module _ {V : Type 0} {a : Arithmetic V} {l : Layout} {w : ℕ} (laws : Laws a) (coordinates : CoordinateLaws a l) (limits : Limits l w) where
  pub group_absorbed : (key sum : V) (b0 b1 b2 b3 : List ℕ) →
      let k = a.meaning key in
      four_products a (a.plus (a.meaning sum) (block_value a l w b0)) (a.times (a.times k k) (a.times k k)) (block_value a l w b1) (a.times (a.times k k) k) (block_value a l w b2) (a.times k k) (block_value a l w b3) k
      ≡ fold (absorbed a l w k) (a.meaning sum) (b0 ∷ b1 ∷ b2 ∷ b3 ∷ [])
  group_absorbed key sum b0 b1 b2 b3 =
      let x = block_meaning laws coordinates limits in
      fst_path (group_is (meanings laws) (meanings_ring laws) (meaning_of laws sum) (x b0) (x b1) (x b2) (x b3) (meaning_of laws key))
