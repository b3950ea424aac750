-- The meanings that blocks stand for, in the field of meanings.
use Rattle.std.proofs.Common.{◌≡◌, ℕ, ◌<◌, ◌≤◌, List, length, sym, refl, ap, ◌∙◌, arith}
use mathlib.Core.Path.{fst_path}
use Rattle.field.specs.Fields.{Arithmetic, Laws}
use Rattle.field.specs.Coordinates.{Layout, CoordinateLaws}
use Rattle.field.specs.Meanings.{Meaning}
use Rattle.coding.specs.Encoding.{Limits, block_size_of, block_coefficients}
use Rattle.coding.proofs.RoundTrips.{Below, block_is_coefficients, blocks_apart}
use Rattle.tag.specs.Tags.{block_value}

-- a block has two bytes or more
pub block_size_from_two : {l : Layout} {w : ℕ} → Limits l w → 2 ≤ block_size_of w l.count
block_size_from_two limits = omega (arith, limits.room_for_length)

pub block_size_positive : {l : Layout} {w : ℕ} → Limits l w → 0 < block_size_of w l.count
block_size_positive limits = omega (arith, limits.room_for_length)

module _ {V : Type 0} {a : Arithmetic V} {l : Layout} {w : ℕ} (laws : Laws a) (coordinates : CoordinateLaws a l) (limits : Limits l w) where
  abbrev pub block_meaning : List ℕ → Meaning laws
  block_meaning bytes = (block_value a l w bytes, coordinates.meant (block_coefficients w l.count bytes) (block_is_coefficients l w limits bytes))

  -- blocks of one length that mean the same are the same
  pub block_meanings_apart : (b c : List ℕ) → length b ≤ block_size_of w l.count → length c ≡ length b → Below 256 b → Below 256 c → block_meaning b ≡ block_meaning c → b ≡ c
  block_meanings_apart b c short long bb bc same =
      let back : (d : List ℕ) → l.by_power (block_value a l w d) ≡ block_coefficients w l.count d = λ d. coordinates.meant_back (block_coefficients w l.count d) (block_is_coefficients l w limits d) in
      blocks_apart l w limits (length b) b c short refl long bb bc (sym (back b) ∙ ap l.by_power (fst_path same) ∙ back c)
