-- A tag is the sum of its blocks, each weighed by a power of the key, plus the pad.
use Rattle.std.proofs.Common.{◌≡◌, ℕ, zero, suc, List, [], ◌∷◌, ◌++◌, length, fold, sym, refl, ap, ◌∙◌}
use mathlib.Core.Path.{fst_path}
use Rattle.std.proofs.lemmas.List.Sums.{fold_push}
use Rattle.field.specs.Fields.{Arithmetic, Laws, Meant}
use Rattle.field.specs.Coordinates.{Layout, CoordinateLaws}
use Rattle.field.specs.Rings.{Operations, Ring}
use Rattle.field.specs.Quotes.{quotes, ring}
use Rattle.field.specs.Meanings.{Meaning, meaning_of, meanings, meanings_ring}
use Rattle.coding.specs.Encoding.{Limits, block_size_of}
use Rattle.tag.specs.Tags.{blocks, length_block, absorbed, power, weighed, TagIsWeighedSum}
use Rattle.tag.proofs.BlockMeanings.{block_meaning}

module _ {A : Type 0} (o : Operations A) (r : Ring o) where
  open o use {zero as none, one, plus as ◌+◌, times as ◌*◌}

  infixl 65 ◌+◌
  infixl 70 ◌*◌
  no_block : (s : A) → s ≡ s * one + none
  no_block s = ring o r (s ∷ []) (search quotes) refl

  -- a block x before others with the weighed sum t, where p is the power of the key k that counts the others
  first_block : (s x k p t : A) → (s + x) * k * p + t ≡ s * (k * p) + (x * (k * p) + t)
  first_block s x k p t = ring o r (s ∷ x ∷ k ∷ p ∷ t ∷ []) (search quotes depth 12) refl

  from_zero : (p t : A) → none * p + t ≡ t
  from_zero p t = ring o r (p ∷ t ∷ []) (search quotes) refl

module _ {V : Type 0} {a : Arithmetic V} {l : Layout} {w : ℕ} (laws : Laws a) (coordinates : CoordinateLaws a l) (limits : Limits l w) (key : V) where
  -- powers of the key and weighed sums are meanings
  abbrev power_meaning : ℕ → Meaning laws
  power_meaning n = (power a l w (a.meaning key) n, meant n)
    where
      meant : (n : ℕ) → Meant a (power a l w (a.meaning key) n)
      meant zero = laws.meant_one
      meant (suc n) = ((meanings laws).times (meaning_of laws key) (power a l w (a.meaning key) n, meant n)).1

  abbrev weighed_meaning : List (List ℕ) → Meaning laws
  weighed_meaning bs = (weighed a l w (a.meaning key) bs, meant bs)
    where
      meant : (bs : List (List ℕ)) → Meant a (weighed a l w (a.meaning key) bs)
      meant [] = laws.meant_zero
      meant (b ∷ bs) = ((meanings laws).plus ((meanings laws).times (block_meaning laws coordinates limits b) (power_meaning (length (b ∷ bs)))) (weighed a l w (a.meaning key) bs, meant bs)).1

  -- blocks taken in after a sum s: s weighed by the power that counts them, plus their weighed sum
  absorbed_weighed : (s : Meaning laws) (bs : List (List ℕ)) →
      fold (absorbed a l w (a.meaning key)) s.0 bs ≡ a.plus (a.times s.0 (power a l w (a.meaning key) (length bs))) (weighed a l w (a.meaning key) bs)
  absorbed_weighed s [] = fst_path (no_block (meanings laws) (meanings_ring laws) s)
  absorbed_weighed s (b ∷ bs) =
      let m = meanings laws in let k = meaning_of laws key in let x = block_meaning laws coordinates limits b in
      absorbed_weighed (m.times (m.plus s x) k) bs ∙ fst_path (first_block m (meanings_ring laws) s x k (power_meaning (length bs)) (weighed_meaning bs))

  all_weighed : (bs : List (List ℕ)) → fold (absorbed a l w (a.meaning key)) a.zero bs ≡ weighed a l w (a.meaning key) bs
  all_weighed bs =
      let m = meanings laws in
      absorbed_weighed m.zero bs ∙ fst_path (from_zero m (meanings_ring laws) (power_meaning (length bs)) (weighed_meaning bs))

pub tag_is_weighed_sum : {V : Type 0} {a : Arithmetic V} {l : Layout} {w : ℕ} → Laws a → CoordinateLaws a l → Limits l w → TagIsWeighedSum a l w
tag_is_weighed_sum {a} {l} {w} laws coordinates limits key pad body =
    let bs = blocks (block_size_of w l.count) body in
    ap (λ t. a.plus t (a.meaning pad))
    (sym (fold_push (absorbed a l w (a.meaning key)) a.zero bs (length_block body)) ∙ all_weighed laws coordinates limits key (bs ++ length_block body ∷ []))
