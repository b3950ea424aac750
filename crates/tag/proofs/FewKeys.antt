-- Two unequal bodies, each with a tag named for it, fit few keys: each such key is a root of a polynomial
-- that has no more coefficients than the larger body has blocks, plus two, not all of them zero.
use Rattle.std.proofs.Common.{◌≡◌, ℕ, suc, max, ◌≢◌, List, [], ◌∷◌, map, reverse, length, fold, sym, refl, ap, ◌∙◌, ap₂, arith}
use mathlib.Core.Path.{fst_path}
use mathlib.Core.Logic.{∥∥₁_elim}
use mathlib.Core.HLevel.{hedberg}
use mathlib.Core.List.{reverse_aux}
use native.Mathlib.Nat.{suc_inj}
use lib.ListN.{length-map, length-reverse}
use Rattle.std.specs.List.{AllByRecursion}
use Rattle.std.proofs.lemmas.List.{reverse-reverse}
use Rattle.field.specs.Fields.{Arithmetic, Laws}
use Rattle.field.specs.Coordinates.{Layout, CoordinateLaws}
use Rattle.field.specs.Rings.{Operations, times_zero}
use Rattle.field.specs.Quotes.{quotes, ring}
use Rattle.field.specs.FieldTheory.{IsField, difference_zero}
use Rattle.field.specs.Meanings.{Meaning, meaning_of, same_list, meanings, meanings_ring, meanings_field}
use Rattle.field.proofs.Polynomials.{PairwiseDifferent, horner, AllZero, difference, length_difference, horner_difference, no_difference, root_bound}
use Rattle.coding.specs.Encoding.{Limits, block_size_of}
use Rattle.coding.proofs.RoundTrips.{each_below}
use Rattle.tag.specs.Tags.{Body, block_count, blocks, length_block, absorbed, tag_of}
use Rattle.tag.specs.KeyBound.{Different, Fits, FewKeysFitTwoBodies}
use Rattle.tag.proofs.BlockMeanings.{block_size_from_two, block_meaning, block_meanings_apart}
use Rattle.tag.proofs.Apart.{length_blocks, bodies_apart, lengths_apart}

module _ {A : Type 0} (o : Operations A) (f : IsField o) where
  open o use {zero, plus as ◌+◌, times as ◌*◌, opposite as neg}

  infixl 65 ◌+◌
  infixl 70 ◌*◌
  open f use {is_ring as r}

  one_block_more : (k x h : A) → (k * h + x) * k ≡ k * (x + k * h)
  one_block_more k x h = ring o r (k ∷ x ∷ h ∷ []) (search quotes depth 9) refl

  -- the polynomial that has each key as a root that gives the tags s and t to bodies with the coefficients cs and ds
  abbrev key_polynomial : List A → List A → A → A → List A
  key_polynomial cs ds s t = (t + neg s) ∷ difference o cs ds

  key_is_root : (cs ds : List A) (s t k pad : A) → k * horner o cs k + pad ≡ s → k * horner o ds k + pad ≡ t → horner o (key_polynomial cs ds s t) k ≡ zero
  key_is_root cs ds s t k pad p q =
      ap (λ v. (t + neg s) + k * v) (horner_difference o f cs ds k)
      ∙ ap₂ (λ u v. (v + neg u) + k * (horner o cs k + neg (horner o ds k))) (sym p) (sym q)
      ∙ ring o r (k ∷ pad ∷ horner o cs k ∷ horner o ds k ∷ []) (search quotes depth 9) refl

-- a property of every value, carried over to the values' images
every_mapped : {V W : Type 0} (P : V → Type 0) (Q : W → Type 0) (g : V → W) → ((x : V) → P x → Q (g x)) → (xs : List V) → AllByRecursion P xs → AllByRecursion Q (map g xs)
every_mapped P Q g h [] e = tt
every_mapped P Q g h (x ∷ xs) e = (h x e.0, every_mapped P Q g h xs e.1)

module _ {V : Type 0} {a : Arithmetic V} {l : Layout} {w : ℕ} (laws : Laws a) (coordinates : CoordinateLaws a l) (limits : Limits l w) where
  abbrev m : Operations (Meaning laws)
  m = meanings laws

  abbrev B : ℕ
  B = block_size_of w l.count

  abbrev of_block : List ℕ → Meaning laws
  of_block = block_meaning laws coordinates limits

  -- a body's coefficients: the length block, then the blocks from the last to the first
  abbrev coefficients_of : List ℕ → List (Meaning laws)
  coefficients_of body = of_block (length_block body) ∷ reverse (map of_block (blocks B body))

  length_coefficients : (body : List ℕ) → length (coefficients_of body) ≡ suc (block_count B (length body))
  length_coefficients body =
      ap suc (length-reverse (map of_block (blocks B body)) ∙ length-map (blocks B body) of_block ∙ length_blocks B body)

  module _ (key : V) where
    abbrev k : Meaning laws
    k = meaning_of laws key

    -- blocks taken in: their coefficients come before those that stand, the last block first
    absorbed_value : (cs : List (Meaning laws)) (bs : List (List ℕ)) →
        fold (absorbed a l w (a.meaning key)) (m.times k (horner m cs k)).0 bs ≡ (m.times k (horner m (reverse_aux (map of_block bs) cs) k)).0
    absorbed_value cs [] = refl
    absorbed_value cs (b ∷ bs) =
        ap (λ t. fold (absorbed a l w (a.meaning key)) t bs) (fst_path (one_block_more m (meanings_field laws) k (of_block b) (horner m cs k)))
        ∙ absorbed_value (of_block b ∷ cs) bs

    -- a tag is the key times the value of the body's coefficients at the key, plus the pad
    tag_value : (pad : V) (body : List ℕ) → tag_of a l w (a.meaning key) (a.meaning pad) body ≡ (m.plus (m.times k (horner m (coefficients_of body) k)) (meaning_of laws pad)).0
    tag_value pad body =
        let bs = blocks B body in
        ap (λ t. a.plus (absorbed a l w (a.meaning key) t (length_block body)) (a.meaning pad))
        (ap (λ t. fold (absorbed a l w (a.meaning key)) t bs) (sym (fst_path (times_zero m (meanings_ring laws) k))) ∙ absorbed_value [] bs)
        ∙ ap (λ t. a.plus t (a.meaning pad)) (fst_path (one_block_more m (meanings_field laws) k (of_block (length_block body)) (horner m (reverse (map of_block bs)) k)))

  module _ (x y : List ℕ) (s t : V) where
    abbrev polynomial : List (Meaning laws)
    polynomial = key_polynomial m (meanings_field laws) (coefficients_of x) (coefficients_of y) (meaning_of laws s) (meaning_of laws t)

    fitting_is_root : (key : V) → Fits a l w x s y t key → horner m polynomial (meaning_of laws key) ≡ m.zero
    fitting_is_root key fits =
        ∥∥₁_elim fits (hedberg (meanings_field laws).decide _ _)
        (λ p. key_is_root m (meanings_field laws) (coefficients_of x) (coefficients_of y) (meaning_of laws s) (meaning_of laws t) (meaning_of laws key) (meaning_of laws p.0)
        (same_list laws (sym (tag_value key p.0 x) ∙ p.1)) (same_list laws (sym (tag_value key p.0 y) ∙ p.2)))

    -- equal length blocks and equal blocks would make the bodies equal
    not_all_zero : Body x → Body y → x ≢ y → ¬ (AllZero m polynomial)
    not_all_zero bx by unequal z =
        let apart = block_meanings_apart laws coordinates limits in
        let two = block_size_from_two limits in
        let long : length x ≡ length y = lengths_apart of_block B apart x y two bx by (difference_zero m (meanings_field laws) _ _ z.1.0) in
        let rx = map of_block (blocks B x) in
        let ry = map of_block (blocks B y) in
        let counts : length (reverse rx) ≡ length (reverse ry) = suc_inj (length_coefficients x ∙ ap (λ n. suc (block_count B n)) long ∙ sym (length_coefficients y)) in
        let reversed : reverse rx ≡ reverse ry = no_difference m (meanings_field laws) (reverse rx) (reverse ry) counts z.1.1 in
        unequal (bodies_apart of_block B apart x y (omega arith) long (each_below 256 x bx.2) (each_below 256 y by.2)
        (sym (reverse-reverse rx) ∙ ap reverse reversed ∙ reverse-reverse ry))

  different_meanings : (keys : List V) → Different a l w keys → PairwiseDifferent (map (meaning_of laws) keys)
  different_meanings [] d = tt
  different_meanings (k ∷ ks) d =
      (every_mapped (λ y. a.meaning k ≢ a.meaning y) (λ y. meaning_of laws k ≢ y) (meaning_of laws) (λ y n e. n (fst_path e)) ks d.0, different_meanings ks d.1)

pub few_keys_fit_two_bodies : {V : Type 0} {a : Arithmetic V} {l : Layout} {w : ℕ} → Laws a → CoordinateLaws a l → Limits l w → FewKeysFitTwoBodies a l w
few_keys_fit_two_bodies {a} {l} {w} laws coordinates limits x y bx by unequal s t keys different fit =
    let m = meanings laws in
    let cs = coefficients_of laws coordinates limits x in
    let ds = coefficients_of laws coordinates limits y in
    let bound = root_bound m (meanings_field laws) (polynomial laws coordinates limits x y s t) (map (meaning_of laws) keys)
    (not_all_zero laws coordinates limits x y s t bx by unequal) (different_meanings laws coordinates limits keys different)
    (every_mapped (Fits a l w x s y t) (λ k. horner m (polynomial laws coordinates limits x y s t) k ≡ m.zero) (meaning_of laws) (fitting_is_root laws coordinates limits x y s t) keys fit) in
    let as_many : length (map (meaning_of laws) keys) ≡ length keys = length-map keys (meaning_of laws) in
    let longer : length (difference m cs ds) ≡ max (length cs) (length ds) = length_difference m cs ds in
    let lx = length_coefficients laws coordinates limits x in
    let ly = length_coefficients laws coordinates limits y in
    omega arith
