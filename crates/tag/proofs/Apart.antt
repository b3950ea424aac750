-- Unequal bodies have unequal blocks: bodies of one length are told apart by what their blocks are told apart by,
-- and bodies of two lengths by their length blocks.
use Rattle.std.proofs.Common.{◌≡◌, ℕ, suc, ◌+◌, ◌-◌, ◌*◌, ◌/◌, ◌%◌, ◌<◌, ◌≤◌, min, List, [], map, length, get_or, drop, sym, refl, ap, ◌∙◌, mod-lt, suc-mul, mul_comm, le-div_iff_mul-le, zero-add, arith, length-drop, length-take}
use native.Mathlib.Nat.{div-add-mod}
use Rattle.std.proofs.lemmas.List.FromFn.{length-map-range_with_len, get_or-map-range_with_len}
use Rattle.std.proofs.lemmas.List.{ext_get_or, get_or-take, get_or-drop, get_or-map}
use Rattle.coding.proofs.RoundTrips.{Below, each_below}
use Rattle.tag.specs.Tags.{Body, block_count, block, blocks, length_block}

pub length_blocks : (B : ℕ) (body : List ℕ) → length (blocks B body) ≡ block_count B (length body)
length_blocks B body = length-map-range_with_len (λ k. block B k body) 0 (block_count B (length body))

module _ (B : ℕ) (body : List ℕ) where
  length_of_block : (k : ℕ) → length (block B k body) ≡ min B (length body - B * k)
  length_of_block k = length-take B (drop (B * k) body) ∙ ap (min B) (length-drop (B * k) body)

  getD_block : (k i : ℕ) → i < B → get_or (block B k body) i 0 ≡ get_or body (B * k + i) 0
  getD_block k i h = get_or-take B (drop (B * k) body) i 0 h ∙ get_or-drop (B * k) body i 0

  below_block : (k q : ℕ) → Below q body → Below q (block B k body)
  below_block k q below i h =
      let short : i < min B (length body - B * k) = rw (length_of_block k) at h in
      rw (getD_block k i (omega arith)) (below (B * k + i) (omega arith))

  getD_blocks : {Y : Type 0} (f : List ℕ → Y) (y : Y) (k : ℕ) → k < block_count B (length body) → get_or (map f (blocks B body)) k y ≡ f (block B k body)
  getD_blocks f y k h =
      get_or-map f (blocks B body) k [] y (rw (length_blocks B body) h) ∙ ap f (get_or-map-range_with_len (λ k. block B k body) 0 (block_count B (length body)) k k [] h (zero-add k))

module _ {Y : Type 0} (f : List ℕ → Y) (B : ℕ) (apart : (b c : List ℕ) → length b ≤ B → length c ≡ length b → Below 256 b → Below 256 c → f b ≡ f c → b ≡ c) where
  -- where f tells blocks apart, bodies of one length with the same f of every block are the same
  pub bodies_apart : (x y : List ℕ) → 0 < B → length x ≡ length y → Below 256 x → Below 256 y → map f (blocks B x) ≡ map f (blocks B y) → x ≡ y
  bodies_apart x y pos long bx by same =
      ext_get_or 0 x y long
      (λ i h.
      let k = i / B in
      let r : i % B < B = mod-lt i pos in
      let e : B * k + i % B ≡ i = div-add-mod i B in
      let m : suc k * B ≤ length x + B - 1 = omega (arith, suc-mul k B, mul_comm B k) in
      let kx : k < block_count B (length x) = (le-div_iff_mul-le pos).1 m in
      let ky : k < block_count B (length y) = rw (← long) kx in
      let equal : f (block B k x) ≡ f (block B k y) = sym (getD_blocks B x f (f []) k kx) ∙ ap (λ t. get_or t k (f [])) same ∙ getD_blocks B y f (f []) k ky in
      let lx = length_of_block B x k in
      let ly = length_of_block B y k in
      let block_same : block B k x ≡ block B k y =
      apart (block B k x) (block B k y) (omega arith) (ly ∙ ap (λ n. min B (n - B * k)) (sym long) ∙ sym lx) (below_block B x k 256 bx) (below_block B y k 256 by) equal in
      ap (λ j. get_or x j 0) (sym e) ∙ sym (getD_block B x k (i % B) r) ∙ ap (λ t. get_or t (i % B) 0) block_same ∙ getD_block B y k (i % B) r ∙ ap (λ j. get_or y j 0) e)

  -- and bodies with the same f of their length blocks are equally long
  pub lengths_apart : (x y : List ℕ) → 2 ≤ B → Body x → Body y → f (length_block x) ≡ f (length_block y) → length x ≡ length y
  lengths_apart x y two bx by same =
      let below : (z : List ℕ) → Body z → Below 256 (length_block z) = λ z b. each_below 256 (length_block z) (omega (arith, b.1), (mod-lt (length z) (omega arith), tt)) in
      let e : length_block x ≡ length_block y = apart (length_block x) (length_block y) two refl (below x bx) (below y by) same in
      let high : length x / 256 ≡ length y / 256 = cc in
      let low : length x % 256 ≡ length y % 256 = cc in
      omega arith
