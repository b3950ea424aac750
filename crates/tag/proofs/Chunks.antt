-- The blocks of bytes: the first and those of the rest, four of them, and those of a group and of the bytes behind it.
use Rattle.std.proofs.Common.{◌≡◌, ℕ, zero, suc, ◌+◌, ◌-◌, ◌*◌, ◌/◌, ◌%◌, ◌<◌, ◌≤◌, min, Bool, true, false, leb, List, [], ◌∷◌, ◌++◌, map, length, take, drop, fold, mod-lt, sym, refl, ap, ◌∙◌, ap₂, append_assoc, append-nil, suc-mul, mul_comm, arith, length-append, length-take, length-drop, take-append-drop, take_at, take_all}
use Rattle.std.proofs.Math.Nat.{div-mul-le_self, lt-div-mul-add, div-eq_of_lt, div-eq_of_lt-le}
use Rattle.std.proofs.Math.Seq.{drop-append-add}
use Rattle.std.proofs.lemmas.Bool.{leb-true, leb-false}
use Rattle.std.proofs.lemmas.List.{nil_from_length}
use Rattle.std.proofs.lemmas.List.Sums.{fold-append}
use Rattle.std.proofs.lemmas.Nat.{div-add-mod'}
use Rattle.std.specs.Int.{div_ceil}
use Rattle.std.specs.List.{range_with_len}
use Rattle.tag.specs.Tags.{block_count, block, blocks}

shifted : {X : Type 0} (f g : ℕ → X) → ((k : ℕ) → f (k + 1) ≡ g k) → (a n : ℕ) → map f (range_with_len (a + 1) n) ≡ map g (range_with_len a n)
shifted f g e a zero = refl
shifted f g e a (suc n) = ap₂ ◌∷◌ (e a) (shifted f g e (a + 1) n)

module _ (B : ℕ) (pos : 0 < B) where
  pub blocks_none : blocks B [] ≡ []
  blocks_none = ap (λ n. map (λ k. block B k []) (range_with_len 0 n)) (div-eq_of_lt (omega arith))

  -- bytes that make no more than one block
  blocks_last : (x : List ℕ) → 0 < length x → length x ≤ B → blocks B x ≡ x ∷ []
  blocks_last x some short =
      let one : block_count B (length x) ≡ 1 = div-eq_of_lt-le {k = 1} B (omega arith) (omega arith) in
      let none : B * 0 ≡ 0 = omega arith in
      let whole : block B 0 x ≡ x = ap (λ m. take B (drop m x)) none ∙ take_all B x short in
      ap (λ n. map (λ k. block B k x) (range_with_len 0 n)) one ∙ ap (λ (y : List ℕ). y ∷ []) whole

  -- a whole block before others
  blocks_first : (x rest : List ℕ) → length x ≡ B → blocks B (x ++ rest) ≡ x ∷ blocks B rest
  blocks_first x rest long =
      let r = length rest in
      let q = (r + B - 1) / B in
      let low : q * B ≤ r + B - 1 = div-mul-le_self (r + B - 1) B in
      let high : r + B - 1 < q * B + B = lt-div-mul-add pos in
      let count : block_count B (length (x ++ rest)) ≡ suc q = div-eq_of_lt-le {k = suc q} B (omega (arith, suc-mul q B, length-append x rest)) (omega (arith, suc-mul q B, suc-mul (suc q) B, length-append x rest)) in
      let none : B * 0 ≡ 0 = omega arith in
      let further : (k : ℕ) → B * (k + 1) ≡ length x + B * k = λ k. omega (arith, suc-mul k B, mul_comm B k, mul_comm B (k + 1)) in
      let next : (k : ℕ) → block B (k + 1) (x ++ rest) ≡ block B k rest = λ k. ap (take B) (ap (λ m. drop m (x ++ rest)) (further k) ∙ drop-append-add x rest (B * k)) in
      ap (λ n. map (λ k. block B k (x ++ rest)) (range_with_len 0 n)) count
      ∙ ap₂ ◌∷◌ (ap (λ m. take B (drop m (x ++ rest))) none ∙ take_at x rest B long) (shifted (λ k. block B k (x ++ rest)) (λ k. block B k rest) next 0 q)

  -- the first block as `chunks` cuts it
  pub blocks_next : (x rest : List ℕ) → 0 < length (x ++ rest) → length x ≡ min B (length (x ++ rest)) → blocks B (x ++ rest) ≡ x ∷ blocks B rest
  blocks_next x rest some long = go (leb B (length (x ++ rest))) refl
    where
      go : (b : Bool) → leb B (length (x ++ rest)) ≡ b → blocks B (x ++ rest) ≡ x ∷ blocks B rest
      go true p = blocks_first x rest (let h = leb-true _ _ p in omega arith)
      go false p =
          let h = leb-false _ _ p in
          let empty : rest ≡ [] = nil_from_length rest (omega (arith, length-append x rest)) in
          rw (empty, append-nil x, blocks_none) (blocks_last x (omega (arith, length-append x rest)) (omega arith))

  pub four_blocks : (a b c d : List ℕ) → length a ≡ B → length b ≡ B → length c ≡ B → 0 < length d → length d ≤ B → blocks B ((a ++ b) ++ (c ++ d)) ≡ a ∷ b ∷ c ∷ d ∷ []
  four_blocks a b c d la lb lc some ld =
      ap (blocks B) (append_assoc a b (c ++ d)) ∙ blocks_first a (b ++ (c ++ d)) la
      ∙ ap (λ t. a ∷ t) (blocks_first b (c ++ d) lb ∙ ap (λ t. b ∷ t) (blocks_first c d lc ∙ ap (λ t. c ∷ t) (blocks_last d some ld)))

  -- whole blocks, and those behind them
  blocks_whole : (m : ℕ) (x rest : List ℕ) → length x ≡ m * B → blocks B (x ++ rest) ≡ blocks B x ++ blocks B rest
  blocks_whole zero x rest long = rw (nil_from_length x (omega arith), blocks_none)
  blocks_whole (suc m) x rest long =
      let y = take B x in
      let z = drop B x in
      let ly : length y ≡ B = omega (arith, length-take B x, suc-mul m B) in
      let lz : length z ≡ m * B = omega (arith, length-drop B x, suc-mul m B) in
      ap (λ t. blocks B (t ++ rest)) (sym (take-append-drop B x)) ∙ ap (blocks B) (append_assoc y z rest) ∙ blocks_first y (z ++ rest) ly
      ∙ ap (λ t. y ∷ t) (blocks_whole m z rest lz)
      ∙ ap (λ t. t ++ blocks B rest) (sym (blocks_first y z ly) ∙ ap (blocks B) (take-append-drop B x))

  -- a group of four blocks as `chunks` cuts it, and the blocks behind it
  pub blocks_group : (x rest : List ℕ) → length x ≡ min (4 * B) (length (x ++ rest)) → blocks B (x ++ rest) ≡ blocks B x ++ blocks B rest
  blocks_group x rest long = go (leb (4 * B) (length (x ++ rest))) refl
    where
      go : (b : Bool) → leb (4 * B) (length (x ++ rest)) ≡ b → blocks B (x ++ rest) ≡ blocks B x ++ blocks B rest
      go true p = blocks_whole 4 x rest (let h = leb-true _ _ p in omega arith)
      go false p =
          let h = leb-false _ _ p in
          let empty : rest ≡ [] = nil_from_length rest (omega (arith, length-append x rest)) in
          rw (empty, append-nil x, blocks_none, append-nil (blocks B x))

-- how many blocks there are, as a division that is rounded up
pub count_rounded_up : (n B : ℕ) → 0 < B → div_ceil n B ≡ block_count B n
count_rounded_up n B pos = go (leb 1 (n % B)) refl
  where
    whole : n / B * B + n % B ≡ n
    whole = div-add-mod' n B

    go : (b : Bool) → leb 1 (n % B) ≡ b → div_ceil n B ≡ block_count B n
    go true p =
        let some = leb-true _ _ p in
        let less : n % B < B = mod-lt n pos in
        let up : div_ceil n B ≡ suc (n / B) = omega arith in
        up ∙ sym (div-eq_of_lt-le {k = suc (n / B)} B (omega (arith, whole, suc-mul (n / B) B)) (omega (arith, whole, suc-mul (n / B) B, suc-mul (suc (n / B)) B)))
    go false p =
        let none = leb-false _ _ p in
        let up : div_ceil n B ≡ n / B = omega arith in
        up ∙ sym (div-eq_of_lt-le {k = n / B} B (omega (arith, whole)) (omega (arith, whole, suc-mul (n / B) B)))

-- what is left of a fold over blocks after the first of them, after a group, and after all
module _ {V : Type 0} (f : V → List ℕ → V) (v : V) (B : ℕ) (pos : 0 < B) (s x rest : List ℕ) (size : ℕ) (cut : s ≡ x ++ rest) (long : length x ≡ min size (length s)) where
  pub folded_next : size ≡ B → 0 < length s → fold f v (blocks B s) ≡ fold f (f v x) (blocks B rest)
  folded_next same some =
      ap (λ t. fold f v (blocks B t)) cut
      ∙ ap (fold f v) (blocks_next B pos x rest (rw cut at some) (long ∙ ap₂ min same (ap length cut)))

  pub folded_group : size ≡ 4 * B → fold f v (blocks B s) ≡ fold f (fold f v (blocks B x)) (blocks B rest)
  folded_group same =
      ap (λ t. fold f v (blocks B t)) cut
      ∙ ap (fold f v) (blocks_group B pos x rest (long ∙ ap₂ min same (ap length cut)))
      ∙ fold-append f v (blocks B x) (blocks B rest)

pub folded_all : {V : Type 0} (f : V → List ℕ → V) (v : V) (B : ℕ) → 0 < B → (s : List ℕ) → length s ≡ 0 → fold f v (blocks B s) ≡ v
folded_all f v B pos s none = ap (λ t. fold f v (blocks B t)) (nil_from_length s none) ∙ ap (fold f v) (blocks_none B pos)
