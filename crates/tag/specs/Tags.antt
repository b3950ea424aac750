-- What a tag is.
use Rattle.std.specs.Prelude.{◌≡◌, ℕ, zero, suc, ◌+◌, ◌-◌, ◌*◌, ◌/◌, ◌%◌, ◌<◌, ◌≤◌, List, [], ◌∷◌, ◌++◌, map, length, take, drop, fold}
use Rattle.std.specs.Simd.Lanes.{Each1}
use Rattle.std.specs.List.{range_with_len}
use Rattle.field.specs.Fields.{Arithmetic}
use Rattle.field.specs.Coordinates.{Layout}
use Rattle.coding.specs.Encoding.{block_size_of, block_coefficients}

-- a body: 2 to 440 bytes
abbrev pub Body : List ℕ → Type 0
Body bytes = (2 ≤ length bytes) × (length bytes ≤ 440) × Each1 (λ n. n < 256) bytes

-- how many blocks of B bytes a body of n bytes has, the last one filled up
abbrev pub block_count : ℕ → ℕ → ℕ
block_count B n = (n + B - 1) / B

-- Block k of a body, as far as the body goes; what fills the last one up is 00.
abbrev pub block : ℕ → ℕ → List ℕ → List ℕ
block B k body = take B (drop (B * k) body)

abbrev pub blocks : ℕ → List ℕ → List (List ℕ)
blocks B body = map (λ k. block B k body) (range_with_len 0 (block_count B (length body)))

-- the length of a body in two bytes, most significant first
abbrev pub length_block : List ℕ → List ℕ
length_block body = (length body / 256) ∷ (length body % 256) ∷ []

-- the second, third and fourth power of a key
abbrev pub ArePowers : {V : Type 0} → Arithmetic V → List ℕ → List ℕ → List ℕ → List ℕ → Type 0
ArePowers a key second third fourth = (second ≡ a.times key key) × (third ≡ a.times (a.times key key) key) × (fourth ≡ a.times (a.times key key) (a.times key key))

module _ {V : Type 0} (a : Arithmetic V) (l : Layout) (w : ℕ) where
  -- the meaning of the value that a block stands for
  abbrev pub block_value : List ℕ → List ℕ
  block_value bytes = l.from_power (block_coefficients w l.count bytes)

  -- one block more: it is added, and the sum multiplied by the key
  abbrev pub absorbed : List ℕ → List ℕ → List ℕ → List ℕ
  absorbed key sum bytes = a.times (a.plus sum (block_value bytes)) key

  -- the blocks of some bytes taken in after a sum, one after the other
  abbrev pub all_absorbed : List ℕ → List ℕ → List ℕ → List ℕ
  all_absorbed key sum bytes = fold (absorbed key) sum (blocks (block_size_of w l.count) bytes)

  -- The tag starts at zero and takes in each block and then the length block; then the pad is added.
  abbrev pub tag_of : List ℕ → List ℕ → List ℕ → List ℕ
  tag_of key pad body =
      a.plus (absorbed key (all_absorbed key a.zero body) (length_block body)) pad

  -- powers, and a sum of blocks in which each is weighed by the power of the key that counts it and those after it
  abbrev pub power : List ℕ → ℕ → List ℕ
  power x zero = a.one
  power x (suc n) = a.times x (power x n)

  abbrev pub weighed : List ℕ → List (List ℕ) → List ℕ
  weighed key [] = a.zero
  weighed key (b ∷ bs) = a.plus (a.times (block_value b) (power key (length (b ∷ bs)))) (weighed key bs)

  -- The tag as a sum: the blocks weighed by falling powers of the key, last the length block by the key itself; and the pad.
  abbrev pub TagIsWeighedSum : Type 0
  TagIsWeighedSum = (key pad : V) (body : List ℕ) → tag_of (a.meaning key) (a.meaning pad) body ≡ a.plus (weighed (a.meaning key) (blocks (block_size_of w l.count) body ++ length_block body ∷ [])) (a.meaning pad)
