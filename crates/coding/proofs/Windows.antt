-- A field of at most 16 bits, read from the three bytes that it can lie in.
use Rattle.std.proofs.Common.{◌≡◌, ℕ, ◌+◌, ◌-◌, ◌*◌, ◌/◌, ◌%◌, ◌^◌, ◌<◌, ◌≤◌, List, get_or, sym, refl, ◌∙◌, lt_of_lt_of_le, arith, pow_mono}
use native.Mathlib.Nat.{div-add-mod}
use lib.Bits.{bit_and}
use Rattle.std.proofs.lemmas.Nat.{one_shl, and_mask}
use Rattle.coding.specs.Bits.{bit_at, bits_from}
use Rattle.coding.proofs.Regrouping.{bit_at_bit, bits_lt, bits_split, bits_unit, bits_field}

module _ (bytes : List ℕ) where
  -- one byte, where it lies
  whole : (j s a : ℕ) → 8 * j ≡ s → a ≡ get_or bytes j 0 → a < 256 → bits_from (bit_at 8 bytes) s 8 ≡ a
  whole j s a at is small = rw (← at) (bits_unit 8 (omega arith) bytes j (rw (← is) small) ∙ sym is)

  module _ (s w a b d : ℕ) (ia : a ≡ get_or bytes (s / 8) 0) (ib : b ≡ get_or bytes (s / 8 + 1) 0) (id : d ≡ get_or bytes (s / 8 + 2) 0) (la : a < 256) (lb : b < 256) (ld : d < 256) (short : w ≤ 16) where
    three : bits_from (bit_at 8 bytes) (8 * (s / 8)) 24 ≡ a * 65536 + b * 256 + d
    three =
        let f = bit_at 8 bytes in
        let q = 8 * (s / 8) in
        let x : bits_from f q 8 ≡ a = whole (s / 8) q a refl ia la in
        let y : bits_from f (q + 8) 8 ≡ b = whole (s / 8 + 1) (q + 8) b (omega arith) ib lb in
        let z : bits_from f (q + 16) 8 ≡ d = whole (s / 8 + 2) (q + 16) d (omega arith) id ld in
        let h : bits_from f q 16 ≡ bits_from f q 8 * 256 + bits_from f (q + 8) 8 = bits_split f q 8 8 in
        let k : bits_from f q 24 ≡ bits_from f q 16 * 256 + bits_from f (q + 16) 8 = bits_split f q 16 8 in
        omega arith

    pub windowed : bit_and ((a * 65536 + b * 256 + d) / 2 ^ (24 - s % 8 - w)) ((1 * 2 ^ w) % 4294967296 - 1) ≡ bits_from (bit_at 8 bytes) s w
    windowed =
        let f = bit_at 8 bytes in
        let t = 24 - s % 8 - w in
        let e : s % 8 + w + t ≡ 24 = omega arith in
        let one : (1 * 2 ^ w) % 4294967296 ≡ 2 ^ w = one_shl w 32 (omega arith) in
        let p : bits_from f (8 * (s / 8)) (s % 8 + w + t) / 2 ^ t % 2 ^ w ≡ bits_from f (8 * (s / 8) + s % 8) w = bits_field f (bit_at_bit 8 bytes) (8 * (s / 8)) (s % 8) w t in
        rw (one, and_mask, ← three) (rw (e, div-add-mod s 8) at p)

    pub windowed_lt : bit_and ((a * 65536 + b * 256 + d) / 2 ^ (24 - s % 8 - w)) ((1 * 2 ^ w) % 4294967296 - 1) < 65536
    windowed_lt = rw windowed (lt_of_lt_of_le (bits_lt (bit_at 8 bytes) (bit_at_bit 8 bytes) s w) (pow_mono short))
