-- A list of numbers of so many bits, read as one number.
use Rattle.std.proofs.Common.{◌≡◌, ℕ, zero, suc, ◌+◌, ◌-◌, ◌*◌, ◌^◌, ◌<◌, ◌≤◌, List, length, get_or, take, sym, ap, ◌∙◌, lt_of_lt_of_le, add-zero, mul_comm, mul-zero, zero-add, mul-suc, add-one, arith}
use Rattle.std.specs.Int.Digits.{number_from_digits}
use Rattle.std.proofs.lemmas.Int.Digits.{number_more}
use Rattle.std.proofs.lemmas.List.{take_all}
use Rattle.coding.specs.Bits.{bit_at, bits_from}
use Rattle.coding.specs.Encoding.{Limits, encoded_size_of, encoded, EncodingIsOneNumber}
use Rattle.coding.proofs.Regrouping.{bit_at_bit, bit_at_past, bits_lt, bits_split, bits_same, bits_unit, length_regrouped, bits_none, getD_regrouped, regrouped_bit}
use Rattle.coding.proofs.RoundTrips.{Below, each_below, width_positive}
use Rattle.field.specs.Coordinates.{Layout, Coefficients}

module _ (v : ℕ) (pos : 0 < v) (xs : List ℕ) (small : Below (2 ^ v) xs) where
  front : (m : ℕ) → m ≤ length xs → bits_from (bit_at v xs) 0 (v * m) ≡ number_from_digits (2 ^ v) (take m xs)
  unfolding bits_from
  front zero h = rw (mul-zero v)
  front (suc m) h =
      let f = bit_at v xs in
      let unit : bits_from f (0 + v * m) v ≡ get_or xs m 0 = rw (zero-add (v * m)) (bits_unit v pos xs m (small m h)) in
      rw (mul-suc v m, bits_split f 0 (v * m) v, front m (omega arith), unit, ← add-one m) (sym (number_more (2 ^ v) xs m h))

  pub number_of_bits : bits_from (bit_at v xs) 0 (v * length xs) ≡ number_from_digits (2 ^ v) xs
  number_of_bits = front (length xs) (omega arith) ∙ ap (number_from_digits (2 ^ v)) (take_all (length xs) xs (omega arith))

encoding_is_one_number : (w c : ℕ) (xs : List ℕ) → 0 < w → length xs ≡ c → Below (2 ^ w) xs → EncodingIsOneNumber w c xs
encoding_is_one_number w c xs pos long small =
    let p8 : 0 < 8 = omega arith in
    let n = encoded_size_of w c in
    let ys = encoded w c xs in
    let f = bit_at w xs in
    let t = 8 * n - c * w in
    let ly : length ys ≡ n = length_regrouped w 8 n xs in
    let bytes : Below 256 ys = λ j h. rw (getD_regrouped w 8 n xs j (rw ly at h)) (bits_lt f (bit_at_bit w xs) (8 * j) 8) in
    let room : 8 * n ≡ w * c + t = omega (arith, mul_comm w c) in
    let rest : bits_from f (0 + w * c) t ≡ 0 = bits_none f (0 + w * c) t (λ k h. bit_at_past w pos xs (0 + w * c + k) (rw long (omega (arith, mul_comm w c)))) in
    sym (number_of_bits 8 p8 ys bytes)
    ∙ ap (λ m. bits_from (bit_at 8 ys) 0 (8 * m)) ly
    ∙ bits_same (bit_at 8 ys) f 0 0 (8 * n) (λ k h. regrouped_bit w 8 n xs p8 (0 + k) (rw (zero-add k) h))
    ∙ ap (bits_from f 0) room ∙ bits_split f 0 (w * c) t
    ∙ ap (λ z. bits_from f 0 (w * c) * 2 ^ t + z) rest ∙ add-zero (bits_from f 0 (w * c) * 2 ^ t)
    ∙ ap (λ z. z * 2 ^ t) (ap (λ m. bits_from f 0 (w * m)) (sym long) ∙ number_of_bits w pos xs small)

pub one_number : (l : Layout) (w : ℕ) → Limits l w → (xs : List ℕ) → Coefficients l xs → EncodingIsOneNumber w l.count xs
one_number l w limits xs c =
    let wide = width_positive l w limits in
    encoding_is_one_number w l.count xs (omega arith) c.0 (λ i h. lt_of_lt_of_le (each_below l.modulus xs c.1 i h) limits.modulus_to)
