-- How the values of a coded field are encoded and decoded, and what a block of bytes stands for.
use Rattle.std.specs.Prelude.{◌≡◌, ℕ, ◌+◌, ◌-◌, ◌*◌, ◌/◌, ◌^◌, ◌<◌, ◌≤◌, cond, List, length, Ok, Err, Result, ◌==◌}
use Rattle.std.specs.Int.Digits.{number_from_digits}
use Rattle.fault.specs.declared.Fault.{Fault}
use Rattle.fault.specs.declared.Part.{Part}
use Rattle.fault.specs.declared.Part.TheVariants.{Call}
use Rattle.fault.specs.Faults.{fault}
use Rattle.field.specs.Fields.{Arithmetic}
use Rattle.field.specs.Coordinates.{Layout, below_before}
use Rattle.coding.specs.Bits.{bit_at, bits_from, regrouped}

-- The limits on a field that carries tags, with coefficients of w bits.
pub record Limits (l : Layout) (w : ℕ) : Type 0 where
  pub modulus_from : 2 ^ (w - 1) ≤ l.modulus
  pub modulus_to : l.modulus ≤ 2 ^ w
  pub width_to : w ≤ 16
  pub count_to : l.count ≤ 64
  pub room_for_length : 16 ≤ l.count * (w - 1)

-- T: the bytes of an encoded value of c coefficients of w bits
abbrev pub encoded_size_of : ℕ → ℕ → ℕ
encoded_size_of w c = (c * w + 7) / 8

-- B: the bytes of a block, as many as c groups of w − 1 bits hold whole
abbrev pub block_size_of : ℕ → ℕ → ℕ
block_size_of w c = c * (w - 1) / 8

-- The coefficients by power, w bits each, cut into bytes; the padding bits are 0.
abbrev pub encoded : ℕ → ℕ → List ℕ → List ℕ
encoded w c xs = regrouped w 8 (encoded_size_of w c) xs

-- The bytes write, in base 256, the number that the coefficients write in base 2 ^ w, with the padding bits behind it.
abbrev pub EncodingIsOneNumber : ℕ → ℕ → List ℕ → Type 0
EncodingIsOneNumber w c xs = number_from_digits 256 (encoded w c xs) ≡ number_from_digits (2 ^ w) xs * 2 ^ (8 * encoded_size_of w c - c * w)

-- the coefficients that stand in bytes, and the number that the padding bits write
abbrev pub standing : ℕ → ℕ → List ℕ → List ℕ
standing w c bytes = regrouped 8 w c bytes

abbrev pub padding : ℕ → ℕ → List ℕ → ℕ
padding w c bytes = bits_from (bit_at 8 bytes) (c * w) (8 * encoded_size_of w c - c * w)

-- The coefficients by power that bytes encode, or why they encode none: refusal 3 for another count of bytes,
-- then 1 at the first power whose coefficient is not below the modulus, then 4 where a padding bit is 1.
abbrev pub decoded : Layout → ℕ → Part → List ℕ → Result (List ℕ) Fault
decoded l w part bytes =
    cond (length bytes == encoded_size_of w l.count)
    (cond (below_before l.modulus (standing w l.count bytes) == l.count)
    (cond (padding w l.count bytes == 0) (Ok (standing w l.count bytes)) (Err (fault 4 part 0)))
    (Err (fault 1 part (below_before l.modulus (standing w l.count bytes)))))
    (Err (fault 3 part 0))

-- the answer of decoding: the value with the decoded coefficients, or the refusal
abbrev pub Decoded : {V : Type 0} → Arithmetic V → Layout → ℕ → Part → List ℕ → Result V Fault → Type 0
Decoded a l w part bytes (Ok v) = decoded l w part bytes ≡ Ok (l.by_power (a.meaning v))
Decoded a l w part bytes (Err f) = decoded l w part bytes ≡ Err f

-- The coefficients by power that a block stands for: its bits fill groups of w − 1, one for each power; missing bits are 0.
abbrev pub block_coefficients : ℕ → ℕ → List ℕ → List ℕ
block_coefficients w c bytes = regrouped 8 (w - 1) c bytes

-- the answer for the value that a block of at most B bytes stands for: refusal 3 for a longer one
abbrev pub Blocked : {V : Type 0} → Arithmetic V → Layout → ℕ → List ℕ → Result V Fault → Type 0
Blocked a l w bytes (Ok v) = (length bytes ≤ block_size_of w l.count) × (a.meaning v ≡ l.from_power (block_coefficients w l.count bytes))
Blocked a l w bytes (Err f) = (block_size_of w l.count < length bytes) × (f ≡ fault 3 Call 0)
