-- What a word says, and the word for bytes.
use Rattle.std.specs.Prelude.{ℕ, List, [], ◌∷◌, length, Bool, not, ◌&&◌, ◌==◌, min, codes, Result, Ok, Err, if◌then◌else◌}
use Rattle.std.specs.Char.{is_ascii_digit}
use Rattle.std.specs.List.{list_all}
use Rattle.std.specs.Str.Parse.{digits_value}
use Rattle.hex.specs.Hex.{decode_of, encode_upper}
use Rattle.hex.specs.declared.error.FromHexError.{FromHexError}
use Rattle.wording.specs.declared.misreadings.Misreading.{Misreading}
use Rattle.wording.specs.declared.misreadings.Misreading.TheVariants.{NotANumber, NotBytes}

-- decimal digits, one or more
abbrev pub is_decimal : List ℕ → Bool
is_decimal word = not (length word == 0) && list_all is_ascii_digit word

-- the number that decimal digits write; a larger one counts as the largest
abbrev pub number_up_to : ℕ → List ℕ → Result ℕ Misreading
number_up_to largest word =
    if is_decimal word then Ok (min (digits_value 10 word) largest) else Err NotANumber

abbrev pub number_of : List ℕ → Result ℕ Misreading
number_of word = number_up_to 65535 word

abbrev pub small_number_of : List ℕ → Result ℕ Misreading
small_number_of word = number_up_to 255 word

-- bytes that were read, or no bytes that can be read
abbrev pub or_not_bytes : Result (List ℕ) FromHexError → Result (List ℕ) Misreading
or_not_bytes (Ok bytes) = Ok bytes
or_not_bytes (Err e) = Err NotBytes

-- `-` stands for no bytes; else each is two hexadecimal digits, and there is one at least
abbrev pub bytes_of : List ℕ → Result (List ℕ) Misreading
bytes_of [] = Err NotBytes
bytes_of (c ∷ cs) = if (c == 45) && (length cs == 0) then Ok [] else or_not_bytes (decode_of (c ∷ cs))

-- the word for bytes, in upper case
abbrev pub hexadecimal_of : List ℕ → List ℕ
hexadecimal_of [] = codes "-"
hexadecimal_of (b ∷ bs) = encode_upper (b ∷ bs)
