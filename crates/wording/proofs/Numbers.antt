-- A word of digits, as `parse` reads it.
use Rattle.std.proofs.Common.{◌≡◌, ℕ, List, length, ◌<◌, true, Result, Ok, Err, min, rules, arith}
use Rattle.std.specs.Result.{result_unwrap_or}
use Rattle.std.specs.Str.Parse.{ParsesUnsigned, digits_value}
use Rattle.std.specs.List.{list_all}
use Rattle.std.specs.Char.{is_ascii_digit}
use Rattle.std.proofs.lemmas.Str.Parse.{IsDigitsTest, numerals_by_value, parse_digits}
use Rattle.std.proofs.lemmas.Grind.{common_steps}
use Rattle.wording.specs.Words.{is_decimal}

digits_tested : IsDigitsTest (λ ds. list_all is_ascii_digit ds ≡ true)
digits_tested = search rules

largest : (v : ℕ) → (v < 65536 → ⊥) → 65535 ≡ min v 65535
largest v h = omega arith

small : (n v : ℕ) → v < 65536 → n ≡ v → n ≡ min v 65535
small n v h e = omega arith

-- a number that fits 16 bits, or else the largest that does
pub number_read : {E : Type 0} (word : List ℕ) (r : Result ℕ E) → ParsesUnsigned 16 10 word r → is_decimal word ≡ true → result_unwrap_or r 65535 ≡ min (digits_value 10 word) 65535
number_read {E} word (Ok n) h d =
    let all : list_all is_ascii_digit word ≡ true = grind (arith, common_steps) in
    let k = parse_digits (numerals_by_value _ digits_tested) {E = E} 16 word (Ok n) h all in
    small n (digits_value 10 word) k.0.1 k.1
number_read {E} word (Err e) h d =
    let all : list_all is_ascii_digit word ≡ true = grind (arith, common_steps) in
    let some : 0 < length word = grind (arith, common_steps) in
    let k = parse_digits (numerals_by_value _ digits_tested) {E = E} 16 word (Err e) h all in
    largest (digits_value 10 word) (λ l. k (some, l))
