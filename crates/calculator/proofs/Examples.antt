-- The worked examples, by calculation.
use Rattle.std.proofs.Common.{◌≡◌, [], ◌∷◌, get_or, Err, refl, rules}
use Rattle.fault.specs.declared.Part.{Part}
use Rattle.fault.specs.Faults.{fault}
use Rattle.coding.specs.Bits.{bit_at, bits_from, regrouped}
use Rattle.coding.specs.Encoding.{encoded, decoded, block_coefficients}
use Rattle.calculator.specs.WorkedExamples.{WorkedExamples, short_1021, long_4093}

encoding_of_eight : encoded 12 8 (1 ∷ 0 ∷ 0 ∷ 0 ∷ 0 ∷ 0 ∷ 0 ∷ 4092 ∷ []) ≡ 0 ∷ 16 ∷ 0 ∷ 0 ∷ 0 ∷ 0 ∷ 0 ∷ 0 ∷ 0 ∷ 0 ∷ 15 ∷ 252 ∷ []
unfolding regrouped bits_from bit_at
encoding_of_eight = refl

modulus_is_not_decoded : (part : Part) → decoded long_4093 12 part (0 ∷ 16 ∷ 0 ∷ 0 ∷ 0 ∷ 0 ∷ 0 ∷ 0 ∷ 0 ∷ 0 ∷ 15 ∷ 253 ∷ []) ≡ Err (fault 1 part 7)
unfolding regrouped bits_from bit_at
modulus_is_not_decoded part = refl

padding_is_zero : (part : Part) → decoded short_1021 10 part (0 ∷ 0 ∷ 1 ∷ []) ≡ Err (fault 4 part 0)
unfolding regrouped bits_from bit_at
padding_is_zero part = refl

first_bit_at_4093 : get_or (block_coefficients 12 8 (128 ∷ 0 ∷ 0 ∷ 0 ∷ 0 ∷ 0 ∷ 0 ∷ 0 ∷ 0 ∷ 0 ∷ 0 ∷ [])) 0 0 ≡ 1024
unfolding regrouped bits_from bit_at
first_bit_at_4093 = refl

first_bit_at_1021 : get_or (block_coefficients 10 8 (128 ∷ 0 ∷ 0 ∷ 0 ∷ 0 ∷ 0 ∷ 0 ∷ 0 ∷ 0 ∷ [])) 0 0 ≡ 256
unfolding regrouped bits_from bit_at
first_bit_at_1021 = refl

pub worked_examples : WorkedExamples
worked_examples = record {
  largest_coefficient = search rules;
  modulus_is_no_coefficient = search rules;
  product_of_pairs = search rules;
  inverse_at_4093 = search rules;
  inverse_at_1021 = search rules;
  no_inverse_at_4093 = search rules;
  no_inverse_at_1021 = search rules;
  square_of_second_generator = search rules;
  place_three_is_power_six = search rules;
  place_five_is_power_five = search rules;
  seventh_power_times_third = search rules;
  encoding_of_eight = encoding_of_eight;
  modulus_is_not_decoded = modulus_is_not_decoded;
  padding_is_zero = padding_is_zero;
  first_bit_at_4093 = first_bit_at_4093;
  first_bit_at_1021 = first_bit_at_1021;
}
