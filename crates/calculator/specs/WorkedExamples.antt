-- Worked examples of the definitions, in one statement.
use Rattle.std.specs.Prelude.{◌≡◌, ℕ, List, [], ◌∷◌, Ok, Err, Result, MatchResult, slice_index_or}
use Rattle.std.specs.List.{range_with_len}
use Rattle.fault.specs.declared.Fault.{Fault}
use Rattle.fault.specs.declared.Part.{Part}
use Rattle.fault.specs.declared.Part.TheVariants.{Call}
use Rattle.fault.specs.Faults.{fault}
use Rattle.field.specs.Fields.{Arithmetic}
use Rattle.field.specs.Extensions.{Tower, tower}
use Rattle.field.specs.Inverses.{InverseAnswer}
use Rattle.field.specs.Coordinates.{Layout, coefficients, extension_layout}
use Rattle.prime.specs.Residues.{residues, residue_layout}
use Rattle.polynomial.specs.Product.{polynomial_times}
use Rattle.polynomial.specs.BitReversal.{bit_reversal_of}
use Rattle.coding.specs.Encoding.{encoded, decoded, block_coefficients}

-- the tower of so many extensions on the remainders by each modulus
abbrev pub over_4093 : (height : ℕ) → Arithmetic (Tower ℕ height)
over_4093 height = tower (residues 4093 1059 (λ n. n)) height

abbrev pub over_1021 : (height : ℕ) → Arithmetic (Tower ℕ height)
over_1021 height = tower (residues 1021 374 (λ n. n)) height

-- whatever is answered for the inverse of the pair x, it is the pair that means y
abbrev pub InverseIs : Arithmetic (Tower ℕ 1) → ℕ × ℕ → List ℕ → Type 0
InverseIs a x y = (r : Result (Tower ℕ 1) Fault) → InverseAnswer a x r → MatchResult r (λ v. a.meaning v ≡ y) (λ f. ⊥)

-- how the short tower at 1021 and the long one at 4093 have their coefficients
abbrev pub short_1021 : Layout
short_1021 = extension_layout (residue_layout 1021)

abbrev pub long_4093 : Layout
long_4093 = extension_layout (extension_layout (extension_layout (residue_layout 4093)))

pub record WorkedExamples : Type 0 where
  -- 4092 is a coefficient at 4093, and 4093 is refused with 1
  pub largest_coefficient : coefficients (residue_layout 4093) (4092 ∷ []) ≡ Ok (4092 ∷ [])
  pub modulus_is_no_coefficient : coefficients (residue_layout 4093) (4093 ∷ []) ≡ Err (fault 1 Call 0)
  -- (3, 5)·(7, 11) = (131, 68) at 4093
  pub product_of_pairs : (over_4093 1).times (3 ∷ 5 ∷ []) (7 ∷ 11 ∷ []) ≡ 131 ∷ 68 ∷ []
  -- the inverse of (3, 5) is (2296, 2995) at 4093 and (747, 797) at 1021, and (0, 0) is refused with 2 at both
  pub inverse_at_4093 : InverseIs (over_4093 1) (3, 5) (2296 ∷ 2995 ∷ [])
  pub inverse_at_1021 : InverseIs (over_1021 1) (3, 5) (747 ∷ 797 ∷ [])
  pub no_inverse_at_4093 : (r : Result (Tower ℕ 1) Fault) → InverseAnswer (over_4093 1) (0, 0) r → r ≡ Err (fault 2 Call 0)
  pub no_inverse_at_1021 : (r : Result (Tower ℕ 1) Fault) → InverseAnswer (over_1021 1) (0, 0) r → r ≡ Err (fault 2 Call 0)
  -- at two extensions (0, 0, 1, 0) squared is (0, 1, 0, 0)
  pub square_of_second_generator : (over_4093 2).times (0 ∷ 0 ∷ 1 ∷ 0 ∷ []) (0 ∷ 0 ∷ 1 ∷ 0 ∷ []) ≡ 0 ∷ 1 ∷ 0 ∷ 0 ∷ []
  -- place 3 of a long tower is the coefficient of power 6, and place 5 that of power 5
  pub place_three_is_power_six : slice_index_or (bit_reversal_of 3 (range_with_len 0 8)) 6 0 ≡ 3
  pub place_five_is_power_five : slice_index_or (bit_reversal_of 3 (range_with_len 0 8)) 5 0 ≡ 5
  -- X⁷·X³ = 2·X²
  pub seventh_power_times_third : polynomial_times 4093 (0 ∷ 0 ∷ 0 ∷ 0 ∷ 0 ∷ 0 ∷ 0 ∷ 1 ∷ []) (0 ∷ 0 ∷ 0 ∷ 1 ∷ 0 ∷ 0 ∷ 0 ∷ 0 ∷ []) ≡ 0 ∷ 0 ∷ 2 ∷ 0 ∷ 0 ∷ 0 ∷ 0 ∷ 0 ∷ []
  -- 1, six zeros and 4092 encode at 4093 as 00 10, eight 00, 0F FC; the same ending in 0F FD is refused with 1 at place 7
  pub encoding_of_eight : encoded 12 8 (1 ∷ 0 ∷ 0 ∷ 0 ∷ 0 ∷ 0 ∷ 0 ∷ 4092 ∷ []) ≡ 0 ∷ 16 ∷ 0 ∷ 0 ∷ 0 ∷ 0 ∷ 0 ∷ 0 ∷ 0 ∷ 0 ∷ 15 ∷ 252 ∷ []
  pub modulus_is_not_decoded : (part : Part) → decoded long_4093 12 part (0 ∷ 16 ∷ 0 ∷ 0 ∷ 0 ∷ 0 ∷ 0 ∷ 0 ∷ 0 ∷ 0 ∷ 15 ∷ 253 ∷ []) ≡ Err (fault 1 part 7)
  -- 00 00 01 has a padding bit that is 1 in the short tower at 1021: refused with 4
  pub padding_is_zero : (part : Part) → decoded short_1021 10 part (0 ∷ 0 ∷ 1 ∷ []) ≡ Err (fault 4 part 0)
  -- a long block of 80 and 00s has 1024 at power 0 at 4093, and 256 at 1021
  pub first_bit_at_4093 : slice_index_or (block_coefficients 12 8 (128 ∷ 0 ∷ 0 ∷ 0 ∷ 0 ∷ 0 ∷ 0 ∷ 0 ∷ 0 ∷ 0 ∷ 0 ∷ [])) 0 0 ≡ 1024
  pub first_bit_at_1021 : slice_index_or (block_coefficients 10 8 (128 ∷ 0 ∷ 0 ∷ 0 ∷ 0 ∷ 0 ∷ 0 ∷ 0 ∷ 0 ∷ [])) 0 0 ≡ 256
