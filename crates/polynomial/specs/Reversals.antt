-- Bit reversal undoes itself, and keeps sums and products.
use Rattle.std.specs.Prelude.{◌≡◌, ℕ, ◌%◌, List, [], ◌∷◌, ◌++◌, length, slice_index, refl}
use Rattle.std.proofs.Common.{sym, ap, ap₂, ◌∙◌, mul-add, zero-mul, one-mul, zero-add, add-zero, arith}
use Rattle.std.proofs.Math.Nat.{mod-mod, mod-add-mod, add-mod-mod}
use Rattle.std.specs.Simd.Lanes.{pick_l}
use Rattle.field.specs.Fields.{Arithmetic}
use Rattle.field.specs.Extensions.{Tower, tower}
use Rattle.field.proofs.Transport.{Carries}
use Rattle.prime.specs.Residues.{residues}
use Rattle.prime.specs.Towers.{long_tower}
use Rattle.std.proofs.lemmas.Nat.{mul-mod_second}
use Rattle.polynomial.specs.Product.{polynomial_times, polynomial_plus, polynomial_opposite}
use Rattle.polynomial.specs.Polynomials.{polynomials, constant}
use Rattle.polynomial.specs.BitReversal.{bit_reversal_of, KeepsSumsAndProducts}
use Rattle.polynomial.specs.Lists.{of_eight}

-- the table's places, read from a list, are the rule of even and odd powers
pub table_is_rule : (xs : List ℕ) → length xs ≡ 8 → pick_l 0 (xs ++ xs) (0 ∷ 4 ∷ 2 ∷ 6 ∷ 1 ∷ 5 ∷ 3 ∷ 7 ∷ []) ≡ bit_reversal_of 3 xs
table_is_rule = of_eight (λ xs. pick_l 0 (xs ++ xs) (0 ∷ 4 ∷ 2 ∷ 6 ∷ 1 ∷ 5 ∷ 3 ∷ 7 ∷ []) ≡ bit_reversal_of 3 xs) (λ a b c d e f g h. refl)

pub reversed_twice : (xs : List ℕ) → length xs ≡ 8 → bit_reversal_of 3 (bit_reversal_of 3 xs) ≡ xs
reversed_twice = of_eight (λ xs. bit_reversal_of 3 (bit_reversal_of 3 xs) ≡ xs) (λ a b c d e f g h. refl)

pub reversed_length : (xs : List ℕ) → length xs ≡ 8 → length (bit_reversal_of 3 xs) ≡ 8
reversed_length = of_eight (λ xs. length (bit_reversal_of 3 xs) ≡ 8) (λ a b c d e f g h. refl)

ruleset reducing = (mod-add-mod, add-mod-mod, mul-mod_second, mod-mod, zero-mul, one-mul, zero-add, add-zero, mul-add)

-- the product of two long tower values, and that of their bit reversals, written out
module _ (q root a0 a1 a2 a3 a4 a5 a6 a7 b0 b1 b2 b3 b4 b5 b6 b7 : ℕ) where
  abbrev a : List ℕ
  a = a0 ∷ a1 ∷ a2 ∷ a3 ∷ a4 ∷ a5 ∷ a6 ∷ a7 ∷ []

  abbrev b : List ℕ
  b = b0 ∷ b1 ∷ b2 ∷ b3 ∷ b4 ∷ b5 ∷ b6 ∷ b7 ∷ []

  -- place k of the two agrees
  abbrev Agree : ℕ → Type 0
  Agree k = slice_index (bit_reversal_of 3 ((tower (residues q root (λ n. n)) 3).times a b)) k ≡ slice_index (polynomial_times q (bit_reversal_of 3 a) (bit_reversal_of 3 b)) k

  agree0 : Agree 0
  agree0 = simp reducing (ap (λ (t : ℕ). t % q) (omega arith))

  agree1 : Agree 1
  agree1 = simp reducing (ap (λ (t : ℕ). t % q) (omega arith))

  agree2 : Agree 2
  agree2 = simp reducing (ap (λ (t : ℕ). t % q) (omega arith))

  agree3 : Agree 3
  agree3 = simp reducing (ap (λ (t : ℕ). t % q) (omega arith))

  agree4 : Agree 4
  agree4 = simp reducing (ap (λ (t : ℕ). t % q) (omega arith))

  agree5 : Agree 5
  agree5 = simp reducing (ap (λ (t : ℕ). t % q) (omega arith))

  agree6 : Agree 6
  agree6 = simp reducing (ap (λ (t : ℕ). t % q) (omega arith))

  agree7 : Agree 7
  agree7 = simp reducing (ap (λ (t : ℕ). t % q) (omega arith))

  all_agree : bit_reversal_of 3 ((tower (residues q root (λ n. n)) 3).times a b) ≡ polynomial_times q (bit_reversal_of 3 a) (bit_reversal_of 3 b)
  all_agree = λ i. agree0 i ∷ agree1 i ∷ agree2 i ∷ agree3 i ∷ agree4 i ∷ agree5 i ∷ agree6 i ∷ agree7 i ∷ []

-- bit reversal carries the tower of three extensions on the remainders to the polynomial basis
module _ {W : Type 0} (q root : ℕ) (kept : W → List ℕ) where
  abbrev t : Arithmetic (Tower ℕ 3)
  t = tower (residues q root (λ n. n)) 3

  pub reversal_carries : Carries (tower (residues q root (λ n. n)) 3) (polynomials q root kept) (bit_reversal_of 3)
  reversal_carries = record {
    long = reversed_length;
    injective = λ xs ys l k h. sym (reversed_twice xs l) ∙ ap (bit_reversal_of 3) h ∙ reversed_twice ys k;
    zero = refl;
    one = refl;
    plus = λ xs ys l k.
        of_eight (λ xs. bit_reversal_of 3 (t.plus xs ys) ≡ polynomial_plus q (bit_reversal_of 3 xs) (bit_reversal_of 3 ys)) (λ a0 a1 a2 a3 a4 a5 a6 a7.
        of_eight (λ ys. bit_reversal_of 3 (t.plus (a0 ∷ a1 ∷ a2 ∷ a3 ∷ a4 ∷ a5 ∷ a6 ∷ a7 ∷ []) ys) ≡ polynomial_plus q (bit_reversal_of 3 (a0 ∷ a1 ∷ a2 ∷ a3 ∷ a4 ∷ a5 ∷ a6 ∷ a7 ∷ [])) (bit_reversal_of 3 ys)) (λ b0 b1 b2 b3 b4 b5 b6 b7. refl) ys k) xs l;
    times = λ xs ys l k.
        of_eight (λ xs. bit_reversal_of 3 (t.times xs ys) ≡ polynomial_times q (bit_reversal_of 3 xs) (bit_reversal_of 3 ys)) (λ a0 a1 a2 a3 a4 a5 a6 a7.
        of_eight (λ ys. bit_reversal_of 3 (t.times (a0 ∷ a1 ∷ a2 ∷ a3 ∷ a4 ∷ a5 ∷ a6 ∷ a7 ∷ []) ys) ≡ polynomial_times q (bit_reversal_of 3 (a0 ∷ a1 ∷ a2 ∷ a3 ∷ a4 ∷ a5 ∷ a6 ∷ a7 ∷ [])) (bit_reversal_of 3 ys)) (all_agree q root a0 a1 a2 a3 a4 a5 a6 a7) ys k) xs l;
    opposite = of_eight (λ xs. bit_reversal_of 3 (t.opposite xs) ≡ polynomial_opposite q (bit_reversal_of 3 xs)) (λ a0 a1 a2 a3 a4 a5 a6 a7. refl);
    non_residue = refl;
    sqrt_minus_one = refl;
  }

  plus_back : (xs ys : List ℕ) → length xs ≡ 8 → length ys ≡ 8 → bit_reversal_of 3 (polynomial_plus q xs ys) ≡ (tower (residues q root (λ n. n)) 3).plus (bit_reversal_of 3 xs) (bit_reversal_of 3 ys)
  plus_back xs ys l k =
      ap (bit_reversal_of 3) (ap₂ (polynomial_plus q) (sym (reversed_twice xs l)) (sym (reversed_twice ys k)) ∙ sym (reversal_carries.plus (bit_reversal_of 3 xs) (bit_reversal_of 3 ys) (reversed_length xs l) (reversed_length ys k)))
      ∙ reversed_twice (t.plus (bit_reversal_of 3 xs) (bit_reversal_of 3 ys)) refl

  times_back : (xs ys : List ℕ) → length xs ≡ 8 → length ys ≡ 8 → bit_reversal_of 3 (polynomial_times q xs ys) ≡ (tower (residues q root (λ n. n)) 3).times (bit_reversal_of 3 xs) (bit_reversal_of 3 ys)
  times_back xs ys l k =
      ap (bit_reversal_of 3) (ap₂ (polynomial_times q) (sym (reversed_twice xs l)) (sym (reversed_twice ys k)) ∙ sym (reversal_carries.times (bit_reversal_of 3 xs) (bit_reversal_of 3 ys) (reversed_length xs l) (reversed_length ys k)))
      ∙ reversed_twice (t.times (bit_reversal_of 3 xs) (bit_reversal_of 3 ys)) refl

  -- with x and y of the tower an inverse pair, their bit reversals are one of the polynomial basis
  pub reversed_inverse : (x y : List ℕ) → length x ≡ 8 → length y ≡ 8 → (tower (residues q root (λ n. n)) 3).times x y ≡ (tower (residues q root (λ n. n)) 3).one → polynomial_times q (bit_reversal_of 3 x) (bit_reversal_of 3 y) ≡ constant 1
  reversed_inverse x y l k h = sym (reversal_carries.times x y l k) ∙ ap (bit_reversal_of 3) h

  module _ {M : Type 0} where
    pub tower_to_basis : KeepsSumsAndProducts (long_tower {M = M} q root) (polynomials q root kept)
    tower_to_basis = record {
      sums = λ x y. reversal_carries.plus ((long_tower q root).meaning x) ((long_tower q root).meaning y) refl refl;
      products = λ x y. reversal_carries.times ((long_tower q root).meaning x) ((long_tower q root).meaning y) refl refl;
    }

    pub basis_to_tower : KeepsSumsAndProducts (polynomials q root kept) (long_tower {M = M} q root)
    basis_to_tower = record {
      sums = λ x y. plus_back ((polynomials q root kept).meaning x) ((polynomials q root kept).meaning y) refl refl;
      products = λ x y. times_back ((polynomials q root kept).meaning x) ((polynomials q root kept).meaning y) refl refl;
    }
