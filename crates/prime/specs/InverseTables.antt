-- One computed test over a whole table of inverses, one over all numbers below a modulus, and what they show.
use Rattle.std.specs.Prelude.{◌≡◌, refl, Bool, true, not, cond, ◌&&◌, ◌≢◌, List, ℕ, zero, suc, ◌+◌, ◌-◌, ◌*◌, ◌/◌, ◌%◌, ◌^◌, ◌<◌, ◌≤◌, T, eqb, ltb, length, get_or}
use Rattle.std.proofs.Common.{sym, subst, ◌∙◌, eqb→eq, ltb→lt, T_not}
use native.Mathlib.Nat.{mod-lt, mod-eq_of_lt}
use Rattle.std.proofs.Math.Dec.{eqb_refl}
use Rattle.prime.specs.Moduli.{PrimeModulus, InverseTable}
use Rattle.std.proofs.lemmas.Nat.{mul-mod_first}
use Rattle.prime.specs.ComputedTests.{both_left, both_right, each_below, passed_below, each_entry, passed_entry}

-- what is asked of entry x at place k: its product with k leaves 1, and at place 0 it is 0
abbrev inverts : ℕ → ℕ → ℕ → Bool
inverts q zero x = eqb x 0
inverts q (suc k) x = eqb ((suc k * x) % q) 1

abbrev pub right_entry : ℕ → ℕ → ℕ → Bool
right_entry q k x = ltb x q && inverts q k x

inverts_at : (q k x : ℕ) → T (inverts q k x) → k ≢ 0 → (k * x) % q ≡ 1
inverts_at q zero x t n = absurd (n refl)
inverts_at q (suc k) x t n = eqb→eq ((suc k * x) % q) 1 t

inverts_zero : (q k x : ℕ) → T (inverts q k x) → k ≡ 0 → x ≡ 0
inverts_zero q zero x t n = eqb→eq x 0 t
inverts_zero q (suc k) x t n = absurd (native.Mathlib.Nat.suc-ne-zero k n)

-- where the whole table passes, each entry is right; these rewrite the goal of a read of the table
module _ (q : ℕ) (table : List ℕ) (x : ℕ) (t : T (each_entry (right_entry q) 0 table)) (h : x % q < length table) where
  abbrev entry : ℕ
  entry = get_or table (x % q) 0

  passed : T (ltb entry q && inverts q (x % q) entry)
  passed = passed_entry (right_entry q) table t (x % q) h

  pub entry_below : get_or table (x % q) 0 ≡ get_or table (x % q) 0 % q
  entry_below = sym (mod-eq_of_lt (ltb→lt entry q (both_left _ _ passed)))

  pub entry_inverts : x % q ≢ 0 → (x * get_or table (x % q) 0) % q ≡ 1
  entry_inverts n = sym (mul-mod_first x entry q) ∙ inverts_at q (x % q) entry (both_right _ _ passed) n

  pub entry_zero : x % q ≡ 0 → get_or table (x % q) 0 ≡ 0
  entry_zero n = inverts_zero q (x % q) entry (both_right _ _ passed) n

pub inverse_table : (q : ℕ) (table : List ℕ) → 0 < q → length table ≡ q → T (each_entry (right_entry q) 0 table) → InverseTable q table
inverse_table q table positive long t = record {
  long = long;
  answers = λ x.
      let h : x % q < length table = rw long (mod-lt x positive) in record {
        below = rw (entry_below q table x t h) (mod-lt _ positive);
        inverts = entry_inverts q table x t h;
        zero = entry_zero q table x t h;
      };
}

-- what n to the power e leaves, by squaring; k is at least the number of e's bits
abbrev power : ℕ → ℕ → ℕ → ℕ → ℕ
power q zero n e = 1
power q (suc k) n e = let h = power q k ((n * n) % q) (e / 2) in cond (eqb (e % 2) 1) ((n * h) % q) h

-- what is asked of each number n below the modulus: n to the power q − 2 is an inverse, and n squared does not leave 2
abbrev has_inverse : ℕ → ℕ → Bool
has_inverse q zero = true
has_inverse q (suc n) = eqb ((suc n * power q 12 (suc n) (q - 2)) % q) 1

abbrev pub right_number : ℕ → ℕ → Bool
right_number q n = has_inverse q n && not (eqb ((n * n) % q) 2)

has_inverse_at : (q n : ℕ) → T (has_inverse q n) → n ≢ 0 → (m : ℕ) × ((n * m) % q ≡ 1)
has_inverse_at q zero t ne = absurd (ne refl)
has_inverse_at q (suc n) t ne = (power q 12 (suc n) (q - 2), eqb→eq _ _ t)

pub prime_modulus : (q width root : ℕ) → 2 ^ width ≡ q + 3 → 6 ≤ width → width ≤ 12 → 2 < q → root < q → (root * root) % q ≡ q - 1 → T (each_below (right_number q) q) → PrimeModulus q width root
prime_modulus q width root three low high above below squared t =
    let at = passed_below (right_number q) q t in
    record {
      three_below_a_power = three;
      width_from = low;
      width_to = high;
      above_two = above;
      inverse_exists = λ n h ne. has_inverse_at q n (both_left _ _ (at n h)) ne;
      two_has_no_root = λ n h e. T_not (eqb ((n * n) % q) 2) (both_right _ _ (at n h)) (subst (λ (m : ℕ). T (eqb m 2)) (sym e) (eqb_refl 2));
      root_below = below;
      root_squared = squared;
    }
