-- The remainders by a prime modulus are a field.
use Rattle.std.specs.Prelude.{◌≡◌, refl, List, [], ◌∷◌, ℕ, ◌+◌, ◌-◌, ◌*◌, ◌%◌, ◌<◌, ◌==◌, length}
use Rattle.std.proofs.Common.{eqb-true, eq-eqb, sym, ap, ◌∙◌, mod-lt, mod-eq_of_lt, add_comm, add_assoc, mul_comm, mul_assoc, mul-add, add-zero, mul-one, suc-ne-zero, arith}
use Rattle.std.proofs.Math.Nat.{mod-mod, mod-add-mod, add-mod-mod, mod_self, suc_inj}
use Rattle.field.specs.Fields.{Arithmetic, Laws, Meant, EqualByMeaning}
use Rattle.field.specs.Coordinates.{Coefficients, CoordinateLaws}
use Rattle.prime.specs.Moduli.{PrimeModulus}
use Rattle.prime.specs.Residues.{residues, residue_layout, number, just}
use Rattle.std.proofs.lemmas.Nat.{mul-mod_first, mul-mod_second}

pub residues_equal_by_meaning : {V : Type 0} (q root : ℕ) (kept : V → ℕ) → EqualByMeaning (residues q root kept) (λ x y. kept x % q == kept y % q)
residues_equal_by_meaning q root kept x y = (λ e. ap just (eqb-true _ _ e), λ e. eq-eqb _ _ (ap number e))

module _ {V : Type 0} (q width root : ℕ) (p : PrimeModulus q width root) (kept : V → ℕ) where
  abbrev a : Arithmetic V
  a = residues q root kept

  pub positive : 0 < q
  positive = let h = p.above_two in omega arith

  below : (n : ℕ) → n % q < q
  below n = mod-lt n positive

  plus_opposite : (n : ℕ) → n < q → (n + (q - n % q) % q) % q ≡ 0
  plus_opposite n h =
      ap (λ (t : ℕ). (n + (q - t) % q) % q) (mod-eq_of_lt h) ∙ add-mod-mod n (q - n) q ∙ ap (λ (t : ℕ). t % q) (omega arith) ∙ mod_self q

  module _ (make : (n : ℕ) → (v : V) × (kept v ≡ n)) where
    meant : (n : ℕ) → n < q → Meant (residues q root kept) (just n)
    meant n h = let m = make n in ∣ (m.0, ap just (ap (λ (t : ℕ). t % q) m.1 ∙ mod-eq_of_lt h)) ∣₁

    pub residue_laws : Laws (residues q root kept)
    residue_laws = record {
      one_length = λ x. refl;
      meant_zero = meant 0 positive;
      meant_one = meant 1 (let h = p.above_two in omega arith);
      meant_plus = λ x y. meant _ (below _);
      meant_times = λ x y. meant _ (below _);
      meant_opposite = λ x. meant _ (below _);
      meant_non_residue = meant 2 p.above_two;
      meant_sqrt_minus_one = meant root p.root_below;
      plus_commutes = λ x y. ap (λ (t : ℕ). just (t % q)) (add_comm _ _);
      plus_associates = λ x y z. ap just (mod-add-mod _ q _ ∙ ap (λ (t : ℕ). t % q) (add_assoc _ _ _) ∙ sym (add-mod-mod _ _ q));
      plus_zero = λ x. ap just (ap (λ (t : ℕ). t % q) (add-zero _) ∙ mod-mod (kept x) q);
      plus_opposite = λ x. ap just (plus_opposite (kept x % q) (below (kept x)));
      times_commutes = λ x y. ap (λ (t : ℕ). just (t % q)) (mul_comm _ _);
      times_associates = λ x y z. ap just (mul-mod_first (kept x % q * (kept y % q)) (kept z % q) q ∙ ap (λ (t : ℕ). t % q) (mul_assoc _ _ _) ∙ sym (mul-mod_second (kept x % q) (kept y % q * (kept z % q)) q));
      times_one = λ x. ap just (ap (λ (t : ℕ). t % q) (mul-one _) ∙ mod-mod (kept x) q);
      distributes = λ x y z. ap just (mul-mod_second (kept x % q) (kept y % q + kept z % q) q ∙ ap (λ (t : ℕ). t % q) (mul-add _ _ _) ∙ sym (mod-add-mod _ q _ ∙ add-mod-mod _ _ q));
      zero_is_not_one = λ h. let e : ◌≡◌ {A = ℕ} 0 1 = ap number h in omega arith;
      inverse_exists = λ x n.
          let i = p.inverse_exists (kept x % q) (below _) (λ e. n (ap just e)) in
          let m = make i.0 in
          ∣ (m.0, ap just (ap (λ (t : ℕ). (kept x % q * (t % q)) % q) m.1 ∙ mul-mod_second _ _ q ∙ i.1)) ∣₁;
      root_squared =
          let above = p.above_two in let one_below : 1 < q = omega arith in let last_below : q - 1 < q = omega arith in
          ap just (p.root_squared ∙ sym (ap (λ (t : ℕ). (q - t) % q) (mod-eq_of_lt one_below) ∙ mod-eq_of_lt last_below));
      non_residue_has_no_root = λ x h. p.two_has_no_root (kept x % q) (below _) (ap number h);
    }

    meant_list : (xs : List ℕ) → Coefficients (residue_layout q) xs → Meant (residues q root kept) xs
    meant_list [] c = absurd (suc-ne-zero 0 (sym c.0))
    meant_list (n ∷ []) c = meant n c.1.0
    meant_list (n ∷ m ∷ xs) c = absurd (suc-ne-zero (length xs) (suc_inj c.0))

    pub residue_coordinate_laws : CoordinateLaws (residues q root kept) (residue_layout q)
    residue_coordinate_laws = record {
      size_is_count = refl;
      told = λ x. (refl, (below (kept x), tt));
      told_back = λ x. refl;
      meant = meant_list;
      meant_back = λ xs c. refl;
      zero_tells_zero = refl;
    }
