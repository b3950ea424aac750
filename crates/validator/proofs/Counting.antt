-- How many numbers below a bound pass a test.
use Rattle.std.proofs.Common.{◌≡◌, ℕ, zero, suc, ◌<◌, ◌≤◌, Bool, true, false, cond, ◌⊎◌, sym, refl, ap, ◌∙◌, inl, inr, arith}
use Rattle.std.proofs.lemmas.Bool.{cases_eq}
use Rattle.validator.specs.Shifts.{Count, none, has, lacks}

pub passing : (ℕ → Bool) → ℕ → ℕ
passing f zero = 0
passing f (suc m) = cond (f m) (suc (passing f m)) (passing f m)

pub passing_same : (f g : ℕ → Bool) (m : ℕ) → ((n : ℕ) → n < m → f n ≡ g n) → passing f m ≡ passing g m
unfolding passing
passing_same f g zero h = refl
passing_same f g (suc m) h =
    let here = h m (omega arith) in
    let below = passing_same f g m (λ n l. h n (omega arith)) in
    cc

pub passing_none : (f : ℕ → Bool) (m : ℕ) → ((n : ℕ) → f n ≡ false) → passing f m ≡ 0
unfolding passing
passing_none f zero h = refl
passing_none f (suc m) h = rw (h m) (passing_none f m h)

pub passing_at_most : (f : ℕ → Bool) (m : ℕ) → passing f m ≤ m
unfolding passing
passing_at_most f zero = omega arith
passing_at_most f (suc m) = let below = passing_at_most f m in elim (f m) as (λ b. cond b (suc (passing f m)) (passing f m) ≤ suc m) [ true ↦ omega arith | false ↦ omega arith ]

-- one number more passes, and all others as before
pub passing_more : (f g : ℕ → Bool) (m n : ℕ) → n < m → f n ≡ false → g n ≡ true → ((j : ℕ) → (j ≡ n → ⊥) → f j ≡ g j) → passing g m ≡ suc (passing f m)
unfolding passing
passing_more f g zero n l p q h = absurd (omega arith)
passing_more f g (suc m) n l p q h = go (cases_eq m n) (λ k. passing_more f g m n k p q h)
  where
    either : (b : Bool) → cond b (suc (suc (passing f m))) (suc (passing f m)) ≡ suc (cond b (suc (passing f m)) (passing f m))
    either true = refl
    either false = refl

    go : (m ≡ n) ⊎ (m ≡ n → ⊥) → (n < m → passing g m ≡ suc (passing f m)) → cond (g m) (suc (passing g m)) (passing g m) ≡ suc (cond (f m) (suc (passing f m)) (passing f m))
    go (inl e) rest =
        let same = passing_same f g m (λ j k. h j (omega arith)) in
        rw (ap f e ∙ p, ap g e ∙ q) (ap suc (sym same))
    go (inr d) rest =
        let more = rest (omega arith) in
        rw (sym (h m d), more) (either (f m))

pub passing_counts : (P : ℕ → Type 0) (f : ℕ → Bool) → ((n : ℕ) → f n ≡ true → P n) → ((n : ℕ) → f n ≡ false → P n → ⊥) → (m : ℕ) → Count P m (passing f m)
unfolding passing
passing_counts P f yes-has no-lacks zero = none
passing_counts P f yes-has no-lacks (suc m) = go (f m) refl (passing_counts P f yes-has no-lacks m)
  where
    go : (b : Bool) → f m ≡ b → Count P m (passing f m) → Count P (suc m) (cond b (suc (passing f m)) (passing f m))
    go true e r = has (yes-has m e) r
    go false e r = lacks (no-lacks m e) r
