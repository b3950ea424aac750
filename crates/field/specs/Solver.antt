-- A normaliser of ring expressions, and that it keeps their value: two expressions with one normal form are equal in every ring.
use Rattle.std.specs.Prelude.{◌≡◌, ℕ, Bool, true, false, List, [], ◌∷◌, ◌++◌, nat_le, cond}
use Rattle.std.proofs.Math.Path.{refl, sym, ap, ap₂}
use Rattle.std.proofs.Common.{◌∙◌}
use Prim.Native.Nat.{compare, Ordering}
use Rattle.field.specs.Rings.{Operations, Ring, zero_plus, one_times, plus_left_commutes, times_left_commutes, swap_middle, distributes_right, plus_cancels, times_zero, zero_times, opposite_zero, opposite_twice, opposite_plus, times_opposite, opposite_times}

infixl 65 ◌⊕◌
infixl 70 ◌⊗◌
infix 80 ⊖◌
-- an expression in numbered variables
pub data Expression : Type 0 where
  at : ℕ → Expression
  e0 e1 : Expression
  ◌⊕◌ ◌⊗◌ : Expression → Expression → Expression
  ⊖◌ : Expression → Expression

-- the numbers of the variables of a product, sorted
abbrev Monomial : Type 0
Monomial = List ℕ

-- a sum of monomials, sorted at the very end
abbrev Polynomial : Type 0
Polynomial = List Monomial

-- what is added, and what is taken away
abbrev pub Form : Type 0
Form = Polynomial × Polynomial

abbrev insert : ℕ → Monomial → Monomial
insert n [] = n ∷ []
insert n (m ∷ ms) = let later = m ∷ insert n ms in cond (nat_le n m) (n ∷ m ∷ ms) later

abbrev mono_times : Monomial → Monomial → Monomial
mono_times [] n = n
mono_times (x ∷ m) n = insert x (mono_times m n)

abbrev row : Monomial → Polynomial → Polynomial
row m [] = []
row m (n ∷ q) = mono_times m n ∷ row m q

abbrev poly_times : Polynomial → Polynomial → Polynomial
poly_times [] q = []
poly_times (m ∷ p) q = row m q ++ poly_times p q

abbrev form_plus : Form → Form → Form
form_plus f g = (f.0 ++ g.0, f.1 ++ g.1)

abbrev form_times : Form → Form → Form
form_times f g = (poly_times f.0 g.0 ++ poly_times f.1 g.1, poly_times f.0 g.1 ++ poly_times f.1 g.0)

abbrev pub form : Expression → Form
form (at n) = ((n ∷ []) ∷ [], [])
form e0 = ([], [])
form e1 = ([] ∷ [], [])
form (a ⊕ b) = form_plus (form a) (form b)
form (a ⊗ b) = form_times (form a) (form b)
form (⊖ a) = ((form a).1, (form a).0)

-- lexicographic order of monomials
abbrev on : Ordering → Bool → Bool
on Ordering.lt b = true
on Ordering.eq b = b
on Ordering.gt b = false

abbrev before : Monomial → Monomial → Bool
before [] n = true
before (x ∷ m) [] = false
before (x ∷ m) (y ∷ n) = on (compare x y) (before m n)

abbrev put : Monomial → Polynomial → Polynomial
put m [] = m ∷ []
put m (n ∷ p) = let later = n ∷ put m p in cond (before m n) (m ∷ n ∷ p) later

abbrev pub sort : Polynomial → Polynomial
sort [] = []
sort (m ∷ p) = put m (sort p)

-- the two expressions have one normal form
abbrev pub Same : Expression → Expression → Type 0
Same a b = sort ((form a).0 ++ (form b).1) ≡ sort ((form b).0 ++ (form a).1)

module _ {A : Type 0} (o : Operations A) where
  open o use {zero, one, plus as ◌+◌, times as ◌*◌, opposite as neg}

  infixl 65 ◌+◌
  infixl 70 ◌*◌
  abbrev pub value : (ℕ → A) → Expression → A
  value ρ (at n) = ρ n
  value ρ e0 = zero
  value ρ e1 = one
  value ρ (a ⊕ b) = value ρ a + value ρ b
  value ρ (a ⊗ b) = value ρ a * value ρ b
  value ρ (⊖ a) = neg (value ρ a)

  mono_value : (ℕ → A) → Monomial → A
  mono_value ρ [] = one
  mono_value ρ (n ∷ m) = ρ n * mono_value ρ m

  poly_value : (ℕ → A) → Polynomial → A
  poly_value ρ [] = zero
  poly_value ρ (m ∷ p) = mono_value ρ m + poly_value ρ p

  form_value : (ℕ → A) → Form → A
  form_value ρ f = poly_value ρ f.0 + neg (poly_value ρ f.1)

  module _ (r : Ring o) (ρ : ℕ → A) where
    open r use {plus_commutes, plus_associates, plus_zero, plus_opposite, times_commutes, times_associates, times_one, distributes}

    choose_mono : (b : Bool) (m n : Monomial) (x : A) → mono_value ρ m ≡ x → mono_value ρ n ≡ x → mono_value ρ (cond b m n) ≡ x
    choose_mono true m n x p q = p
    choose_mono false m n x p q = q

    insert_value : (n : ℕ) (m : Monomial) → mono_value ρ (insert n m) ≡ ρ n * mono_value ρ m
    unfolding mono_value
    insert_value n [] = refl
    insert_value n (m ∷ ms) =
        choose_mono (nat_le n m) (n ∷ m ∷ ms) (m ∷ insert n ms) _ refl
        (ap (λ t. ρ m * t) (insert_value n ms) ∙ times_left_commutes o r (ρ m) (ρ n) (mono_value ρ ms))

    mono_times_value : (m n : Monomial) → mono_value ρ (mono_times m n) ≡ mono_value ρ m * mono_value ρ n
    unfolding mono_value
    mono_times_value [] n = sym (one_times o r _)
    mono_times_value (x ∷ m) n = insert_value x (mono_times m n) ∙ ap (λ t. ρ x * t) (mono_times_value m n) ∙ sym (times_associates (ρ x) (mono_value ρ m) (mono_value ρ n))

    append_value : (p q : Polynomial) → poly_value ρ (p ++ q) ≡ poly_value ρ p + poly_value ρ q
    unfolding poly_value
    append_value [] q = sym (zero_plus o r _)
    append_value (m ∷ p) q = ap (λ t. mono_value ρ m + t) (append_value p q) ∙ sym (plus_associates _ _ _)

    row_value : (m : Monomial) (q : Polynomial) → poly_value ρ (row m q) ≡ mono_value ρ m * poly_value ρ q
    unfolding poly_value
    row_value m [] = sym (times_zero o r _)
    row_value m (n ∷ q) = ap₂ ◌+◌ (mono_times_value m n) (row_value m q) ∙ sym (distributes _ _ _)

    poly_times_value : (p q : Polynomial) → poly_value ρ (poly_times p q) ≡ poly_value ρ p * poly_value ρ q
    unfolding poly_value
    poly_times_value [] q = sym (zero_times o r _)
    poly_times_value (m ∷ p) q = append_value (row m q) (poly_times p q) ∙ ap₂ ◌+◌ (row_value m q) (poly_times_value p q) ∙ sym (distributes_right o r _ _ _)

    choose_poly : (b : Bool) (p q : Polynomial) (x : A) → poly_value ρ p ≡ x → poly_value ρ q ≡ x → poly_value ρ (cond b p q) ≡ x
    choose_poly true m n x p q = p
    choose_poly false m n x p q = q

    put_value : (m : Monomial) (p : Polynomial) → poly_value ρ (put m p) ≡ mono_value ρ m + poly_value ρ p
    unfolding poly_value
    put_value m [] = refl
    put_value m (n ∷ p) =
        choose_poly (before m n) (m ∷ n ∷ p) (n ∷ put m p) _ refl
        (ap (λ t. mono_value ρ n + t) (put_value m p) ∙ plus_left_commutes o r _ _ _)

    sort_value : (p : Polynomial) → poly_value ρ (sort p) ≡ poly_value ρ p
    unfolding poly_value
    sort_value [] = refl
    sort_value (m ∷ p) = put_value m (sort p) ∙ ap (λ t. mono_value ρ m + t) (sort_value p)

    times_forms : (a b c d : A) → (a + neg b) * (c + neg d) ≡ (a * c + b * d) + neg (a * d + b * c)
    times_forms a b c d =
        distributes_right o r a (neg b) (c + neg d)
        ∙ ap₂ ◌+◌ (distributes a c (neg d)) (distributes (neg b) c (neg d))
        ∙ ap₂ ◌+◌ (ap (λ t. a * c + t) (times_opposite o r a d)) (ap₂ ◌+◌ (opposite_times o r b c) (opposite_times o r b (neg d) ∙ ap neg (times_opposite o r b d) ∙ opposite_twice o r _))
        ∙ ap (λ t. (a * c + neg (a * d)) + t) (plus_commutes _ _)
        ∙ swap_middle o r _ _ _ _
        ∙ ap (λ t. (a * c + b * d) + t) (sym (opposite_plus o r _ _))

    form_right : (e : Expression) → value ρ e ≡ form_value ρ (form e)
    unfolding mono_value poly_value form_value
    form_right (at n) = sym (ap₂ ◌+◌ (plus_zero _ ∙ times_one _) (opposite_zero o r) ∙ plus_zero _)
    form_right e0 = sym (ap (λ t. zero + t) (opposite_zero o r) ∙ plus_zero _)
    form_right e1 = sym (ap₂ ◌+◌ (plus_zero _) (opposite_zero o r) ∙ plus_zero _)
    form_right (a ⊕ b) =
        ap₂ ◌+◌ (form_right a) (form_right b) ∙ swap_middle o r _ _ _ _
        ∙ ap₂ ◌+◌ (sym (append_value (form a).0 (form b).0)) (sym (ap neg (append_value (form a).1 (form b).1) ∙ opposite_plus o r _ _))
    form_right (a ⊗ b) =
        ap₂ ◌*◌ (form_right a) (form_right b) ∙ times_forms _ _ _ _
        ∙ ap₂ (λ s t. s + neg t)
        (sym (append_value (poly_times (form a).0 (form b).0) _ ∙ ap₂ ◌+◌ (poly_times_value (form a).0 (form b).0) (poly_times_value (form a).1 (form b).1)))
        (sym (append_value (poly_times (form a).0 (form b).1) _ ∙ ap₂ ◌+◌ (poly_times_value (form a).0 (form b).1) (poly_times_value (form a).1 (form b).0)))
    form_right (⊖ a) = ap neg (form_right a) ∙ opposite_plus o r _ _ ∙ ap (λ t. neg (poly_value ρ (form a).0) + t) (opposite_twice o r _) ∙ plus_commutes _ _

    -- p + s ≡ q + n gives p - n ≡ q - s
    cross : (p n q s : A) → p + s ≡ q + n → p + neg n ≡ q + neg s
    cross p n q s h =
        plus_cancels o r (s + n) (p + neg n) (q + neg s)
        (swap_middle o r s n p (neg n) ∙ ap₂ ◌+◌ (plus_commutes s p ∙ h) (plus_opposite n) ∙ plus_zero _
        ∙ sym (ap (λ t. t + (q + neg s)) (plus_commutes s n) ∙ swap_middle o r n s q (neg s) ∙ ap₂ ◌+◌ (plus_commutes n q) (plus_opposite s) ∙ plus_zero _))

    pub solve : (a b : Expression) → Same a b → value ρ a ≡ value ρ b
    unfolding form_value
    solve a b h =
        form_right a
        ∙ cross _ _ _ _
        (sym (append_value (form a).0 (form b).1) ∙ sym (sort_value ((form a).0 ++ (form b).1)) ∙ ap (poly_value ρ) h
        ∙ sort_value ((form b).0 ++ (form a).1) ∙ append_value (form b).0 (form a).1)
        ∙ sym (form_right b)
