-- Commutative rings: the operations, the laws, and what follows from them at once.
use Rattle.std.specs.Prelude.{◌≡◌}
use Rattle.std.proofs.Common.{sym, ap, ap₂, ◌∙◌}

pub record Operations (A : Type 0) : Type 0 where
  pub zero : A
  pub one : A
  pub plus : A → A → A
  pub times : A → A → A
  pub opposite : A → A

pub record Ring {A : Type 0} (o : Operations A) : Type 0 where
  pub plus_commutes : (x y : A) → o.plus x y ≡ o.plus y x
  pub plus_associates : (x y z : A) → o.plus (o.plus x y) z ≡ o.plus x (o.plus y z)
  pub plus_zero : (x : A) → o.plus x o.zero ≡ x
  pub plus_opposite : (x : A) → o.plus x (o.opposite x) ≡ o.zero
  pub times_commutes : (x y : A) → o.times x y ≡ o.times y x
  pub times_associates : (x y z : A) → o.times (o.times x y) z ≡ o.times x (o.times y z)
  pub times_one : (x : A) → o.times x o.one ≡ x
  pub distributes : (x y z : A) → o.times x (o.plus y z) ≡ o.plus (o.times x y) (o.times x z)

module _ {A : Type 0} (o : Operations A) (r : Ring o) where
  open o use {zero, one, plus as ◌+◌, times as ◌*◌, opposite as neg}

  infixl 65 ◌+◌
  infixl 70 ◌*◌
  open r use {plus_commutes, plus_associates, plus_zero, plus_opposite, times_commutes, times_associates, times_one, distributes}

  pub zero_plus : (x : A) → zero + x ≡ x
  zero_plus x = plus_commutes zero x ∙ plus_zero x

  pub one_times : (x : A) → one * x ≡ x
  one_times x = times_commutes one x ∙ times_one x

  pub plus_left_commutes : (x y z : A) → x + (y + z) ≡ y + (x + z)
  plus_left_commutes x y z = sym (plus_associates x y z) ∙ ap (λ t. t + z) (plus_commutes x y) ∙ plus_associates y x z

  pub times_left_commutes : (x y z : A) → x * (y * z) ≡ y * (x * z)
  times_left_commutes x y z = sym (times_associates x y z) ∙ ap (λ t. t * z) (times_commutes x y) ∙ times_associates y x z

  pub swap_middle : (a b c d : A) → (a + b) + (c + d) ≡ (a + c) + (b + d)
  swap_middle a b c d = plus_associates a b (c + d) ∙ ap (λ t. a + t) (plus_left_commutes b c d) ∙ sym (plus_associates a c (b + d))

  pub distributes_right : (x y z : A) → (x + y) * z ≡ x * z + y * z
  distributes_right x y z = times_commutes (x + y) z ∙ distributes z x y ∙ ap₂ ◌+◌ (times_commutes z x) (times_commutes z y)

  pub plus_cancels : (x y z : A) → x + y ≡ x + z → y ≡ z
  plus_cancels x y z h = sym (undo y) ∙ ap (λ t. neg x + t) h ∙ undo z
    where
      undo : (w : A) → neg x + (x + w) ≡ w
      undo w = sym (plus_associates (neg x) x w) ∙ ap (λ t. t + w) (plus_commutes (neg x) x ∙ plus_opposite x) ∙ zero_plus w

  pub times_zero : (x : A) → x * zero ≡ zero
  times_zero x = plus_cancels (x * zero) (x * zero) zero (sym (distributes x zero zero) ∙ ap (λ t. x * t) (plus_zero zero) ∙ sym (plus_zero (x * zero)))

  pub zero_times : (x : A) → zero * x ≡ zero
  zero_times x = times_commutes zero x ∙ times_zero x

  -- the opposite is the only one
  pub opposite_unique : (x y : A) → x + y ≡ zero → y ≡ neg x
  opposite_unique x y h = plus_cancels x y (neg x) (h ∙ sym (plus_opposite x))

  pub opposite_zero : neg zero ≡ zero
  opposite_zero = sym (opposite_unique zero zero (plus_zero zero))

  pub opposite_twice : (x : A) → neg (neg x) ≡ x
  opposite_twice x = sym (opposite_unique (neg x) x (plus_commutes (neg x) x ∙ plus_opposite x))

  pub opposite_plus : (x y : A) → neg (x + y) ≡ neg x + neg y
  opposite_plus x y = sym (opposite_unique (x + y) (neg x + neg y) (swap_middle x y (neg x) (neg y) ∙ ap₂ ◌+◌ (plus_opposite x) (plus_opposite y) ∙ plus_zero zero))

  pub times_opposite : (x y : A) → x * neg y ≡ neg (x * y)
  times_opposite x y = opposite_unique (x * y) (x * neg y) (sym (distributes x y (neg y)) ∙ ap (λ t. x * t) (plus_opposite y) ∙ times_zero x)

  pub opposite_times : (x y : A) → neg x * y ≡ neg (x * y)
  opposite_times x y = times_commutes (neg x) y ∙ times_opposite y x ∙ ap neg (times_commutes y x)

  -- a ring value has at most one inverse
  pub inverse_unique : (x y z : A) → x * y ≡ one → x * z ≡ one → y ≡ z
  inverse_unique x y z p q =
      sym (times_one y) ∙ ap (λ t. y * t) (sym q) ∙ sym (times_associates y x z) ∙ ap (λ t. t * z) (times_commutes y x ∙ p) ∙ one_times z
