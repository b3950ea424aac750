-- Fields on any type: no divisors of zero, and what a value that is no square gives.
use Rattle.std.specs.Prelude.{◌≡◌, ◌≢◌, [], ◌∷◌, refl}
use Rattle.std.proofs.Common.{sym, ap, ◌∙◌}
use Rattle.field.specs.Rings.{Operations, Ring, zero_plus, times_zero}
use Rattle.field.specs.Quotes.{quotes, ring}

pub record IsField {A : Type 0} (o : Operations A) : Type 0 where
  pub is_ring : Ring o
  pub decide : (x y : A) → Dec (x ≡ y)
  pub zero_is_not_one : o.zero ≢ o.one
  pub inverse : (x : A) → x ≢ o.zero → (y : A) × (o.times x y ≡ o.one)

-- no value squared is s
abbrev pub HasNoRoot : {A : Type 0} → Operations A → A → Type 0
HasNoRoot {A = A} o s = (t : A) → o.times t t ≢ s

module _ {A : Type 0} (o : Operations A) (f : IsField o) where
  open o use {zero, one, plus as ◌+◌, times as ◌*◌, opposite as neg}

  infixl 65 ◌+◌
  infixl 70 ◌*◌
  open f use {is_ring as r, decide, inverse}
  open r use {times_one}

  pub no_zero_divisor : (x y : A) → x ≢ zero → x * y ≡ zero → y ≡ zero
  no_zero_divisor x y n h = let w = inverse x n in sym (undo w.0 w.1) ∙ ap (λ t. w.0 * t) h ∙ times_zero o r w.0
    where
      undo : (w : A) → x * w ≡ one → w * (x * y) ≡ y
      undo w p = ring o r (x ∷ y ∷ w ∷ []) (search quotes) refl ∙ ap (λ t. y * t) p ∙ times_one y

  pub square_zero : (x : A) → x * x ≡ zero → x ≡ zero
  square_zero x h = go (decide x zero)
    where
      go : Dec (x ≡ zero) → x ≡ zero
      go (yes e) = e
      go (no n) = no_zero_divisor x x n h

  pub difference_zero : (x y : A) → x + neg y ≡ zero → x ≡ y
  difference_zero x y h = ring o r (x ∷ y ∷ []) (search quotes) refl ∙ ap (λ t. t + y) h ∙ zero_plus o r y

  module _ (s : A) (no_root : HasNoRoot o s) where
    -- a square is s times a square only where both are zero
    pub no_ratio : (a0 a1 : A) → a0 * a0 ≡ s * (a1 * a1) → a1 ≡ zero
    no_ratio a0 a1 h = go (decide a1 zero)
      where
        go : Dec (a1 ≡ zero) → a1 ≡ zero
        go (yes e) = e
        go (no n) =
            let b = inverse a1 n in
            absurd (no_root (a0 * b.0)
            (ring o r (a0 ∷ b.0 ∷ []) (search quotes) refl
            ∙ ap (λ t. t * (b.0 * b.0)) h
            ∙ ring o r (s ∷ a1 ∷ b.0 ∷ []) (search quotes) refl
            ∙ ap (λ t. s * (t * t)) b.1 ∙ ap (λ t. s * t) (times_one one) ∙ times_one s))

    -- the norm a0² − s·a1² is zero only for the pair of zeros
    pub norm_zero : (a0 a1 : A) → a0 * a0 + neg (s * (a1 * a1)) ≡ zero → (a0 ≡ zero) × (a1 ≡ zero)
    norm_zero a0 a1 h =
        let e = difference_zero (a0 * a0) (s * (a1 * a1)) h in
        let z = no_ratio a0 a1 e in
        (square_zero a0 (e ∙ ap (λ t. s * (t * t)) z ∙ ring o r (s ∷ []) (search quotes) refl), z)
