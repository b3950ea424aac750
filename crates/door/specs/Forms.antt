-- The forms of values that a call can name by number.
use Rattle.std.specs.Prelude.{◌≡◌, ℕ, ◌/◌, ◌%◌, cond, List, Some, None, Option, Result, ◌==◌}
use Rattle.fault.specs.declared.Fault.{Fault}
use Rattle.field.specs.Fields.{Arithmetic}
use Rattle.field.specs.Coordinates.{Layout, extension_layout}
use Rattle.prime.specs.Residues.{residue_layout}
use Rattle.prime.specs.Towers.{short_tower, long_tower}
use Rattle.polynomial.specs.Polynomials.{polynomials, polynomial_layout}
use Rattle.playback.specs.Lines.{of_meanings}
use Rattle.door.specs.Codes.{code, no_such_form, done, left}

-- An arithmetic on meanings, how meanings are coefficients by power, and the bits of an encoded coefficient.
pub record Form : Type 0 where
  pub arithmetic : Arithmetic (List ℕ)
  pub layout : Layout
  pub width : ℕ

abbrev pub short : ℕ → ℕ → ℕ → Form
short q root w = record { arithmetic = of_meanings (short_tower {M = ℕ} q root); layout = extension_layout (residue_layout q); width = w }

abbrev pub long : ℕ → ℕ → ℕ → Form
long q root w = record { arithmetic = of_meanings (long_tower {M = ℕ} q root); layout = extension_layout (extension_layout (extension_layout (residue_layout q))); width = w }

abbrev pub polynomial : ℕ → ℕ → ℕ → Form
polynomial q root w = record { arithmetic = polynomials q root (λ x. x); layout = polynomial_layout q; width = w }

-- the short, the long and the polynomial form at a modulus
abbrev pub kind_of : ℕ → ℕ → ℕ → ℕ → Option Form
kind_of q root w kind =
    cond (kind == 0) (Some (short q root w))
    (cond (kind == 1) (Some (long q root w))
    (cond (kind == 2) (Some (polynomial q root w))
    None))

abbrev pub over_4093 : ℕ → Option Form
over_4093 kind = kind_of 4093 1059 12 kind

abbrev pub over_1021 : ℕ → Option Form
over_1021 kind = kind_of 1021 374 10 kind

-- The form with a number: the even ones are at 4093 and the odd ones at 1021.
abbrev pub form_of : ℕ → Option Form
form_of n = cond (n % 2 == 0) (over_4093 (n / 2)) (over_1021 (n / 2))

-- what is said of the form, or else of there being none
abbrev pub of_form {ℓ} : {A : Type ℓ} → Option Form → (Form → A) → A → A
of_form (Some f) said none = said f
of_form None said none = none

-- the code of what a call answers in a form
abbrev pub told_in : Option Form → (Form → Result (List ℕ) Fault) → ℕ
told_in o answer = of_form o (λ f. code (done (answer f))) no_such_form

-- what it leaves in a row
abbrev pub left_in : Option Form → (Form → Result (List ℕ) Fault) → List ℕ → List ℕ
left_in o answer row = of_form o (λ f. left (answer f) row) row

-- what holds of a row before and afterwards; where there is no form it is as it was
abbrev pub LeftIn : Option Form → (Form → List ℕ → List ℕ → Type 0) → List ℕ → List ℕ → Type 0
LeftIn o Holds row new = of_form o (λ f. Holds f row new) (new ≡ row)
