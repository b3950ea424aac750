use Rattle.std.proofs.Common.{◌≡◌, ℕ, List, Ok, sym, refl, ap, ◌∙◌, ap₂}
use Rattle.std.proofs.lemmas.Result.{err_from_is_err_and}
use Rattle.field.specs.Fields.{Arithmetic, Laws}
use Rattle.field.specs.Inverses.{InverseAnswer}
use Rattle.field.proofs.UniqueInverses.{inverse_not_zero}
use Rattle.prime.specs.Towers.{long_tower}
use Rattle.polynomial.specs.declared.basis.PolynomialBasis.{PolynomialBasis}
use Rattle.polynomial.specs.Product.{polynomial_times}
use Rattle.polynomial.specs.Polynomials.{eight_remainders}
use Rattle.polynomial.specs.BitReversal.{bit_reversal_of}
use Rattle.polynomial.specs.PolynomialLaws.{basis_laws, basis_equal_by_meaning}
use Rattle.polynomial.specs.Reversals.{reversed_twice, reversed_inverse}
use Rattle.polynomial.proofs.basis.PolynomialBasisField.inverse.Goals as goal

-- A factor of a product that was found to be one has the other for its inverse, and is not zero.
found : {V : Type 0} {a : Arithmetic V} → Laws a → (x y product one : V) → a.meaning product ≡ a.times (a.meaning x) (a.meaning y) → a.meaning product ≡ a.meaning one → a.meaning one ≡ a.one → InverseAnswer a x (Ok y)
found l x y product one m s o = let p = sym m ∙ s ∙ o in (inverse_not_zero l x y p, p)

pub returns-then-eq : goal.returns-then-eq
returns-then-eq g c =
    let m = g.M.Modulus in
    let same = (basis_equal_by_meaning m.Q m.ROOT c.mul.result c.one.result).0 (sym c.eq.ensures ∙ c.if-eq.true) in
    found (basis_laws g.met.M.Modulus.prime) c.args.self c.keeping-candidate.result c.mul.result c.one.result c.mul.ensures same c.one.ensures

pub returns-in_err-inverse : goal.returns-in_err-inverse
returns-in_err-inverse g c =
    let q = g.M.Modulus.Q in
    let own = eight_remainders q c.args.self.kept in
    let p = err_from_is_err_and c.from_residual.result c.from_residual.ensures.1 in
    let back : own ≡ bit_reversal_of 3 ((long_tower q g.M.Modulus.ROOT).meaning c.from.result) = sym (reversed_twice own refl) ∙ ap (bit_reversal_of 3) (sym c.from.ensures.value) in
    rw (p.1, p.2) (back ∙ ap (bit_reversal_of 3) c.in_err-inverse.ensures.0, c.in_err-inverse.ensures.1)

pub returns : goal.returns
returns g c =
    let q = g.M.Modulus.Q in let root = g.M.Modulus.ROOT in
    let own = eight_remainders q c.args.self.kept in
    let x = (long_tower q root).meaning c.from.result in
    let y = (long_tower q root).meaning c.in_ok-inverse.inverse in
    let kept : PolynomialBasis g.row.M.Denot → List ℕ = λ w. w.kept in
    let back : own ≡ bit_reversal_of 3 x = sym (reversed_twice own refl) ∙ ap (bit_reversal_of 3) (sym c.from.ensures.value) in (
      λ h. c.in_ok-inverse.ensures.0 (c.from.ensures.value ∙ ap (bit_reversal_of 3) h),
      ap₂ (polynomial_times q) back c.from-2.ensures.value ∙ reversed_inverse q root kept x y refl refl c.in_ok-inverse.ensures.1,
    )
