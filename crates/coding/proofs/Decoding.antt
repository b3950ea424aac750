-- Bytes whose coefficients are refused, and blocks, whose coefficients never are.
use Rattle.std.proofs.Common.{◌≡◌, ℕ, Bool, true, false, cond, List, length, Ok, Err, Result, sym, refl, ap, ◌∙◌, rules}
use Rattle.std.proofs.lemmas.Bool.{eq-eqb}
use Rattle.std.specs.Result.{MatchResult, IsErrAnd, IsOk}
use Rattle.fault.specs.declared.Fault.{Fault}
use Rattle.fault.specs.declared.Part.{Part}
use Rattle.fault.specs.declared.Part.TheVariants.{Call}
use Rattle.fault.specs.Faults.{fault}
use Rattle.field.specs.Fields.{Arithmetic}
use Rattle.field.specs.Coordinates.{Layout, Built, coefficients}
use Rattle.coding.specs.Encoding.{Limits, standing, encoded_size_of, decoded, block_coefficients}
use Rattle.coding.proofs.Regrouping.{length_regrouped}
use Rattle.coding.proofs.RoundTrips.{coefficients_taken, block_is_coefficients}

with_part : (b : Bool) (xs : List ℕ) (r : Result (List ℕ) Fault) (i : ℕ) (part : Part) (f : Fault) →
    ◌≡◌ {A = Result (List ℕ) Fault} (cond b (Ok xs) (Err (fault 1 Call i))) (Err f) →
    ◌≡◌ {A = Result (List ℕ) Fault} (cond b r (Err (fault 1 part i))) (Err (record f { part = part }))
with_part true xs r i part f h = cc
with_part false xs r i part f h = let same : fault 1 Call i ≡ f = cc in ap (λ (g : Fault). Err (record g { part = part })) same

-- bytes of the right size whose coefficients are refused are refused alike, with the part that was read
pub decoded_refused : (l : Layout) (w : ℕ) (part : Part) (bytes : List ℕ) (f : Fault) → length bytes ≡ encoded_size_of w l.count → coefficients l (standing w l.count bytes) ≡ Err f → decoded l w part bytes ≡ Err (record f { part = part })
decoded_refused l w part bytes f whole h =
    let long : length (standing w l.count bytes) ≡ l.count = length_regrouped 8 w l.count bytes in
    rw (eq-eqb _ _ whole) (with_part _ _ _ _ part f (rw (eq-eqb _ _ long, long) at h))

-- where `map_err` gave an error, it mapped one
pub mapped_error : {V E : Type 0} (P : E → E → Type 0) (r m : Result V E) (f : E) → MatchResult r (λ x. m ≡ Ok x) (λ e. IsErrAnd m (P e)) → m ≡ Err f → (e : E) × (r ≡ Err e) × P e f
mapped_error P (Ok v) m f h k = let e : ◌≡◌ {A = Result _ _} (Ok v) (Err f) = sym h ∙ k in cc
mapped_error P (Err e) m f h k = (e, refl, rw k at h)

-- the groups of bits of a block are coefficients, so a value is built of them
pub block_built : {V : Type 0} (a : Arithmetic V) (l : Layout) (w : ℕ) → Limits l w → (bytes : List ℕ) (r : Result V Fault) → Built a l (block_coefficients w l.count bytes) r → IsOk r
block_built a l w limits bytes (Ok v) built = search rules
block_built a l w limits bytes (Err f) built =
    let taken = coefficients_taken l _ (block_is_coefficients l w limits bytes) in
    let never : ◌≡◌ {A = Result (List ℕ) Fault} (Ok (block_coefficients w l.count bytes)) (Err f) = sym taken ∙ built in
    cc
