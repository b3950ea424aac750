-- An array that calls of one closure made, at each index in turn.
use Rattle.std.proofs.Common.{◌≡◌, ℕ, zero, suc, ◌+◌, ◌<◌, List, map, sym, ◌∙◌, subst, arith, add-zero, zero-add, slice_index_or}
use denote.Param.Members.{Mut, Called}
use Rattle.std.specs.Array.{IsFromFnResult, IsFromFnResultFrom}
use Rattle.std.specs.List.{range_with_len}
use Rattle.std.proofs.lemmas.List.FromFn.{fill_by_all}

module _ {F B : Type 0} (g : Mut F (ℕ × Unit {0}) B) (v : ℕ → B) (f : F) (calls : (i : ℕ) (y : B) (q : F) → Called g f (i, tt) y q → (y ≡ v i) × (q ≡ f)) (ys : List B) where
  elements : (i n : ℕ) (d : B) → IsFromFnResultFrom g f ys i n → (k : ℕ) → k < n → slice_index_or ys (i + k) d ≡ v (i + k)
  elements i zero d r k h = absurd (omega arith)
  elements i (suc n) d r zero h = subst (λ m. slice_index_or ys m d ≡ v m) (sym (add-zero i)) (r.2.1 d ∙ (calls i r.1 r.0 r.3).0)
  elements i (suc n) d r (suc k) h =
      let next : i + 1 + k ≡ i + suc k = omega arith in
      let rest = subst (λ p. IsFromFnResultFrom g p ys (i + 1) n) (calls i r.1 r.0 r.3).1 r.4 in
      subst (λ m. slice_index_or ys m d ≡ v m) next (elements (i + 1) n d rest k (omega arith))

  -- where each call leaves the closure as it was, the array is what the calls answer
  pub from_fn_is : (n : ℕ) → B → IsFromFnResult g f ys n → ys ≡ map v (range_with_len 0 n)
  from_fn_is n d r = fill_by_all v ys n d r.long (λ k h. subst (λ m. slice_index_or ys m d ≡ v m) (zero-add k) (elements 0 n d r.each k h))
