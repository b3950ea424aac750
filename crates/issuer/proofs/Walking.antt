-- The lowest number that is not drawn is the first whose mark says so.
use Rattle.std.proofs.Common.{◌≡◌, ◌+◌, Bool, true, false, not, cond, List, [], ◌∷◌, refl, ap₂}
use Rattle.std.specs.List.{prefix_len}

not_not : (b : Bool) → b ≡ not (not b)
not_not true = refl
not_not false = refl

pub lowest_first : {X : Type 0} (p : X → Bool) (xs : List X) → prefix_len p xs ≡ prefix_len (λ x. not (not (p x))) xs
lowest_first p [] = refl
lowest_first p (x ∷ xs) = ap₂ (λ b n. cond b (1 + n) 0) (not_not (p x)) (lowest_first p xs)
