-- What is kept of more bytes than there is room for.
use Rattle.std.proofs.Common.{◌≡◌, ℕ, ◌+◌, ◌-◌, ◌≤◌, List, ◌++◌, length, take, min, sym, ap, ◌∙◌, arith}
use Rattle.std.proofs.Math.Seq.{take-append-add}
use Rattle.std.proofs.lemmas.List.{take_min}

pub kept_more : (limit : ℕ) (xs ys : List ℕ) → length xs ≤ limit + 2 → xs ++ take (min (2 + limit - length xs) (length ys)) ys ≡ take (limit + 2) (xs ++ ys)
kept_more limit xs ys h =
    let n = 2 + limit - length xs in
    let all : limit + 2 ≡ length xs + n = omega arith in
    ap (λ t. xs ++ t) (take_min n ys) ∙ sym (ap (λ m. take m (xs ++ ys)) all ∙ take-append-add xs ys n)
