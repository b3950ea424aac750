-- A whole reading: what is read one after the other is what the tape holds.
use Rattle.std.proofs.Common.{◌≡◌, ℕ, ◌+◌, ◌-◌, ◌/◌, ◌%◌, ◌<◌, ◌≤◌, Bool, true, false, cond, eqb, ltb, leb, List, [], ◌∷◌, ◌++◌, length, take, drop, Some, None, Ok, Err, Option, Result, sym, refl, ap, ◌∙◌, ap₂, append_assoc, append-nil, arith, length-append, length-drop, take_all, take_at, take-add, drop_at}
use mathlib.Core.List.{append_cancel_left}
use lib.Lanes.{Each1}
use Rattle.std.proofs.lemmas.Bool.{leb-true}
use Rattle.fault.specs.declared.Fault.{Fault}
use Rattle.fault.specs.declared.Part.TheVariants.{Tape}
use Rattle.fault.specs.Faults.{fault}
use Rattle.tape.specs.Records.{Request, check, cancel, report, head, by_kind, next_record, record_bytes, Fits, EachFits, all_bytes, Holds, ReadingIsWhole}
use Rattle.tape.proofs.Standing.{read_stands, stands_read}

each_fits_more : (rs : List Request) (r : Request) → EachFits rs → Fits r → EachFits (rs ++ r ∷ [])
each_fits_more [] r h f = (f, tt)
each_fits_more (s ∷ rs) r h f = (h.0, each_fits_more rs r h.1 f)

all_bytes_more : (rs : List Request) (r : Request) → all_bytes (rs ++ r ∷ []) ≡ all_bytes rs ++ record_bytes r
all_bytes_more [] r = append-nil (record_bytes r)
all_bytes_more (s ∷ rs) r = ap (λ xs. record_bytes s ++ xs) (all_bytes_more rs r) ∙ sym (append_assoc (record_bytes s) (all_bytes rs) (record_bytes r))

pub two_at_least : (r : Request) → 2 ≤ length (record_bytes r)
two_at_least (check ticket) = omega arith
two_at_least (cancel n) = omega arith
two_at_least (report n) = omega arith

goes_on : (tape : List ℕ) (at : ℕ) → Each1 (λ n. n < 256) tape → (rs : List Request) (r : Request) → Holds tape at rs → next_record tape at ≡ Ok (Some r) → Holds tape (at + length (record_bytes r)) (rs ++ r ∷ [])
goes_on tape at bytes rs r (fits, within, held) q =
    let (fit, stands) = read_stands tape at bytes r q in
    let m = length (record_bytes r) in
    let rest = drop (at + m) tape in
    let sizes = sym (length-drop at tape) ∙ ap length stands ∙ length-append (record_bytes r) rest in
    let next : take m (drop at tape) ≡ record_bytes r = ap (take m) stands ∙ take_at (record_bytes r) rest m refl in
    let two = two_at_least r in
    (each_fits_more rs r fits fit, omega arith, take-add at m tape ∙ ap₂ ◌++◌ held next ∙ sym (all_bytes_more rs r))

-- nothing is read only at the end
no_kind_is_nothing : (tape : List ℕ) (at k n : ℕ) → by_kind tape at k n ≡ Ok None → ⊥
no_kind_is_nothing tape at k n = go (eqb k 1) (eqb k 2) (eqb k 3) (ltb (length tape - at - 2) n) (ltb n 1024) (ltb n 64)
  where
    go : (a b c d f g : Bool)
        → ◌≡◌ {A = Result (Option Request) Fault}
        (cond a (cond d (Err (fault 15 Tape at)) (Ok (Some (check (take n (drop (at + 2) tape))))))
        (cond b (cond f (Ok (Some (cancel n))) (Err (fault 16 Tape at)))
        (cond c (cond g (Ok (Some (report n))) (Err (fault 16 Tape at))) (Err (fault 16 Tape at)))))
        (Ok None)
        → ⊥
    go true b c true f g q = cc
    go true b c false f g q = cc
    go false true c d true g q = cc
    go false true c d false g q = cc
    go false false true d f true q = cc
    go false false true d f false q = cc
    go false false false d f g q = cc

nothing_at_the_end : (tape : List ℕ) (at : ℕ) → next_record tape at ≡ Ok None → length tape ≤ at
nothing_at_the_end tape at = go (leb (length tape) at) (ltb (length tape - at) 2) refl
  where
    go : (a b : Bool) → leb (length tape) at ≡ a
        → ◌≡◌ {A = Result (Option Request) Fault}
        (cond a (Ok None) (cond b (Err (fault 15 Tape at)) (by_kind tape at (head tape at / 16384) (head tape at % 16384)))) (Ok None)
        → length tape ≤ at
    go true b p q = leb-true _ _ p
    go false true p q = cc
    go false false p q = absurd (no_kind_is_nothing tape at (head tape at / 16384) (head tape at % 16384) q)

ends : (tape : List ℕ) (at : ℕ) → next_record tape at ≡ Ok None → (rs : List Request) → Holds tape at rs → tape ≡ all_bytes rs
ends tape at q rs (fits, within, held) = sym (take_all at tape (nothing_at_the_end tape at q)) ∙ held

first_read : (r : Request) (rs : List Request) → Fits r → next_record (all_bytes (r ∷ rs)) 0 ≡ Ok (Some r)
first_read r rs fits =
    stands_read (all_bytes (r ∷ rs)) 0 r (fits, ap (λ xs. record_bytes r ++ xs) (sym (drop_at (record_bytes r) (all_bytes rs) (0 + length (record_bytes r)) (omega arith))))

no_other : (rs ss : List Request) → EachFits rs → EachFits ss → all_bytes rs ≡ all_bytes ss → rs ≡ ss
no_other [] [] f g e = refl
no_other [] (s ∷ ss) f g e = absurd (omega (arith, ap length e, two_at_least s, length-append (record_bytes s) (all_bytes ss)))
no_other (r ∷ rs) [] f g e = absurd (omega (arith, ap length e, two_at_least r, length-append (record_bytes r) (all_bytes rs)))
no_other (r ∷ rs) (s ∷ ss) f g e =
    let p = first_read r rs f.0 in
    let q = ap (λ xs. next_record xs 0) e ∙ first_read s ss g.0 in
    let same : r ≡ s = cc in
    let rest : all_bytes rs ≡ all_bytes ss = append_cancel_left (record_bytes r) (all_bytes rs) (all_bytes ss) (e ∙ ap (λ t. record_bytes t ++ all_bytes ss) (sym same)) in
    ap₂ ◌∷◌ same (no_other rs ss f.1 g.1 rest)

pub reading_is_whole : (tape : List ℕ) (at : ℕ) → ReadingIsWhole tape at
reading_is_whole tape at = record {
  begins = (tt, omega arith, refl);
  goes_on = goes_on tape at;
  ends = ends tape at;
  no_other = no_other;
}
