-- The records of a tape are all that it holds.
use Rattle.std.proofs.Common.{◌≡◌, ℕ, zero, suc, ◌+◌, ◌<◌, ◌≤◌, List, [], ◌∷◌, ◌++◌, length, Some, None, Ok, Err, Option, Result, sym, refl, ap, ◌∙◌, subst, append_assoc, append-nil, arith, length-append}
use mathlib.Core.Path.{Path}
use lib.Lanes.{Each1}
use Rattle.fault.specs.declared.Fault.{Fault}
use Rattle.tape.specs.Records.{Request, next_record, record_bytes, all_bytes, Holds}
use Rattle.tape.proofs.Readings.{two_at_least, reading_is_whole}
use Rattle.playback.specs.Lines.{records_from, records, reading_end, RecordsAreWhole}
use Rattle.playback.proofs.Reading.{begins, from_record, from_end, from_fault}

module _ (tape : List ℕ) where
  -- what is answered at a place decides what is read on from it
  by_answer : (at most : ℕ) (P : List Request → Type 0) → P [] → ((r : Request) → next_record tape at ≡ Ok (Some r) → P (r ∷ records_from most tape (at + length (record_bytes r)))) → P (records_from (suc most) tape at)
  by_answer at most P none some = go (next_record tape at) refl
    where
      go : (x : Result (Option Request) Fault) → next_record tape at ≡ x → P (records_from (suc most) tape at)
      go (Ok (Some r)) q = subst P (sym (from_record tape at most r q)) (some r q)
      go (Ok None) q = subst P (sym (from_end tape at (suc most) q)) none
      go (Err f) q = subst P (sym (from_fault tape at (suc most) f q)) none

  module _ (bytes : Each1 (λ n. n < 256) tape) where
    held_on : (most at : ℕ) (rs : List Request) → Holds tape at rs → Holds tape (at + length (all_bytes (records_from most tape at))) (rs ++ records_from most tape at)
    unfolding records_from
    held_on zero at rs h = subst (λ xs. Holds tape (at + 0) xs) (sym (append-nil rs)) (subst (λ k. Holds tape k rs) (omega arith) h)
    held_on (suc most) at rs h =
        by_answer at most (λ xs. Holds tape (at + length (all_bytes xs)) (rs ++ xs))
        (subst (λ xs. Holds tape (at + 0) xs) (sym (append-nil rs)) (subst (λ k. Holds tape k rs) (omega arith) h))
        (λ r q.
        let next = at + length (record_bytes r) in
        let xs = records_from most tape next in
        let place : next + length (all_bytes xs) ≡ at + length (record_bytes r ++ all_bytes xs) = omega (arith, length-append (record_bytes r) (all_bytes xs)) in
        subst (λ k. Holds tape k (rs ++ r ∷ xs)) place
        (subst (λ ys. Holds tape (next + length (all_bytes xs)) ys) (append_assoc rs (r ∷ []) xs)
        (held_on most next (rs ++ r ∷ []) ((reading_is_whole tape at).goes_on bytes rs r h q))))

  -- nothing can be read where the reading ends
  ends_there : (most at : ℕ) → length tape ≤ at + most → (r : Request) → next_record tape (at + length (all_bytes (records_from most tape at))) ≡ Ok (Some r) → ⊥
  unfolding records_from
  ends_there zero at enough r q = let later = begins tape (at + 0) r q in omega arith
  ends_there (suc most) at enough r q = go (next_record tape at) refl (λ k h. ends_there most k h r) q
    where
      here : at + 0 ≡ at
      here = omega arith

      go : (x : Result (Option Request) Fault) → next_record tape at ≡ x → ((k : ℕ) → length tape ≤ k + most → next_record tape (k + length (all_bytes (records_from most tape k))) ≡ Ok (Some r) → ⊥)
          → next_record tape (at + length (all_bytes (records_from (suc most) tape at))) ≡ Ok (Some r) → ⊥
      go (Ok (Some s)) e later q =
          let next = at + length (record_bytes s) in
          let xs = records_from most tape next in
          let rest = from_record tape at most s e in
          let place : at + length (record_bytes s ++ all_bytes xs) ≡ next + length (all_bytes xs) = omega (arith, length-append (record_bytes s) (all_bytes xs)) in
          later next (omega (arith, two_at_least s)) (ap (next_record tape) (sym (ap (λ ys. at + length (all_bytes ys)) rest ∙ place)) ∙ q)
      go (Ok None) e later q =
          let same : Path (Result (Option Request) Fault) (Ok None) (Ok (Some r)) = sym e ∙ ap (next_record tape) (sym (ap (λ ys. at + length (all_bytes ys)) (from_end tape at (suc most) e) ∙ here)) ∙ q in
          cc
      go (Err f) e later q =
          let same : Path (Result (Option Request) Fault) (Err f) (Ok (Some r)) = sym e ∙ ap (next_record tape) (sym (ap (λ ys. at + length (all_bytes ys)) (from_fault tape at (suc most) f e) ∙ here)) ∙ q in
          cc

  pub records_are_whole : Each1 (λ n. n < 256) tape → RecordsAreWhole tape
  records_are_whole bytes =
      let start : 0 + reading_end tape ≡ reading_end tape = omega arith in
      record {
        held = subst (λ k. Holds tape k (records tape)) start (held_on bytes (length tape) 0 [] (reading_is_whole tape 0).begins);
        none_left = λ r q. ends_there (length tape) 0 (omega arith) r (ap (next_record tape) start ∙ q);
      }
