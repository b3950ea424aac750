-- What is read at a place is what stands there.
use Rattle.std.proofs.Common.{◌≡◌, ℕ, suc, ◌+◌, ◌-◌, ◌*◌, ◌/◌, ◌%◌, ◌<◌, ◌≤◌, Bool, true, false, cond, eqb, ltb, leb, List, ◌∷◌, ◌++◌, length, get_or, take, drop, Some, None, Ok, Err, Option, Result, sym, refl, ap, ◌∙◌, subst, ap₂, arith, length-append, length-drop, take-append-drop, length-take-le, get_or-drop, drop-drop, take_at}
use lib.Lanes.{Each1}
use Rattle.std.proofs.lemmas.List.{drop_more}
use Rattle.std.proofs.lemmas.Simd.{Each1-get_or}
use Rattle.std.proofs.lemmas.Bool.{ltb-true, ltb-false, leb-false, eqb-true, lt-leb, le-ltb, lt-ltb}
use Rattle.fault.specs.declared.Fault.{Fault}
use Rattle.fault.specs.declared.Part.TheVariants.{Tape}
use Rattle.fault.specs.Faults.{fault}
use Rattle.tape.specs.Records.{Request, check, cancel, report, head, by_kind, next_record, two_bytes, Stands, ReadsWhatStands}

module _ (tape : List ℕ) (at : ℕ) (bytes : Each1 (λ n. n < 256) tape) where
  -- the two bytes at a place, as the head that they are
  two_stand : at + 2 ≤ length tape → drop at tape ≡ two_bytes (head tape at) ++ drop (at + 2) tape
  two_stand h =
      let low = Each1-get_or (λ n. n < 256) tape (at + 1) 0 (omega arith) bytes in
      let first : get_or tape at 0 ≡ head tape at / 256 = omega arith in
      let second : get_or tape (at + 1) 0 ≡ head tape at % 256 = omega arith in
      let next : drop (at + 1 + 1) tape ≡ drop (at + 2) tape = ap (λ k. drop k tape) (omega arith) in
      drop_more tape at 0 (omega arith) ∙ ap₂ ◌∷◌ first (drop_more tape (at + 1) 0 (omega arith) ∙ ap₂ ◌∷◌ second next)

  -- a head alone
  head_stands : (n : ℕ) → at + 2 ≤ length tape → head tape at ≡ n → drop at tape ≡ two_bytes n ++ drop (at + 2) tape
  head_stands n h e = two_stand h ∙ ap (λ m. two_bytes m ++ drop (at + 2) tape) e

  -- a ticket that is there whole, behind its head
  ticket_stands : (n : ℕ) → at + 2 + n ≤ length tape → head tape at ≡ 16384 + n → n < 16384 → Stands tape at (check (take n (drop (at + 2) tape)))
  ticket_stands n h e small =
      let ticket = take n (drop (at + 2) tape) in
      let size : length ticket ≡ n = length-take-le n (drop (at + 2) tape) (omega (arith, length-drop (at + 2) tape)) in
      let rest : drop (at + 2) tape ≡ ticket ++ drop (at + suc (suc (length ticket))) tape =
      sym (take-append-drop n (drop (at + 2) tape)) ∙ ap (λ ys. ticket ++ ys) (drop-drop n (at + 2) tape ∙ ap (λ k. drop k tape) (omega arith)) in
      let first = head_stands (16384 + length ticket) (omega arith) (e ∙ ap (λ k. 16384 + k) (sym size)) in
      (omega arith, first ∙ ap (λ ys. two_bytes (16384 + length ticket) ++ ys) rest)

  by_kind_stands : (k n : ℕ) → at + 2 ≤ length tape → head tape at ≡ k * 16384 + n → n < 16384 → (r : Request) → by_kind tape at k n ≡ Ok (Some r) → Stands tape at r
  by_kind_stands k n h e small r = go (eqb k 1) (eqb k 2) (eqb k 3) (ltb (length tape - at - 2) n) (ltb n 1024) (ltb n 64) refl refl refl refl refl refl
    where
      go : (a b c d f g : Bool) → eqb k 1 ≡ a → eqb k 2 ≡ b → eqb k 3 ≡ c → ltb (length tape - at - 2) n ≡ d → ltb n 1024 ≡ f → ltb n 64 ≡ g
          → ◌≡◌ {A = Result (Option Request) Fault}
          (cond a (cond d (Err (fault 15 Tape at)) (Ok (Some (check (take n (drop (at + 2) tape))))))
          (cond b (cond f (Ok (Some (cancel n))) (Err (fault 16 Tape at)))
          (cond c (cond g (Ok (Some (report n))) (Err (fault 16 Tape at))) (Err (fault 16 Tape at)))))
          (Ok (Some r))
          → Stands tape at r
      go true b c true f g p1 p2 p3 p4 p5 p6 q = cc
      go true b c false f g p1 p2 p3 p4 p5 p6 q =
          let one = eqb-true k 1 p1 in
          let whole = ltb-false _ _ p4 in
          let same : check (take n (drop (at + 2) tape)) ≡ r = cc in
          subst (Stands tape at) same (ticket_stands n (omega arith) (omega arith) small)
      go false true c d true g p1 p2 p3 p4 p5 p6 q =
          let two = eqb-true k 2 p2 in
          let same : cancel n ≡ r = cc in
          subst (Stands tape at) same (ltb-true _ _ p5, head_stands (32768 + n) h (omega arith))
      go false true c d false g p1 p2 p3 p4 p5 p6 q = cc
      go false false true d f true p1 p2 p3 p4 p5 p6 q =
          let three = eqb-true k 3 p3 in
          let same : report n ≡ r = cc in
          subst (Stands tape at) same (ltb-true _ _ p6, head_stands (49152 + n) h (omega arith))
      go false false true d f false p1 p2 p3 p4 p5 p6 q = cc
      go false false false d f g p1 p2 p3 p4 p5 p6 q = cc

  pub read_stands : (r : Request) → next_record tape at ≡ Ok (Some r) → Stands tape at r
  read_stands r = go (leb (length tape) at) (ltb (length tape - at) 2) refl refl
    where
      go : (a b : Bool) → leb (length tape) at ≡ a → ltb (length tape - at) 2 ≡ b
          → ◌≡◌ {A = Result (Option Request) Fault}
          (cond a (Ok None) (cond b (Err (fault 15 Tape at)) (by_kind tape at (head tape at / 16384) (head tape at % 16384)))) (Ok (Some r))
          → Stands tape at r
      go true b p1 p2 q = cc
      go false true p1 p2 q = cc
      go false false p1 p2 q =
          let before = leb-false _ _ p1 in
          let both = ltb-false _ _ p2 in
          by_kind_stands (head tape at / 16384) (head tape at % 16384) (omega arith) (omega arith) (omega arith) r q

module _ (tape : List ℕ) (at : ℕ) where
  -- The head and the rest of bytes that stand at a place.
  module _ (h : ℕ) (rest : List ℕ) (small : h < 65536) (stands : drop at tape ≡ two_bytes h ++ rest) where
    room : length tape ≡ at + 2 + length rest
    room = omega (arith, length-drop at tape, ap length stands)

    head_is : head tape at ≡ h
    head_is =
        let first : get_or tape (at + 0) 0 ≡ h / 256 = sym (get_or-drop at tape 0 0) ∙ ap (λ xs. get_or xs 0 0) stands in
        let second : get_or tape (at + 1) 0 ≡ h % 256 = sym (get_or-drop at tape 1 0) ∙ ap (λ xs. get_or xs 1 0) stands in
        let zeroth : get_or tape at 0 ≡ h / 256 = ap (λ k. get_or tape k 0) (omega arith) ∙ first in
        omega arith

    behind : drop (at + 2) tape ≡ rest
    behind = sym (drop-drop 2 at tape) ∙ ap (drop 2) stands

    by_head : next_record tape at ≡ by_kind tape at (h / 16384) (h % 16384)
    by_head =
        ap (λ b. cond b (Ok None) (cond (ltb (length tape - at) 2) (Err (fault 15 Tape at)) (by_kind tape at (head tape at / 16384) (head tape at % 16384)))) (lt-leb (length tape) at (omega (arith, room)))
        ∙ ap (λ b. cond b (Err (fault 15 Tape at)) (by_kind tape at (head tape at / 16384) (head tape at % 16384))) (le-ltb (length tape - at) 2 (omega (arith, room)))
        ∙ ap (λ m. by_kind tape at (m / 16384) (m % 16384)) head_is

  pub stands_read : (r : Request) → Stands tape at r → next_record tape at ≡ Ok (Some r)
  stands_read (check ticket) (fits, e) =
      let n = length ticket in
      let rest = drop (at + suc (suc n)) tape in
      let whole = room (16384 + n) (ticket ++ rest) (omega arith) e in
      let there = behind (16384 + n) (ticket ++ rest) (omega arith) e in
      let kind : (16384 + n) / 16384 ≡ 1 = omega arith in
      let size : (16384 + n) % 16384 ≡ n = omega arith in
      by_head (16384 + n) (ticket ++ rest) (omega arith) e
      ∙ ap₂ (by_kind tape at) kind size
      ∙ ap (λ b. cond b (Err (fault 15 Tape at)) (Ok (Some (check (take n (drop (at + 2) tape)))))) (le-ltb (length tape - at - 2) n (omega (arith, length-append ticket rest)))
      ∙ ap (λ xs. Ok (Some (check xs))) (ap (take n) there ∙ take_at ticket rest n refl)
  stands_read (cancel n) (fits, e) =
      let kind : (32768 + n) / 16384 ≡ 2 = omega arith in
      let number : (32768 + n) % 16384 ≡ n = omega arith in
      by_head (32768 + n) (drop (at + 2) tape) (omega arith) e
      ∙ ap₂ (by_kind tape at) kind number
      ∙ ap (λ b. cond b (Ok (Some (cancel n))) (Err (fault 16 Tape at))) (lt-ltb n 1024 fits)
  stands_read (report n) (fits, e) =
      let kind : (49152 + n) / 16384 ≡ 3 = omega arith in
      let number : (49152 + n) % 16384 ≡ n = omega arith in
      by_head (49152 + n) (drop (at + 2) tape) (omega arith) e
      ∙ ap₂ (by_kind tape at) kind number
      ∙ ap (λ b. cond b (Ok (Some (report n))) (Err (fault 16 Tape at))) (lt-ltb n 64 fits)

pub reads_what_stands : (tape : List ℕ) (at : ℕ) → ReadsWhatStands tape at
reads_what_stands tape at bytes r = (read_stands tape at bytes r, stands_read tape at r)
