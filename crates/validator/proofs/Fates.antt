-- What becomes of a ticket number in a shift: the first call that is a right check or a cancel of it decides.
use Rattle.std.proofs.Common.{◌≡◌, ℕ, zero, suc, ◌<◌, cond, eqb, List, [], ◌∷◌, ◌++◌, length, get_or, Ok, Err, Result, refl, ap, ◌∙◌, ap₂, arith}
use Rattle.std.proofs.lemmas.Bool.{eq-eqb}
use Rattle.std.proofs.lemmas.Grind.{common_steps}
use Rattle.fault.specs.declared.Fault.{Fault}
use Rattle.field.specs.Fields.{Arithmetic}
use Rattle.field.specs.Coordinates.{Layout}
use Rattle.tag.specs.Bodies.{Opened}
use Rattle.tag.specs.Tickets.{ticket_answer}
use Rattle.validator.specs.Calls.{Call, check, cancel, report}
use Rattle.validator.specs.Shifts.{Right, Quiet, Rode}

pub data Fate : Type 0 where
  untouched : Fate
  rode : ℕ → Fate
  stopped : Fate

abbrev pub first : Fate → Fate → Fate
first untouched f = f
first (rode r) f = rode r
first stopped f = stopped

pub first_end : (f : Fate) → first f untouched ≡ f
first_end untouched = refl
first_end (rode r) = refl
first_end stopped = refl

first_assoc : (f g h : Fate) → first f (first g h) ≡ first (first f g) h
first_assoc untouched g h = refl
first_assoc (rode r) g h = refl
first_assoc stopped g h = refl

-- what a check with that answer for its ticket is to the number n
abbrev pub checked : ℕ → Result Opened Fault → Fate
checked n (Ok o) = cond (eqb o.number n) (rode o.route) untouched
checked n (Err f) = untouched

checked_right : (n r : ℕ) (x : Result Opened Fault) → checked n x ≡ rode r → (text : List ℕ) × (x ≡ Ok (record { number = n; route = r; text = text }))
checked_right n r (Ok o) e =
    let same : (o.number ≡ n) × (o.route ≡ r) = grind (arith, common_steps) in
    (o.text, ap₂ (λ (x y : ℕ). Ok (record { number = x; route = y; text = o.text })) same.0 same.1)
checked_right n r (Err f) e = absurd cc

checked_not_stopped : (n : ℕ) (x : Result Opened Fault) → checked n x ≡ stopped → ⊥
checked_not_stopped n x e = grind (arith, common_steps)

module _ {V : Type 0} (a : Arithmetic V) (l : Layout) (w : ℕ) (k : V) where
  -- what one call is to the number n
  abbrev pub mark_by : ℕ → Call → Fate
  mark_by n (check ticket pads) = checked n (ticket_answer a l w (a.meaning k) pads ticket)
  mark_by n (cancel m) = cond (eqb m n) stopped untouched
  mark_by n (report s) = untouched

  unfoldable pub fate : ℕ → List Call → Fate
  fate n [] = untouched
  fate n (c ∷ cs) = first (mark_by n c) (fate n cs)

  pub fate_more : (n : ℕ) (cs : List Call) (c : Call) → fate n (cs ++ c ∷ []) ≡ first (fate n cs) (mark_by n c)
  unfolding fate
  fate_more n [] c = first_end (mark_by n c)
  fate_more n (x ∷ cs) c = ap (first (mark_by n x)) (fate_more n cs c) ∙ first_assoc (mark_by n x) (fate n cs) (mark_by n c)

  -- a call by which the number rides is a right check of it, and the other way round
  rides_right : (n r : ℕ) (c : Call) → mark_by n c ≡ rode r → Right a l w k c n r
  rides_right n r (check t p) q = checked_right n r (ticket_answer a l w (a.meaning k) p t) q
  rides_right n r (cancel m) q = grind (arith, common_steps)
  rides_right n r (report s) q = cc

  right_rides : (n r : ℕ) (c : Call) → Right a l w k c n r → mark_by n c ≡ rode r
  right_rides n r (check t p) (text, e) = ap (checked n) e ∙ ap (λ b. cond b (rode r) untouched) (eq-eqb n n refl)
  right_rides n r (cancel m) q = absurd q
  right_rides n r (report s) q = absurd q

  -- a call that stops the number is a cancel of it, and the other way round
  stops_cancel : (n : ℕ) (c : Call) → mark_by n c ≡ stopped → c ≡ cancel n
  stops_cancel n (check t p) q = absurd (checked_not_stopped n (ticket_answer a l w (a.meaning k) p t) q)
  stops_cancel n (cancel m) q = let same : m ≡ n = grind (arith, common_steps) in ap cancel same
  stops_cancel n (report s) q = absurd cc

  cancel_stops : (n : ℕ) → mark_by n (cancel n) ≡ stopped
  cancel_stops n = ap (λ b. cond b stopped untouched) (eq-eqb n n refl)

  untouched_quiet : (n : ℕ) (c : Call) → mark_by n c ≡ untouched → Quiet a l w k c n
  untouched_quiet n c q = (
    λ r x. let rides = right_rides n r c x in cc,
    λ x. let stops = ap (mark_by n) x ∙ cancel_stops n in cc,
  )

  quiet_untouched : (n : ℕ) (c : Call) → Quiet a l w k c n → mark_by n c ≡ untouched
  quiet_untouched n c (x, y) = go (mark_by n c) refl
    where
      go : (f : Fate) → mark_by n c ≡ f → f ≡ untouched
      go untouched q = refl
      go (rode r) q = absurd (x r (rides_right n r c q))
      go stopped q = absurd (y (stops_cancel n c q))

  pub fate_rode : (n r : ℕ) (cs : List Call) → fate n cs ≡ rode r → Rode a l w k cs n r
  unfolding fate
  fate_rode n r [] q = absurd cc
  fate_rode n r (c ∷ cs) q = go (mark_by n c) refl q (fate_rode n r cs)
    where
      before : (i : ℕ) → mark_by n c ≡ untouched → ((j : ℕ) → j < i → Quiet a l w k (get_or cs j (report 0)) n) → (j : ℕ) → j < suc i → Quiet a l w k (get_or (c ∷ cs) j (report 0)) n
      before i u rest zero m = untouched_quiet n c u
      before i u rest (suc j) m = rest j (omega arith)

      go : (f : Fate) → mark_by n c ≡ f → first f (fate n cs) ≡ rode r → (fate n cs ≡ rode r → Rode a l w k cs n r) → Rode a l w k (c ∷ cs) n r
      go untouched u p rest = let (i, m, x, y) = rest p in (suc i, omega arith, x, before i u y)
      go (rode s) u p rest = (zero, omega arith, rides_right n r c (u ∙ p), λ j m. absurd (omega arith))
      go stopped u p rest = absurd cc

  pub rode_fate : (n r : ℕ) (cs : List Call) → Rode a l w k cs n r → fate n cs ≡ rode r
  unfolding fate
  rode_fate n r cs (i, m, x, y) = go i cs m x y
    where
      go : (i : ℕ) (cs : List Call) → i < length cs → Right a l w k (get_or cs i (report 0)) n r → ((j : ℕ) → j < i → Quiet a l w k (get_or cs j (report 0)) n) → fate n cs ≡ rode r
      go i [] m x y = absurd (omega arith)
      go zero (c ∷ cs) m x y = rw (right_rides n r c x) refl
      go (suc i) (c ∷ cs) m x y = rw (quiet_untouched n c (y 0 (omega arith))) (go i cs (omega arith) x (λ j z. y (suc j) (omega arith)))
