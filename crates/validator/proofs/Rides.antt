-- The marks and counts of a validator are those of the calls that led to it, so that a report answers the rides.
use Rattle.std.proofs.Common.{◌≡◌, ℕ, suc, ◌+◌, ◌<◌, ◌≤◌, min, Bool, true, false, cond, eqb, ltb, ◌⊎◌, List, [], ◌∷◌, ◌++◌, length, get_or, set, Ok, Err, Result, sym, refl, ap, ◌∙◌, subst, inl, inr, arith, length-set}
use lib.ListN.{length-replicate}
use Rattle.std.proofs.lemmas.List.{get_or-set_same, get_or-set_other, get_or-replicate}
use Rattle.std.proofs.lemmas.Bool.{cases_eq, eqb-true, eq-eqb, ne_eqb, ltb-true, ltb-false, lt-ltb}
use Rattle.fault.specs.declared.Fault.{Fault}
use Rattle.fault.specs.declared.Part.TheVariants as part
use Rattle.fault.specs.Faults.{fault}
use Rattle.field.specs.Fields.{Arithmetic}
use Rattle.field.specs.Coordinates.{Layout}
use Rattle.tag.specs.Bodies.{Opened}
use Rattle.tag.specs.Tickets.{then, ticket_answer}
use Rattle.validator.specs.declared.Mark.{Mark}
use Rattle.validator.specs.declared.Mark.TheVariants.{Blank, Ridden, Cancelled}
use Rattle.validator.specs.declared.Event.TheVariants.{Check, Cancel}
use Rattle.validator.specs.declared.Validator.{Validator}
use Rattle.validator.specs.Calls.{Call, check, cancel, report, next_mark_of, blank as blank_validator, marked, ridden, ticket_number_of, number_answer, report_answer, after_check, after_cancel, after}
use Rattle.validator.specs.Shifts.{Rides, Reached, begun, called, ReportsItsRides}
use Rattle.validator.proofs.Numbers.{number_known, right_number}
use Rattle.validator.proofs.Counting.{passing, passing_same, passing_none, passing_at_most, passing_more, passing_counts}
use Rattle.validator.proofs.Fates.{Fate, untouched, rode, stopped, first, first_end, checked, mark_by, fate, fate_more, fate_rode, rode_fate}

-- the mark of a number that has had the fate
abbrev pub mark_of : Fate → Mark
mark_of untouched = Blank
mark_of (rode r) = Ridden
mark_of stopped = Cancelled

abbrev pub is_ride : ℕ → Fate → Bool
is_ride r untouched = false
is_ride r (rode s) = eqb s r
is_ride r stopped = false

was_untouched : (f : Fate) → mark_of f ≡ Blank → f ≡ untouched
was_untouched untouched e = refl
was_untouched (rode r) e = cc
was_untouched stopped e = cc

-- a number that has ridden or is cancelled stays so
settled : (f g : Fate) → (mark_of f ≡ Blank → ⊥) → first f g ≡ f
settled untouched g d = absurd (d refl)
settled (rode r) g d = refl
settled stopped g d = refl

not_blank : (m : Mark) → (m ≡ Ridden) ⊎ (m ≡ Cancelled) → m ≡ Blank → ⊥
not_blank m (inl x) y = cc
not_blank m (inr x) y = cc

one_more : (c t : ℕ) → c ≡ t → t ≤ 1024 → min (c + 1) 65535 ≡ suc t
one_more c t x y = omega arith

module _ {V : Type 0} (a : Arithmetic V) (l : Layout) (w : ℕ) (k : V) where
  -- the rides of a route by the fates of all numbers
  abbrev rides_by : ℕ → List Call → ℕ
  rides_by r cs = passing (λ n. is_ride r (fate a l w k n cs)) 1024

  pub record Fits (cs : List Call) (v : Validator V) : Type 0 where
    pub key : v.key ≡ k
    pub marks : length v.marks ≡ 1024
    pub counts : length v.counts ≡ 64
    pub mark : (n : ℕ) → n < 1024 → get_or v.marks n Blank ≡ mark_of (fate a l w k n cs)
    pub count : (r : ℕ) → r < 64 → get_or v.counts r 0 ≡ passing (λ n. is_ride r (fate a l w k n cs)) 1024

  fits_blank : Fits [] (blank_validator k)
  unfolding fate
  fits_blank =
      record {
        key = refl;
        marks = length-replicate 1024 Blank;
        counts = length-replicate {A = ℕ} 64 0;
        mark = λ n m. get_or-replicate 1024 n Blank Blank m;
        count = λ r m. get_or-replicate 64 r 0 0 m ∙ sym (passing_none _ 1024 (λ n. refl));
      }

  module _ (cs : List Call) (v : Validator V) (f : Fits cs v) (c : Call) where
    -- the call changes no number's fate
    kept : ((n : ℕ) → n < 1024 → first (fate a l w k n cs) (mark_by a l w k n c) ≡ fate a l w k n cs) → Fits (cs ++ c ∷ []) v
    kept same =
        let now : (n : ℕ) → n < 1024 → fate a l w k n cs ≡ fate a l w k n (cs ++ c ∷ []) = λ n m. sym (fate_more a l w k n cs c ∙ same n m) in
        record {
          key = f.key;
          marks = f.marks;
          counts = f.counts;
          mark = λ n m. f.mark n m ∙ ap mark_of (now n m);
          count = λ r m. f.count r m ∙ passing_same _ _ 1024 (λ n o. ap (is_ride r) (now n o));
        }

    -- a call that touches no number
    kept_untouched : ((n : ℕ) → mark_by a l w k n c ≡ untouched) → Fits (cs ++ c ∷ []) v
    kept_untouched u = kept (λ n m. ap (first (fate a l w k n cs)) (u n) ∙ first_end _)

    module _ (n : ℕ) (others : (j : ℕ) → (j ≡ n → ⊥) → mark_by a l w k j c ≡ untouched) where
      -- a call that could touch only a number that has its mark
      kept_marked : (get_or v.marks n Blank ≡ Blank → ⊥) → Fits (cs ++ c ∷ []) v
      kept_marked d = kept (λ j m. go j m (cases_eq j n))
        where
          go : (j : ℕ) → j < 1024 → (j ≡ n) ⊎ (j ≡ n → ⊥) → first (fate a l w k j cs) (mark_by a l w k j c) ≡ fate a l w k j cs
          go j m (inl x) = settled _ _ (λ y. d (ap (λ i. get_or v.marks i Blank) (sym x) ∙ f.mark j m ∙ y))
          go j m (inr y) = ap (first (fate a l w k j cs)) (others j y) ∙ first_end _

      module _ (less : n < 1024) (b : get_or v.marks n Blank ≡ Blank) where
        free : fate a l w k n cs ≡ untouched
        free = was_untouched _ (sym (f.mark n less) ∙ b)

        here : (g : Fate) → mark_by a l w k n c ≡ g → fate a l w k n (cs ++ c ∷ []) ≡ g
        here g q = let x = fate_more a l w k n cs c in let y = free in rw (x, y) q

        there : (j : ℕ) → (j ≡ n → ⊥) → fate a l w k j (cs ++ c ∷ []) ≡ fate a l w k j cs
        there j d = let x = fate_more a l w k j cs c in let y = others j d in rw (x, y) (first_end _)

        -- the marks after it
        set_mark : (g : Fate) → mark_by a l w k n c ≡ g → (j : ℕ) → j < 1024 → get_or (set v.marks n (mark_of g)) j Blank ≡ mark_of (fate a l w k j (cs ++ c ∷ []))
        set_mark g q j m = go (cases_eq j n)
          where
            go : (j ≡ n) ⊎ (j ≡ n → ⊥) → get_or (set v.marks n (mark_of g)) j Blank ≡ mark_of (fate a l w k j (cs ++ c ∷ []))
            go (inl x) =
                let P : ℕ → Type 0 = λ i. get_or (set v.marks n (mark_of g)) i Blank ≡ mark_of (fate a l w k i (cs ++ c ∷ [])) in
                let in_range : n < length v.marks = rw f.marks less in
                subst P (sym x) (get_or-set_same v.marks n (mark_of g) Blank in_range ∙ ap mark_of (sym (here g q)))
            go (inr d) = get_or-set_other v.marks n j (mark_of g) Blank d ∙ f.mark j m ∙ ap mark_of (sym (there j d))

        -- the rides of a route that the call does not name
        same_rides : (g : Fate) → mark_by a l w k n c ≡ g → (s : ℕ) → is_ride s g ≡ false → rides_by s cs ≡ rides_by s (cs ++ c ∷ [])
        same_rides g q s z = passing_same _ _ 1024 (λ i m. go i (cases_eq i n))
          where
            go : (i : ℕ) → (i ≡ n) ⊎ (i ≡ n → ⊥) → is_ride s (fate a l w k i cs) ≡ is_ride s (fate a l w k i (cs ++ c ∷ []))
            go i (inl x) =
                let P : ℕ → Type 0 = λ i. is_ride s (fate a l w k i cs) ≡ is_ride s (fate a l w k i (cs ++ c ∷ [])) in
                subst P (sym x) (ap (is_ride s) free ∙ sym (ap (is_ride s) (here g q) ∙ z))
            go i (inr d) = ap (is_ride s) (sym (there i d))

        stops : mark_by a l w k n c ≡ stopped → Fits (cs ++ c ∷ []) (marked v n Cancelled)
        stops q =
            record {
              key = f.key;
              marks = length-set v.marks n Cancelled ∙ f.marks;
              counts = f.counts;
              mark = set_mark stopped q;
              count = λ r m. f.count r m ∙ same_rides stopped q r refl;
            }

        rides : (r : ℕ) → r < 64 → mark_by a l w k n c ≡ rode r → Fits (cs ++ c ∷ []) (ridden v n r)
        rides r m q =
            record {
              key = f.key;
              marks = length-set v.marks n Ridden ∙ f.marks;
              counts = length-set v.counts r _ ∙ f.counts;
              mark = set_mark (rode r) q;
              count = λ s o. go s o (cases_eq s r);
            }
          where
            more_by_one : rides_by r (cs ++ c ∷ []) ≡ suc (rides_by r cs)
            more_by_one =
                passing_more _ _ 1024 n less (ap (is_ride r) free) (ap (is_ride r) (here (rode r) q) ∙ eq-eqb r r refl) (λ j d. ap (is_ride r) (sym (there j d)))

            go : (s : ℕ) → s < 64 → (s ≡ r) ⊎ (s ≡ r → ⊥) → get_or (set v.counts r (min (get_or v.counts r 0 + 1) 65535)) s 0 ≡ rides_by s (cs ++ c ∷ [])
            go s o (inl x) =
                let P : ℕ → Type 0 = λ s. get_or (set v.counts r (min (get_or v.counts r 0 + 1) 65535)) s 0 ≡ rides_by s (cs ++ c ∷ []) in
                let in_range : r < length v.counts = rw f.counts m in
                subst P (sym x) (get_or-set_same v.counts r _ 0 in_range ∙ one_more _ _ (f.count r m) (passing_at_most _ 1024) ∙ sym more_by_one)
            go s o (inr d) =
                get_or-set_other v.counts r s _ 0 d ∙ f.count s o ∙ same_rides (rode r) q s (ne_eqb r s (λ x. d (sym x)))

  module _ (cs : List Call) (v : Validator V) (f : Fits cs v) (t p : List ℕ) where
    abbrev of_ticket : Result Opened Fault
    of_ticket = ticket_answer a l w (a.meaning k) p t

    -- a check touches no other number than its ticket's
    elsewhere : (n : ℕ) → number_answer a l w t p ≡ Ok n → (j : ℕ) → (j ≡ n → ⊥) → mark_by a l w k j (check t p) ≡ untouched
    elsewhere n q j d = go of_ticket refl
      where
        go : (x : Result Opened Fault) → of_ticket ≡ x → checked j x ≡ untouched
        go (Ok o) e =
            let own = (right_number a l w t p (a.meaning k) o e).0 in
            let same : o.number ≡ n = cc in
            ap (λ b. cond b (rode o.route) untouched) (ne_eqb o.number j (λ x. d (sym x ∙ same)))
        go (Err y) e = refl

    nowhere : (x : Fault) → number_answer a l w t p ≡ Err x → (j : ℕ) → mark_by a l w k j (check t p) ≡ untouched
    nowhere x q j = go of_ticket refl
      where
        go : (y : Result Opened Fault) → of_ticket ≡ y → checked j y ≡ untouched
        go (Ok o) e = let known = (right_number a l w t p (a.meaning k) o e).0 in cc
        go (Err y) e = refl

    by_ticket : (n : ℕ) → number_answer a l w t p ≡ Ok n → get_or v.marks n Blank ≡ Blank → (x : Result Opened Fault) → of_ticket ≡ x → Fits (cs ++ check t p ∷ []) (after_check v n (then x (λ o. Ok o.route)))
    by_ticket n q b (Ok o) e =
        let right = right_number a l w t p (a.meaning k) o e in
        let own = right.0 in
        let same : o.number ≡ n = cc in
        rides cs v f (check t p) n (elsewhere n q) (number_known a l w t p n q).1 b o.route right.1
        (ap (checked n) e ∙ ap (λ b. cond b (rode o.route) untouched) (eq-eqb o.number n same))
    by_ticket n q b (Err y) e = kept_untouched cs v f (check t p) (λ j. ap (checked j) e)

    by_mark : (n : ℕ) → number_answer a l w t p ≡ Ok n → (m : Mark) → get_or v.marks n Blank ≡ m → Fits (cs ++ check t p ∷ []) (after_check v n (then (next_mark_of m Check) (λ _. then (ticket_answer a l w (a.meaning v.key) p t) (λ o. Ok o.route))))
    by_mark n q Blank b =
        subst (λ (x : V). Fits (cs ++ check t p ∷ []) (after_check v n (then (ticket_answer a l w (a.meaning x) p t) (λ o. Ok o.route)))) (sym f.key) (by_ticket n q b of_ticket refl)
    by_mark n q Ridden b = kept_marked cs v f (check t p) n (elsewhere n q) (not_blank _ (inl b))
    by_mark n q Cancelled b = kept_marked cs v f (check t p) n (elsewhere n q) (not_blank _ (inr b))

    by_number : (x : Result ℕ Fault) → number_answer a l w t p ≡ x → Fits (cs ++ check t p ∷ []) (after_check v (ticket_number_of a l w t) (then x (λ n. then (next_mark_of (get_or v.marks n Blank) Check) (λ _. then (ticket_answer a l w (a.meaning v.key) p t) (λ o. Ok o.route)))))
    by_number (Ok n) q =
        subst (λ m. Fits (cs ++ check t p ∷ []) (after_check v m (then (next_mark_of (get_or v.marks n Blank) Check) (λ _. then (ticket_answer a l w (a.meaning v.key) p t) (λ o. Ok o.route))))) (sym (number_known a l w t p n q).0)
        (by_mark n q (get_or v.marks n Blank) refl)
    by_number (Err y) q = kept_untouched cs v f (check t p) (nowhere y q)

  module _ (cs : List Call) (v : Validator V) (f : Fits cs v) (n : ℕ) where
    not_cancelled : (j : ℕ) → (j ≡ n → ⊥) → mark_by a l w k j (cancel n) ≡ untouched
    not_cancelled j d = ap (λ b. cond b stopped untouched) (ne_eqb n j (λ x. d (sym x)))

    cancel_by_mark : n < 1024 → (m : Mark) → get_or v.marks n Blank ≡ m → Fits (cs ++ cancel n ∷ []) (after_cancel v n (next_mark_of m Cancel))
    cancel_by_mark less Blank b = stops cs v f (cancel n) n not_cancelled less b (ap (λ b. cond b stopped untouched) (eq-eqb n n refl))
    cancel_by_mark less Ridden b = kept_marked cs v f (cancel n) n not_cancelled (not_blank _ (inl b))
    cancel_by_mark less Cancelled b = kept_marked cs v f (cancel n) n not_cancelled (not_blank _ (inr b))

    cancel_by_size : (b : Bool) → ltb n 1024 ≡ b → Fits (cs ++ cancel n ∷ []) (after_cancel v n (cond b (next_mark_of (get_or v.marks n Blank) Cancel) (Err (fault 8 part.Call 0))))
    cancel_by_size true q = cancel_by_mark (ltb-true _ _ q) (get_or v.marks n Blank) refl
    cancel_by_size false q = kept cs v f (cancel n) (λ j m. ap (first (fate a l w k j cs)) (not_cancelled j (λ x. omega (arith, ltb-false _ _ q))) ∙ first_end _)

  fits_after : (cs : List Call) (v : Validator V) → Fits cs v → (c : Call) → Fits (cs ++ c ∷ []) (after a l w v c)
  fits_after cs v f (check t p) = by_number cs v f t p (number_answer a l w t p) refl
  fits_after cs v f (cancel n) = cancel_by_size cs v f n (ltb n 1024) refl
  fits_after cs v f (report s) = kept_untouched cs v f (report s) (λ j. refl)

  fits_reached : {cs : List Call} {v : Validator V} → Reached a l w k cs v → Fits cs v
  fits_reached begun = fits_blank
  fits_reached (called c r) = fits_after _ _ (fits_reached r) c

  counts_rides : {cs : List Call} {v : Validator V} → Fits cs v → (r : ℕ) → r < 64 → Rides a l w k cs r (get_or v.counts r 0)
  counts_rides {cs} {v} f r m =
      rw (f.count r m) (passing_counts _ _ (λ n q. fate_rode a l w k n r cs (was_ride _ q)) (λ n q x. no_ride _ (ap (is_ride r) (rode_fate a l w k n r cs x)) q) 1024)
    where
      was_ride : (g : Fate) → is_ride r g ≡ true → g ≡ rode r
      was_ride untouched q = absurd cc
      was_ride (rode s) q = ap rode (eqb-true s r q)
      was_ride stopped q = absurd cc

      no_ride : (b : Bool) → b ≡ eqb r r → b ≡ false → ⊥
      no_ride b x y = let same = eq-eqb r r refl in cc

  pub reached_rides : (v : Validator V) (r : ℕ) (cs : List Call) → Reached a l w k cs v → r < 64 → (c : ℕ) × (report_answer v r ≡ Ok c) × Rides a l w k cs r c
  reached_rides v r cs reached m = (get_or v.counts r 0, ap (λ b. cond b (Ok (get_or v.counts r 0)) (Err (fault 17 part.Call 0))) (lt-ltb r 64 m), counts_rides (fits_reached reached) r m)

-- the answer that is due to a report is the number of rides
pub reports_its_rides : {V : Type 0} (a : Arithmetic V) (l : Layout) (w : ℕ) (v : Validator V) (r : ℕ) (answer : Result ℕ Fault) → answer ≡ report_answer v r → ReportsItsRides a l w v r answer
reports_its_rides a l w v r answer q = subst (ReportsItsRides a l w v r) (sym q) (λ k cs reached m. reached_rides a l w k v r cs reached m)
