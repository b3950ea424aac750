-- What every issuer keeps that calls lead to.
use Rattle.std.proofs.Common.{◌≡◌, ℕ, ◌+◌, ◌<◌, ◌≤◌, Bool, true, false, cond, ltb, ◌≢◌, List, [], ◌∷◌, ◌++◌, length, get_or, set, replicate, Ok, Err, Result, sym, refl, ap, ◌∙◌, subst, ⊎_elim, arith}
use Rattle.std.specs.List.{range_with_len, All}
use Rattle.std.proofs.lemmas.List.FromFn.{map-range_with_len_more}
use Rattle.std.proofs.lemmas.List.Elements.{All-nil, All-push, All-weaker}
use Rattle.std.proofs.lemmas.List.Quantifiers.{all_pairs_push}
use Rattle.std.proofs.lemmas.List.{append-nil, length_push, length-set, length-replicate, get_or-replicate, get_or_past, get_or-set_same, get_or-set_other, map-id}
use Rattle.std.proofs.lemmas.List.Sums.{prefix_len_is}
use Rattle.std.proofs.lemmas.Bool.{cases_eq, cases_lt, ltb-true}
use Rattle.std.proofs.lemmas.Grind.{common_steps}
use Rattle.fault.specs.declared.Fault.{Fault}
use Rattle.fault.specs.declared.Part.TheVariants.{Call}
use Rattle.fault.specs.Faults.{fault}
use Rattle.field.specs.Fields.{Arithmetic}
use Rattle.field.specs.Coordinates.{Layout}
use Rattle.coding.specs.Encoding.{encoded_size_of}
use Rattle.tag.specs.Tickets.{then, pads_answer}
use Rattle.issuer.specs.declared.marks.Mark.{Mark}
use Rattle.issuer.specs.declared.marks.Mark.TheVariants.{Undrawn, Drawn, Sealed, Void}
use Rattle.issuer.specs.declared.stubs.Stub.{Stub}
use Rattle.issuer.specs.declared.issuers.Issuer.{Issuer}
use Rattle.issuer.specs.Marks.{was_drawn, is_drawn, lowest_undrawn}
use Rattle.issuer.specs.Calls.{fresh, marked, is_in_hand, drawn_by, mark_by, draw_answer, seal_answer, pad_answer_for}
use Rattle.issuer.specs.Histories.{number_given, number_sealed, Different, Reached, new, draw, seal, void, NumberedInOrder, SealedOnce}

-- the numbers from 0 up with the next one are such numbers again
counting_next : (n : ℕ) → range_with_len 0 n ++ n ∷ [] ≡ range_with_len 0 (n + 1)
counting_next n = ap (λ xs. xs ++ n ∷ []) (sym (map-id (range_with_len 0 n))) ∙ sym (map-range_with_len_more (λ x. x) 0 n n (omega arith)) ∙ map-id (range_with_len 0 (n + 1))

-- pads that are counted are 1024 at most
pads_within : (T n N : ℕ) → pads_answer T n ≡ Ok N → N ≤ 1024
pads_within T n N h = grind (arith, common_steps)

is_drawn_only : (m : Mark) → is_drawn m ≡ true → m ≡ Drawn
is_drawn_only Undrawn e = cc
is_drawn_only Drawn e = refl
is_drawn_only Sealed e = cc
is_drawn_only Void e = cc

module _ {V : Type 0} where
  -- the first numbers are drawn, one for each stub given, and no others; what was sealed is marked so
  record Kept (given sealed : List ℕ) (issuer : Issuer V) : Type 0 where
    whole : length issuer.marks ≡ 1024
    numbered : given ≡ range_with_len 0 (length given)
    below : (n : ℕ) → n < length given → was_drawn (get_or issuer.marks n Undrawn) ≡ true
    above : (n : ℕ) → length given ≤ n → was_drawn (get_or issuer.marks n Undrawn) ≡ false
    marks : All (λ n. get_or issuer.marks n Undrawn ≡ Sealed) sealed
    different : Different sealed

  in_hand_drawn : (issuer : Issuer V) (n : ℕ) → is_in_hand issuer n ≡ true → (n < 1024) × (get_or issuer.marks n Undrawn ≡ Drawn)
  in_hand_drawn issuer n h = grind (arith, common_steps, is_drawn_only)

  module _ (given sealed : List ℕ) (issuer : Issuer V) (kept : Kept given sealed issuer) (n : ℕ) where
    abbrev at : ℕ → Mark
    at k = get_or issuer.marks k Undrawn

    other : (m : Mark) (k : ℕ) → (k ≡ n → ⊥) → get_or (set issuer.marks n m) k Undrawn ≡ at k
    other m k ne = get_or-set_other issuer.marks n k m Undrawn ne

    here : (m : Mark) → n < 1024 → get_or (set issuer.marks n m) n Undrawn ≡ m
    here m h = get_or-set_same issuer.marks n m Undrawn (omega (arith, kept.whole))

    -- no number with another mark was sealed
    not_sealed : at n ≢ Sealed → All (λ k. k ≢ n) sealed
    not_sealed ne = All-weaker (λ k. at k ≡ Sealed) (λ k. k ≢ n) (λ k s e. ne (ap at (sym e) ∙ s)) sealed kept.marks

    still_sealed : (m : Mark) → at n ≢ Sealed → All (λ k. get_or (set issuer.marks n m) k Undrawn ≡ Sealed) sealed
    still_sealed m ne = All-weaker (λ k. at k ≡ Sealed) _ (λ k s. other m k (λ e. ne (ap at (sym e) ∙ s)) ∙ s) sealed kept.marks

    -- a number in hand gets another mark
    settled : is_in_hand issuer n ≡ true → (m : Mark) → was_drawn m ≡ true → Kept given sealed (marked issuer n m)
    settled h m d =
        let was = in_hand_drawn issuer n h in
        let ne : at n ≢ Sealed = λ e. let s = was.1 in cc in
        record {
          whole = length-set issuer.marks n m ∙ kept.whole;
          numbered = kept.numbered;
          below = λ k lt. ⊎_elim (λ e. ap (λ j. was_drawn (get_or (set issuer.marks n m) j Undrawn)) e ∙ ap was_drawn (here m was.0) ∙ d) (λ ne. ap was_drawn (other m k ne) ∙ kept.below k lt) (cases_eq k n);
          above = λ k le. ap was_drawn (other m k (λ e. let x = kept.above k le in let y : was_drawn (at k) ≡ true = ap (λ j. was_drawn (at j)) e ∙ ap was_drawn was.1 in cc)) ∙ kept.above k le;
          marks = still_sealed m ne;
          different = kept.different;
        }

    -- a number in hand is sealed
    sealed_now : is_in_hand issuer n ≡ true → Kept given (sealed ++ n ∷ []) (marked issuer n Sealed)
    sealed_now h =
        let was = in_hand_drawn issuer n h in
        let s = settled h Sealed refl in
        let ne : at n ≢ Sealed = λ e. let s = was.1 in cc in
        record {
          whole = s.whole;
          numbered = s.numbered;
          below = s.below;
          above = s.above;
          marks = All-push (λ k. get_or (set issuer.marks n Sealed) k Undrawn ≡ Sealed) sealed n s.marks (here Sealed was.0);
          different = all_pairs_push (λ x y. x ≢ y) sealed n kept.different (not_sealed ne);
        }

    -- a number is drawn
    drawn_now : n < 1024 → n ≡ lowest_undrawn issuer.marks → Kept (given ++ n ∷ []) sealed (marked issuer n Drawn)
    drawn_now lt low =
        let k = length given in
        let m = length issuer.marks in
        let past : get_or issuer.marks m Undrawn ≡ Undrawn = get_or_past issuer.marks m Undrawn (omega arith) in
        let within : k ≤ m = ⊎_elim (λ l. let e : was_drawn Undrawn ≡ true = sym (ap was_drawn past) ∙ kept.below m l in cc) (λ l. l) (cases_lt m k) in
        let next : n ≡ k = low ∙ prefix_len_is was_drawn issuer.marks k Undrawn within kept.below (λ h. kept.above k (omega arith)) in
        let more = length_push given n in
        let ne : at n ≢ Sealed = λ e. let x = kept.above n (omega arith) in let y : was_drawn (at n) ≡ true = ap was_drawn e in cc in
        record {
          whole = length-set issuer.marks n Drawn ∙ kept.whole;
          numbered = ap (λ xs. xs ++ n ∷ []) kept.numbered ∙ ap (λ j. range_with_len 0 k ++ j ∷ []) next ∙ counting_next k ∙ ap (range_with_len 0) (sym more);
          below = λ j h. ⊎_elim (λ e. ap (λ i. was_drawn (get_or (set issuer.marks n Drawn) i Undrawn)) e ∙ ap was_drawn (here Drawn lt)) (λ other-number. ap was_drawn (other Drawn j other-number) ∙ kept.below j (omega arith)) (cases_eq j n);
          above = λ j h. ap was_drawn (other Drawn j (omega arith)) ∙ kept.above j (omega arith);
          marks = still_sealed Drawn ne;
          different = kept.different;
        }

    void_step : (b : Bool) → is_in_hand issuer n ≡ b → Kept given sealed (cond b (marked issuer n Void) issuer)
    void_step true h = settled h Void refl
    void_step false h = kept

    seal_step : (b : Bool) (r : Result ℕ Fault) → is_in_hand issuer n ≡ b
        → Kept given (sealed ++ number_sealed n (cond b r (Err (fault 14 Call 0)))) (cond b (marked issuer n (mark_by (cond b r (Err (fault 14 Call 0))))) issuer)
    seal_step true (Ok size) h = sealed_now h
    seal_step true (Err f) h = subst (λ xs. Kept given xs (marked issuer n Void)) (sym (append-nil sealed)) (settled h Void refl)
    seal_step false r h = subst (λ xs. Kept given xs issuer) (sym (append-nil sealed)) kept

  module _ (given sealed : List ℕ) (issuer : Issuer V) (kept : Kept given sealed issuer) where
    draw_step : (p : Result ℕ Fault) → ((N : ℕ) → p ≡ Ok N → N ≤ 1024)
        → Kept (given ++ number_given (then p (λ N. cond (ltb (lowest_undrawn issuer.marks) N) (Ok (record { number = lowest_undrawn issuer.marks; spent = false })) (Err (fault 13 Call 0)))))
        sealed (drawn_by issuer (then p (λ N. cond (ltb (lowest_undrawn issuer.marks) N) (Ok (record { number = lowest_undrawn issuer.marks; spent = false })) (Err (fault 13 Call 0)))))
    draw_step (Err f) within = subst (λ xs. Kept xs sealed issuer) (sym (append-nil given)) kept
    draw_step (Ok N) within = go (ltb (lowest_undrawn issuer.marks) N) (λ e. ltb-true _ _ e)
      where
        go : (b : Bool) → (b ≡ true → lowest_undrawn issuer.marks < N)
            → Kept (given ++ number_given (cond b (Ok (record { number = lowest_undrawn issuer.marks; spent = false })) (Err (fault 13 Call 0)))) sealed (drawn_by issuer (cond b (Ok (record { number = lowest_undrawn issuer.marks; spent = false })) (Err (fault 13 Call 0))))
        go true lt = drawn_now given sealed issuer kept (lowest_undrawn issuer.marks) (omega (arith, lt refl, within N refl)) refl
        go false lt = subst (λ xs. Kept xs sealed issuer) (sym (append-nil given)) kept

module _ {V : Type 0} (a : Arithmetic V) (l : Layout) (w : ℕ) (key : V) where
  new_kept : Kept [] [] (fresh key)
  new_kept = record {
    whole = length-replicate 1024 Undrawn;
    numbered = refl;
    below = λ n h. absurd (omega arith);
    above = λ n h. ⊎_elim (λ lt. ap was_drawn (get_or-replicate 1024 n Undrawn Undrawn lt)) (λ le. ap was_drawn (get_or_past (replicate 1024 Undrawn) n Undrawn (omega (arith, length-replicate 1024 Undrawn)))) (cases_lt n 1024);
    marks = All-nil _;
    different = λ i j d h k. absurd (omega arith);
  }

  reached_kept : (given sealed : List ℕ) (issuer : Issuer V) → Reached a l w key given sealed issuer → Kept given sealed issuer
  reached_kept _ _ _ new = new_kept
  reached_kept _ _ _ (draw {given = given} {sealed = sealed} {issuer = issuer} pads h) = draw_step given sealed issuer (reached_kept given sealed issuer h) (pads_answer (encoded_size_of w l.count) (length pads)) (pads_within (encoded_size_of w l.count) (length pads))
  reached_kept _ _ _ (seal {given = given} {sealed = sealed} {issuer = issuer} number route text pads paper h) =
      seal_step given sealed issuer (reached_kept given sealed issuer h) number (is_in_hand issuer number) (then (pad_answer_for a l w number route text pads (length paper)) (λ _. Ok (length text + 2 + encoded_size_of w l.count))) refl
  reached_kept _ _ _ (void {given = given} {sealed = sealed} {issuer = issuer} number h) = void_step given sealed issuer (reached_kept given sealed issuer h) number (is_in_hand issuer number) refl

module _ {V : Type 0} (a : Arithmetic V) (l : Layout) (w : ℕ) (issuer : Issuer V) where
  pub numbered_in_order : (pads : List ℕ) (answer : Result Stub Fault) → answer ≡ draw_answer a l w issuer pads → NumberedInOrder a l w issuer answer
  numbered_in_order pads answer e key given sealed h =
      subst (λ r. given ++ number_given r ≡ range_with_len 0 (length (given ++ number_given r))) (sym e) (reached_kept a l w key _ _ _ (draw pads h)).numbered

  pub sealed_once : (number route : ℕ) (text pads paper : List ℕ) (answer : Result ℕ Fault) → answer ≡ seal_answer a l w issuer number route text pads paper → SealedOnce a l w issuer number answer
  sealed_once number route text pads paper answer e key given sealed h =
      subst (λ r. Different (sealed ++ number_sealed number r)) (sym e) (reached_kept a l w key _ _ _ (seal number route text pads paper h)).different
