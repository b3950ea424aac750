-- What holds at the start of each turn of playing a tape: the lines so far, and those still to come, are the lines of the tape.
use Rattle.std.proofs.Common.{◌≡◌, ℕ, zero, suc, ◌+◌, ◌-◌, ◌<◌, ◌≤◌, List, [], ◌∷◌, ◌++◌, map, length, Some, None, Ok, Err, sym, ap, ◌∙◌, subst, ap₂, append_assoc, arith, length-append}
use Rattle.fault.specs.declared.Fault.{Fault}
use Rattle.field.specs.Fields.{Arithmetic}
use Rattle.field.specs.Coordinates.{Layout}
use Rattle.tape.specs.Records.{Request, next_record, record_bytes, all_bytes, place_after}
use Rattle.tape.proofs.Readings.{two_at_least}
use Rattle.validator.specs.declared.Validator.{Validator}
use Rattle.validator.specs.Calls.{after}
use Rattle.playback.specs.declared.lines.Line.{Line}
use Rattle.playback.specs.declared.lines.Line.TheVariants.{Refused, End}
use Rattle.playback.specs.Lines.{records_from, call, closing, line_of, call_lines, tape_lines}
use Rattle.playback.proofs.Reading.{begins, from_record, from_end, from_fault}

module _ {V : Type 0} (a : Arithmetic V) (l : Layout) (w : ℕ) (pads tape : List ℕ) where
  -- the lines of the records from a place on, after n others
  abbrev rest_of : ℕ → Validator V → ℕ → List Request → List Line
  rest_of n v at rs = call_lines a l w n v (map (call pads) rs) ++ closing (n + length rs) (next_record tape (at + length (all_bytes rs)))

  pub record SoFar (begun : Validator V) (at : ℕ) (v : Validator V) (ls : List Line) : Type 0 where
    pub most : ℕ
    pub enough : length tape ≤ at + most
    pub whole : ls ++ (call_lines a l w (length ls) v (map (call pads) (records_from most tape at)) ++ closing (length ls + length (records_from most tape at)) (next_record tape (at + length (all_bytes (records_from most tape at))))) ≡ tape_lines a l w begun pads tape

  pub first_turn : (v : Validator V) → SoFar v 0 v []
  first_turn v =
      let rs = records_from (length tape) tape 0 in
      let n : 0 + length rs ≡ length rs = omega arith in
      let place : 0 + length (all_bytes rs) ≡ length (all_bytes rs) = omega arith in
      record {
        most = length tape;
        enough = omega arith;
        whole = ap₂ (λ m k. call_lines a l w 0 v (map (call pads) rs) ++ closing m (next_record tape k)) n place;
      }

  module _ (begun : Validator V) (at : ℕ) (v : Validator V) (ls : List Line) (s : SoFar begun at v ls) where
    -- nothing more is read
    last_lines : records_from s.most tape at ≡ [] → ls ++ closing (length ls) (next_record tape at) ≡ tape_lines a l w begun pads tape
    unfolding call_lines
    last_lines e =
        let n : length ls + 0 ≡ length ls = omega arith in
        let place : at + 0 ≡ at = omega arith in
        ap (λ xs. ls ++ xs) (sym (ap (λ rs. rest_of (length ls) v at rs) e ∙ ap₂ (λ m k. closing m (next_record tape k)) n place)) ∙ s.whole

    pub ended : next_record tape at ≡ Ok None → (ls' : List Line) → ls' ≡ ls → ls' ++ End (length ls') ∷ [] ≡ tape_lines a l w begun pads tape
    ended q ls' e = ap (λ (xs : List Line). xs ++ End (length xs) ∷ []) e ∙ ap (λ x. ls ++ closing (length ls) x) (sym q) ∙ last_lines (from_end tape at s.most q)

    pub faulted : (f : Fault) → next_record tape at ≡ Err f → (ls' : List Line) → ls' ≡ ls ++ Refused (length ls + 1) f ∷ [] → ls' ++ End (length ls') ∷ [] ≡ tape_lines a l w begun pads tape
    faulted f q ls' e =
        let more : length ls' ≡ suc (length ls) = ap length e ∙ length-append ls _ ∙ omega arith in
        let here : length ls + 1 ≡ suc (length ls) = omega arith in
        ap₂ (λ (xs : List Line) (n : ℕ). xs ++ End n ∷ []) (e ∙ ap (λ n. ls ++ Refused n f ∷ []) here) more
        ∙ append_assoc ls (Refused (suc (length ls)) f ∷ []) (End (suc (length ls)) ∷ [])
        ∙ ap (λ x. ls ++ closing (length ls) x) (sym q) ∙ last_lines (from_fault tape at s.most f q)

    module _ (r : Request) (q : next_record tape at ≡ Ok (Some r)) where
      abbrev next_place : ℕ
      next_place = at + length (record_bytes r)

      abbrev next_line : Line
      next_line = line_of a l w (suc (length ls)) v (call pads r)

      on_to : (rs : List Request) → rest_of (length ls) v at (r ∷ rs) ≡ next_line ∷ rest_of (suc (length ls)) (after a l w v (call pads r)) next_place rs
      unfolding call_lines
      on_to rs =
          let n : length ls + suc (length rs) ≡ suc (length ls) + length rs = omega arith in
          let place : at + length (record_bytes r ++ all_bytes rs) ≡ next_place + length (all_bytes rs) = omega (arith, length-append (record_bytes r) (all_bytes rs)) in
          ap₂ (λ m k. next_line ∷ (call_lines a l w (suc (length ls)) (after a l w v (call pads r)) (map (call pads) rs) ++ closing m (next_record tape k))) n place

      by_most : (most : ℕ) → length tape ≤ at + most → ls ++ rest_of (length ls) v at (records_from most tape at) ≡ tape_lines a l w begun pads tape → SoFar begun next_place (after a l w v (call pads r)) (ls ++ next_line ∷ [])
      by_most zero enough e = absurd (omega (arith, begins tape at r q))
      by_most (suc most) enough e =
          let rs = records_from most tape next_place in
          let more : length (ls ++ next_line ∷ []) ≡ suc (length ls) = length-append ls (next_line ∷ []) ∙ omega arith in
          record {
            most = most;
            enough = omega (arith, two_at_least r);
            whole =
                append_assoc ls (next_line ∷ []) _
                ∙ ap (λ m. ls ++ next_line ∷ rest_of m (after a l w v (call pads r)) next_place rs) more
                ∙ ap (λ xs. ls ++ xs) (sym (ap (rest_of (length ls) v at) (from_record tape at most r q) ∙ on_to rs))
                ∙ e;
          }

      next_turn : SoFar begun next_place (after a l w v (call pads r)) (ls ++ next_line ∷ [])
      next_turn = by_most s.most s.enough s.whole

    -- the next turn as the code comes to it
    pub turn : (t : List ℕ) → t ≡ tape → (r : Request) → Ok (Some r) ≡ next_record t at → (at' : ℕ) → at' ≡ place_after at (next_record t at) → (v' : Validator V) → v' ≡ after a l w v (call pads r)
        → (n : ℕ) → n ≡ length ls → (x : Line) → x ≡ line_of a l w (n + 1) v (call pads r) → (ls' : List Line) → ls' ≡ ls ++ x ∷ [] → SoFar begun at' v' ls'
    turn t e r q at' p v' y n m x z ls' u =
        let here : next_record tape at ≡ Ok (Some r) = sym (q ∙ ap (λ (o : List ℕ). next_record o at) e) in
        let place : at' ≡ at + length (record_bytes r) = p ∙ ap (place_after at) (sym q) in
        let number : n + 1 ≡ suc (length ls) = omega arith in
        let lines : ls' ≡ ls ++ line_of a l w (suc (length ls)) v (call pads r) ∷ [] = u ∙ ap (λ (o : Line). ls ++ o ∷ []) (z ∙ ap (λ (i : ℕ). line_of a l w i v (call pads r)) number) in
        subst (λ (o : ℕ). SoFar begun o v' ls') (sym place)
        (subst (λ (o : Validator V). SoFar begun (at + length (record_bytes r)) o ls') (sym y)
        (subst (SoFar begun (at + length (record_bytes r)) (after a l w v (call pads r))) (sym lines) (next_turn r here)))

-- each turn leaves less of the tape
pub less_left : (tape : List ℕ) (at : ℕ) (r : Request) → Ok (Some r) ≡ next_record tape at → (at' : ℕ) → at' ≡ place_after at (next_record tape at) → length tape - at' < length tape - at
less_left tape at r q at' p =
    let place : at' ≡ at + length (record_bytes r) = p ∙ ap (place_after at) (sym q) in
    omega (arith, begins tape at r (sym q), two_at_least r)
