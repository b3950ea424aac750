-- Reading tickets: when two meanings are the same, and what a ticket answers as it is read.
use Rattle.std.proofs.Common.{◌≡◌, ℕ, ◌+◌, ◌-◌, ◌≤◌, Bool, true, false, cond, leb, ◌≢◌, List, length, take, drop, Ok, Err, Result, sym, refl, ap, ◌∙◌, arith, leb-true, leb-false, length-take}
use mathlib.Core.Path.{Path}
use Rattle.std.specs.Cmp.Lexicographic.{bytes_decides}
use Rattle.fault.specs.declared.Fault.{Fault}
use Rattle.fault.specs.declared.Part.TheVariants.{Call, Tag}
use Rattle.fault.specs.Faults.{fault}
use Rattle.field.specs.Fields.{Arithmetic}
use Rattle.field.specs.Coordinates.{Layout}
use Rattle.coding.specs.Encoding.{encoded_size_of, decoded}
use Rattle.tag.specs.Bodies.{Opened, parts, opened, if_length}
use Rattle.tag.specs.Tags.{tag_of}
use Rattle.tag.specs.Tickets.{then, same_numbers, tag_answer, pad_answer, ticket_body, ticket_tag, ticket_answer}

pub same_numbers_same : (xs ys : List ℕ) → xs ≡ ys → same_numbers xs ys ≡ true
same_numbers_same xs ys = (bytes_decides xs ys).1

pub same_numbers_other : (xs ys : List ℕ) → xs ≢ ys → same_numbers xs ys ≡ false
same_numbers_other xs ys n = go (same_numbers xs ys) refl
  where
    go : (b : Bool) → same_numbers xs ys ≡ b → b ≡ false
    go true e = absurd (n ((bytes_decides xs ys).0 e))
    go false e = refl

-- what is given where the length is right
pub given_right : {A : Type 0} (bytes : List ℕ) (x z : A) → ◌≡◌ {A = Result A Fault} (if_length bytes x) (Ok z) → x ≡ z
given_right bytes x z = go (leb 2 (length bytes)) (leb (length bytes) 440)
  where
    go : (b d : Bool) → Path (Result _ Fault) (cond b (cond d (Ok x) (Err (fault 5 Call 0))) (Err (fault 5 Call 0))) (Ok z) → x ≡ z
    go true true h = cc
    go true false h = cc
    go false d h = cc

same_tests : (m n p q : ℕ) → (m ≤ n → p ≤ q) → (p ≤ q → m ≤ n) → leb m n ≡ leb p q
same_tests m n p q f h = go (leb m n) (leb p q) refl refl
  where
    go : (b d : Bool) → leb m n ≡ b → leb p q ≡ d → b ≡ d
    go true true x y = refl
    go true false x y = absurd (let k = f (leb-true _ _ x) in let z = leb-false _ _ y in omega arith)
    go false true x y = absurd (let k = h (leb-true _ _ y) in let z = leb-false _ _ x in omega arith)
    go false false x y = refl

module _ {V : Type 0} (a : Arithmetic V) (l : Layout) (w : ℕ) (key pads ticket : List ℕ) where
  -- what a ticket answers as it is read: its body is opened, its pad read and its tag decoded, and the tag compared
  pub ticket_in_turn : ticket_answer a l w key pads ticket
      ≡ then (opened (ticket_body a l w ticket)) (λ o.
      then (pad_answer a l w pads o.number) (λ pad.
      then (decoded l w Tag (ticket_tag a l w ticket)) (λ xs.
      cond (same_numbers (tag_of a l w key pad (ticket_body a l w ticket)) (l.from_power xs)) (Ok o) (Err (fault 11 Call 0)))))
  ticket_in_turn =
      let T = encoded_size_of w l.count in
      let n = length ticket in
      let body = ticket_body a l w ticket in
      let size : length body ≡ n - T = length-take (n - T) ticket ∙ omega arith in
      let long : leb (T + 2) n ≡ leb 2 (length body) = same_tests (T + 2) n 2 (length body) (λ h. omega arith) (λ h. omega arith) in
      let short : leb n (T + 440) ≡ leb (length body) 440 = same_tests n (T + 440) (length body) 440 (λ h. omega arith) (λ h. omega arith) in
      rw (long, short) (go (leb 2 (length body)) (leb (length body) 440))
    where
      read : Opened → Result Opened Fault
      read o =
          then (pad_answer a l w pads o.number) (λ pad.
          then (decoded l w Tag (ticket_tag a l w ticket)) (λ xs.
          cond (same_numbers (tag_of a l w key pad (ticket_body a l w ticket)) (l.from_power xs)) (Ok o) (Err (fault 11 Call 0))))

      go : (b d : Bool) → cond b (cond d (read (parts (ticket_body a l w ticket))) (Err (fault 5 Call 0))) (Err (fault 5 Call 0)) ≡ then (cond b (cond d (Ok (parts (ticket_body a l w ticket))) (Err (fault 5 Call 0))) (Err (fault 5 Call 0))) read
      go true true = refl
      go true false = refl
      go false d = refl

  -- what a ticket answers that was read as far as to its tag, which is cut off at a place
  pub ticket_compared : (end : ℕ) (body tag : List ℕ) (o : Opened) (pad xs made : List ℕ)
      → end ≡ length ticket - encoded_size_of w l.count → body ≡ take end ticket → tag ≡ drop end ticket
      → opened body ≡ Ok o → pad_answer a l w pads o.number ≡ Ok pad → decoded l w Tag tag ≡ Ok xs → tag_answer a l w key pad body ≡ Ok made
      → ticket_answer a l w key pads ticket ≡ cond (same_numbers made (l.from_power xs)) (Ok o) (Err (fault 11 Call 0))
  ticket_compared end body tag o pad xs made place cut rest was_opened was_read was_decoded was_made =
      let front : ticket_body a l w ticket ≡ body = sym (cut ∙ ap (λ k. take k ticket) place) in
      let back : ticket_tag a l w ticket ≡ tag = sym (rest ∙ ap (λ k. drop k ticket) place) in
      rw (ticket_in_turn, front, back, was_opened, was_read, was_decoded, given_right body (tag_of a l w key pad body) made was_made)
