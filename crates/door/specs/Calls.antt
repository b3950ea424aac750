-- What each call answers in a field: the numbers that it writes, or why it is refused.
use Rattle.std.specs.Prelude.{◌≡◌, ℕ, cond, List, Ok, Err, Result, ◌==◌}
use Rattle.fault.specs.declared.Fault.{Fault}
use Rattle.fault.specs.declared.Part.TheVariants.{Call, Key, Pad}
use Rattle.fault.specs.Faults.{fault}
use Rattle.field.specs.Fields.{Arithmetic}
use Rattle.field.specs.Coordinates.{Layout, Coefficients, coefficients}
use Rattle.coding.specs.Encoding.{encoded_size_of, encoded, decoded}
use Rattle.tag.specs.Tickets.{then, same_numbers, tag_answer}

-- An answer of so many numbers, for which a row of `room` was lent: refusal 3 where that is another count.
abbrev pub fitting : ℕ → ℕ → List ℕ → Result (List ℕ) Fault
fitting size room xs = cond (room == size) (Ok xs) (Err (fault 3 Call 0))

module _ {V : Type 0} (a : Arithmetic V) (l : Layout) where
  -- The product of two values by their coefficients: the refusals of the first, then of the second.
  abbrev pub product_answer : List ℕ → List ℕ → ℕ → Result (List ℕ) Fault
  product_answer xs ys room =
      then (coefficients l xs) (λ x.
      then (coefficients l ys) (λ y.
      fitting l.count room (l.by_power (a.times (l.from_power x) (l.from_power y)))))

  -- The coefficients that are to be inverted: the refusals of the list, then 2 for zero.
  abbrev pub inverse_answer : List ℕ → ℕ → Result (List ℕ) Fault
  inverse_answer xs room =
      then (coefficients l xs) (λ x.
      cond (same_numbers (l.from_power x) a.zero) (Err (fault 2 Call 0)) (fitting l.count room x))

  -- What is left in the lent row: coefficients of the value whose product with the one of x is one.
  abbrev pub LeftInverse : Result (List ℕ) Fault → List ℕ → List ℕ → Type 0
  LeftInverse (Ok x) row new = Coefficients l new × (a.times (l.from_power x) (l.from_power new) ≡ a.one)
  LeftInverse (Err f) row new = new ≡ row

module _ (l : Layout) (w : ℕ) where
  abbrev pub encode_answer : List ℕ → ℕ → Result (List ℕ) Fault
  encode_answer xs room =
      then (coefficients l xs) (λ x.
      fitting (encoded_size_of w l.count) room (encoded w l.count x))

  abbrev pub decode_answer : List ℕ → ℕ → Result (List ℕ) Fault
  decode_answer bytes room =
      then (decoded l w Call bytes) (λ x.
      fitting l.count room x)

-- The encoded tag of a body: the refusals of the key, then of the pad, then of the body.
abbrev pub tag_bytes : {V : Type 0} → Arithmetic V → Layout → ℕ → List ℕ → List ℕ → List ℕ → ℕ → Result (List ℕ) Fault
tag_bytes a l w key pad body room =
    then (decoded l w Key key) (λ k.
    then (decoded l w Pad pad) (λ p.
    then (tag_answer a l w (l.from_power k) (l.from_power p) body) (λ t.
    fitting (encoded_size_of w l.count) room (encoded w l.count (l.by_power t)))))
