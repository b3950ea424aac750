-- A shift: the calls that one validator gets, blank at first, and what they say of the rides of a route.
use Rattle.std.specs.Prelude.{◌≡◌, ℕ, suc, ◌<◌, List, [], ◌∷◌, ◌++◌, length, Ok, Result, ◌≢◌, slice_index_or}
use Rattle.fault.specs.declared.Fault.{Fault}
use Rattle.field.specs.Fields.{Arithmetic}
use Rattle.field.specs.Coordinates.{Layout}
use Rattle.tag.specs.Tickets.{ticket_answer}
use Rattle.validator.specs.declared.Validator.{Validator}
use Rattle.validator.specs.Calls.{Call, check, cancel, report, blank, after}

-- Of the numbers below m, just c have the property.
pub data Count (P : ℕ → Type 0) : ℕ → ℕ → Type 0 where
  none : Count P 0 0
  has : {m c : ℕ} → P m → Count P m c → Count P (suc m) (suc c)
  lacks : {m c : ℕ} → (P m → ⊥) → Count P m c → Count P (suc m) c

module _ {V : Type 0} (a : Arithmetic V) (l : Layout) (w : ℕ) where
  -- The call is a right check, whatever the mark of its number: its ticket is right under the key, has the number n and names the route r.
  abbrev pub Right : V → Call → ℕ → ℕ → Type 0
  Right k (check ticket pads) n r = (text : List ℕ) × (ticket_answer a l w (a.meaning k) pads ticket ≡ Ok (record { number = n; route = r; text = text }))
  Right k (cancel number) n r = ⊥
  Right k (report route) n r = ⊥

  -- The call is neither a right check of n nor a cancel of n.
  abbrev pub Quiet : V → Call → ℕ → Type 0
  Quiet k c n = ((r : ℕ) → Right k c n r → ⊥) × (c ≢ cancel n)

  -- Among the calls, the first right check of n names r, and no cancel of n comes before it.
  abbrev pub Rode : V → List Call → ℕ → ℕ → Type 0
  Rode k calls n r = (i : ℕ) × (i < length calls) × Right k (slice_index_or calls i (report 0)) n r × ((j : ℕ) → j < i → Quiet k (slice_index_or calls j (report 0)) n)

  -- c is the number of ticket numbers, of 0 to 1023, that rode the route.
  abbrev pub Rides : V → List Call → ℕ → ℕ → Type 0
  Rides k calls r c = Count (λ n. Rode k calls n r) 1024 c

  -- The calls, one after the other, take a blank validator with the key to this one.
  pub data Reached (k : V) : List Call → Validator V → Type 0 where
    begun : Reached k [] (blank k)
    called : {calls : List Call} {v : Validator V} → (c : Call) → Reached k calls v → Reached k (calls ++ c ∷ []) (after a l w v c)

  -- Whatever calls led to the validator: the answer to a report of a route up to 63 is the number of its rides.
  abbrev pub ReportsItsRides : Validator V → ℕ → Result ℕ Fault → Type 0
  ReportsItsRides v r answer = (k : V) (calls : List Call) → Reached k calls v → r < 64 → (c : ℕ) × (answer ≡ Ok c) × Rides k calls r c
