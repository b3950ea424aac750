-- A ticket first in its paper: a body written first, and then a tag behind it.
use Rattle.std.proofs.Common.{◌≡◌, ℕ, ◌+◌, ◌-◌, ◌*◌, ◌/◌, ◌%◌, ◌<◌, ◌≤◌, List, ◌++◌, length, take, drop, Ok, Result, sym, refl, ap, ◌∙◌, ap₂, arith, cond, Err, le-leb}
use borrow.Rule.Slice.PartMut.{put_mid}
use Rattle.std.proofs.lemmas.List.{append_assoc, length-append, take_at, drop_at, drop-drop}
use Rattle.fault.specs.declared.Fault.{Fault}
use Rattle.fault.specs.declared.Part.TheVariants.{Call, Tag}
use Rattle.fault.specs.Faults.{fault}
use Rattle.field.specs.Fields.{Arithmetic}
use Rattle.field.specs.Coordinates.{Layout}
use Rattle.coding.specs.Encoding.{encoded_size_of, encoded, decoded}
use Rattle.coding.proofs.Regrouping.{length_regrouped}
use Rattle.tag.specs.Bodies.{Opened, parts, body_bytes, if_length, written_first}
use Rattle.tag.specs.Tags.{tag_of}
use Rattle.tag.proofs.Reading.{ticket_compared, same_numbers_same}
use Rattle.issuer.specs.Calls.{ticket_bytes, RightTicket}

-- what is given of a body that has a body's length
pub tag_given : {A : Type 0} (body : List ℕ) (x y : A) → 2 ≤ length body → length body ≤ 440 → ◌≡◌ {A = Result A Fault} (if_length body x) (Ok y) → x ≡ y
tag_given {A = A} body x y two short e =
    let s : ◌≡◌ {A = Result A Fault} (Ok x) (Ok y) = rw (le-leb 2 (length body) two, le-leb (length body) 440 short) at e in
    let same : x ≡ y = cc in same

pub tag_behind_body : (body tag paper : List ℕ) (end size : ℕ) → length body ≡ end → length tag ≡ size
    → put_mid end (end + size - end) (written_first body paper) tag ≡ written_first (body ++ tag) paper
tag_behind_body body tag paper end size b t =
    let k : end + size - end ≡ size = omega arith in
    let rest : drop (end + size - end) (drop end (written_first body paper)) ≡ drop (length (body ++ tag)) paper =
    ap (λ n. drop n (drop end (written_first body paper))) k
    ∙ ap (drop size) (drop_at body (drop (length body) paper) end b)
    ∙ drop-drop size (length body) paper
    ∙ ap (λ n. drop n paper) (ap (λ n. length body + n) (sym t) ∙ sym (length-append body tag)) in
    ap₂ (λ x y. x ++ (tag ++ y)) (take_at body (drop (length body) paper) end b) rest ∙ sym (append_assoc body tag _)

-- a ticket of which the tag can be decoded again is right
module _ {V : Type 0} (a : Arithmetic V) (l : Layout) (w : ℕ) (key pad : List ℕ) (number route : ℕ) (text : List ℕ) (n : number < 1024) (r : route < 64) (t : length text ≤ 438) where
  abbrev body : List ℕ
  body = body_bytes number route text

  abbrev tag : List ℕ
  tag = tag_of a l w key pad body

  abbrev behind : List ℕ
  behind = encoded w l.count (l.by_power tag)

  abbrev T : ℕ
  T = encoded_size_of w l.count

  abbrev ticket : List ℕ
  ticket = ticket_bytes a l w key pad number route text

  abbrev told : Opened
  told = record { number = number; route = route; text = text }

  long : length ticket ≡ length text + 2 + T
  long = length-append body behind ∙ ap (λ k. length body + k) (length_regrouped w 8 T (l.by_power tag)) ∙ omega arith

  front : take (length ticket - T) ticket ≡ body
  front = take_at body behind (length ticket - T) (omega (arith, long))

  rest : drop (length ticket - T) ticket ≡ behind
  rest = drop_at body behind (length ticket - T) (omega (arith, long))

  parts_told : parts body ≡ told
  parts_told =
      let h = number * 64 + route in
      let e : (h / 256 * 256 + h % 256) / 64 ≡ number = omega arith in
      let f : (h / 256 * 256 + h % 256) % 64 ≡ route = omega arith in
      ap₂ (λ x y. record { number = x; route = y; text = text }) e f

  if_right : {A : Type 0} (x : A) → ◌≡◌ {A = Result A Fault} (if_length body x) (Ok x)
  if_right x = rw (le-leb 2 (length body) (omega arith), le-leb (length body) 440 (omega arith))

  pub ticket_right : decoded l w Tag (encoded w l.count (l.by_power (tag_of a l w key pad (body_bytes number route text)))) ≡ Ok (l.by_power (tag_of a l w key pad (body_bytes number route text)))
      → l.from_power (l.by_power (tag_of a l w key pad (body_bytes number route text))) ≡ tag_of a l w key pad (body_bytes number route text) → RightTicket a l w key pad number route text
  ticket_right decodes back pads read =
      ticket_compared a l w key pads ticket (length ticket - T) body behind told pad (l.by_power tag) tag refl (sym front) (sym rest)
      (if_right (parts body) ∙ ap Ok parts_told) read decodes (if_right tag)
      ∙ ap (λ b. cond b (Ok told) (Err (fault 11 Call 0))) (same_numbers_same _ _ (sym back))
