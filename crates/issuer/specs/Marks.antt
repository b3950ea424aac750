-- The marks of the numbers, in the order of the numbers.
use Rattle.std.specs.Prelude.{ℕ, Bool, true, false, not, List, Option, count_by, position}
use Rattle.std.specs.List.{prefix_len}
use Rattle.issuer.specs.declared.marks.Mark.{Mark}
use Rattle.issuer.specs.declared.marks.Mark.TheVariants.{Undrawn, Drawn, Sealed, Void}

-- a stub was given, whatever became of it
abbrev pub was_drawn : Mark → Bool
was_drawn Undrawn = false
was_drawn Drawn = true
was_drawn Sealed = true
was_drawn Void = true

-- the stub is in hand: neither sealed nor void
abbrev pub is_drawn : Mark → Bool
is_drawn Undrawn = false
is_drawn Drawn = true
is_drawn Sealed = false
is_drawn Void = false

abbrev pub is_sealed : Mark → Bool
is_sealed Undrawn = false
is_sealed Drawn = false
is_sealed Sealed = true
is_sealed Void = false

abbrev pub is_void : Mark → Bool
is_void Undrawn = false
is_void Drawn = false
is_void Sealed = false
is_void Void = true

-- the lowest number that is not drawn, or how many numbers there are
abbrev pub lowest_undrawn : List Mark → ℕ
lowest_undrawn marks = prefix_len was_drawn marks

-- that number, if there is one
abbrev pub first_undrawn : List Mark → Option ℕ
first_undrawn marks = position (λ m. not (was_drawn m)) marks

-- how many numbers have such a mark
abbrev pub how_many : (Mark → Bool) → List Mark → ℕ
how_many test marks = count_by test marks
