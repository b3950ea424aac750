-- What a line says.
use Rattle.std.specs.Prelude.{ℕ, List, [], ◌∷◌, length, Bool, true, ◌&&◌, ◌==◌, nat_le, nat_lt, Option, Some, None, Result, Ok, Err, if◌then◌else◌}
use Rattle.std.specs.List.{list_all}
use Rattle.std.specs.Io.BufRead.{strip_last}
use Rattle.wording.specs.declared.misreadings.Misreading.{Misreading}
use Rattle.wording.specs.declared.misreadings.Misreading.TheVariants.{LineTooLong, NotText}

-- the line is empty, or a comment
abbrev pub says_nothing : List ℕ → Bool
says_nothing [] = true
says_nothing (c ∷ cs) = c == 35

-- a character of ASCII from the space to the tilde
abbrev pub is_printable : ℕ → Bool
is_printable c = nat_le 32 c && nat_le c 126

-- the text of a line of at most so many bytes, none of one that says nothing; or why it has none
abbrev pub text_of : ℕ → List ℕ → Result (Option (List ℕ)) Misreading
text_of longest line =
    if says_nothing line then Ok None
    else if nat_lt longest (length line) then Err LineTooLong
    else if list_all is_printable line then Ok (Some line) else Err NotText

-- one carriage return at the end is no part of the line
abbrev pub line_text : ℕ → List ℕ → Result (Option (List ℕ)) Misreading
line_text longest line = text_of longest (strip_last 13 line)
