-- The text of a line, and of a page of lines.
use Rattle.std.specs.Prelude.{ℕ, List, [], ◌∷◌, ◌++◌, codes, decimal, flat_map}
use Rattle.fault.specs.Faults.{fault_text}
use Rattle.playback.specs.declared.lines.Line.{Line}
use Rattle.playback.specs.declared.lines.Line.TheVariants.{Pass, Refused, Cancelled, Rides, End}

abbrev pub line_text : Line → List ℕ
line_text (Pass n route) = decimal n ++ (codes " pass " ++ decimal route)
line_text (Refused n f) = decimal n ++ (codes " " ++ fault_text f)
line_text (Cancelled n) = decimal n ++ codes " cancelled"
line_text (Rides n count) = decimal n ++ (codes " rides " ++ decimal count)
line_text (End n) = codes "end " ++ decimal n

-- every line ends with a newline, byte 10
abbrev pub page_text : List Line → List ℕ
page_text lines = flat_map (λ x. line_text x ++ 10 ∷ []) lines
