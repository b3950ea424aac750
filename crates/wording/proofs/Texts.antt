-- Printable bytes are text.
use Rattle.std.proofs.Common.{◌≡◌, ℕ, List, zero, suc, [], ◌∷◌, true, arith}
use Rattle.std.specs.List.{list_all}
use Rattle.std.specs.Str.{IsUtf8, IsAscii}
use Rattle.std.proofs.lemmas.Str.{IsUtf8-from_ascii}
use Rattle.std.proofs.lemmas.Grind.{common_steps}
use Rattle.std.proofs.lemmas.Bool.Decides.{nat_tests}
use Rattle.wording.specs.Lines.{is_printable}

printable_is_ascii : (bs : List ℕ) → list_all is_printable bs ≡ true → IsAscii bs
printable_is_ascii [] h i = omega arith
printable_is_ascii (b ∷ bs) h zero = grind (arith, common_steps, nat_tests)
printable_is_ascii (b ∷ bs) h (suc i) =
    let rest : list_all is_printable bs ≡ true = grind (arith, common_steps) in printable_is_ascii bs rest i

pub printable_is_utf8 : (bs : List ℕ) → list_all is_printable bs ≡ true → IsUtf8 bs
printable_is_utf8 bs h = IsUtf8-from_ascii bs (printable_is_ascii bs h)
