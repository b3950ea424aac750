use Rattle.std.proofs.Common.{◌≡◌, take, string_bytes}
use Rattle.playback.specs.Texts.{page_text}
use Rattle.playback.proofs.lines.page.Given as goal

abbrev pub invariant-loop-line : goal.invariant-loop-line
invariant-loop-line l = string_bytes l.all ≡ page_text (take l.line-index l.lines)
