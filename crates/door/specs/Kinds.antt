-- The form of a kind at a modulus.
use Rattle.std.specs.Prelude.{ℕ}
use Rattle.door.specs.declared.exports.Kind.{Kind}
use Rattle.door.specs.declared.exports.Kind.TheVariants.{Short, Long, Polynomial}
use Rattle.door.specs.Forms.{Form, short, long, polynomial}

abbrev pub kind_at : ℕ → ℕ → ℕ → Kind → Form
kind_at q root w Short = short q root w
kind_at q root w Long = long q root w
kind_at q root w Polynomial = polynomial q root w
