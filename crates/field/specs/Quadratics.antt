-- The quadratic extension whose pairs are the values of `Quadratic`.
use Rattle.std.specs.Prelude.{Bool, ◌&&◌, refl}
use Rattle.field.specs.declared.extension.Quadratic.{Quadratic}
use Rattle.field.specs.Fields.{Arithmetic, Laws, EqualByMeaning}
use Rattle.field.specs.Extensions.{extension}
use Rattle.field.specs.Coordinates.{Layout, CoordinateLaws, extension_layout}
use Rattle.field.specs.ExtensionLaws.{extension_laws, extension_equal_by_meaning}
use Rattle.field.specs.ExtensionCoordinates.{extension_coordinate_laws}

abbrev pub quadratic : {V : Type 0} → Arithmetic V → Arithmetic (Quadratic V)
quadratic f = extension f (λ x. x.a0) (λ x. x.a1)

module _ {V : Type 0} {f : Arithmetic V} (l : Laws f) where
  pub quadratic_laws : Laws (quadratic f)
  quadratic_laws = extension_laws l (λ x. x.a0) (λ x. x.a1) (λ x y. (record { a0 = x; a1 = y }, refl, refl))

  pub quadratic_equal_by_meaning : {eq : V → V → Bool} → EqualByMeaning f eq → EqualByMeaning (quadratic f) (λ x y. eq x.a0 y.a0 && eq x.a1 y.a1)
  quadratic_equal_by_meaning h = extension_equal_by_meaning l (λ x. x.a0) (λ x. x.a1) h

  pub quadratic_coordinates : {y : Layout} → CoordinateLaws f y → CoordinateLaws (quadratic f) (extension_layout y)
  quadratic_coordinates k = extension_coordinate_laws l k (λ x. x.a0) (λ x. x.a1) (λ x y. (record { a0 = x; a1 = y }, refl, refl))
