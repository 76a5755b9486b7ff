-- Overrides with one more.
use Rattle.std.specs.Prelude.{[], ◌∷◌, if◌then◌else◌}
use Rattle.std.specs.Str.{bytes_eq}
use Rattle.zw_def.specs.Text.{Text}
use Rattle.zw_def.specs.Inflector.{Overrides}

-- the name of a base, in the place of the one that it had, or else at the end
abbrev pub with_override : Overrides → Text → Text → Overrides
with_override [] base name = (base, name) ∷ []
with_override (o ∷ os) base name =
    if bytes_eq base o.0 then (o.0, name) ∷ os else o ∷ with_override os base name
