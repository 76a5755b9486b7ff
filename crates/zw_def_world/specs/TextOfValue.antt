-- The text of a value, as `puts` and interpolations take it.
use Rattle.std.specs.Prelude.{Bool, [], nat_lt, length, codes, if◌then◌else◌}
use Rattle.zw_def.specs.Text.{Text}
use Rattle.zw_def_world.specs.Value.{Value, text, Holder, no_holder, as_holder}
use Rattle.zw_def_world.specs.Inspect.{built_in}
use Rattle.zw_def_world.specs.Making.{too_long, max_text}
use Rattle.zw_def_world.specs.Site.{Call}
use Rattle.zw_def_world.specs.Act.{Act, ◌>>=◌, reading}

abbrev pub is_long : Text → Bool
is_long t = nat_lt max_text (length t)

abbrev pub unless_long : (Text → Act) → Text → Act
unless_long k t = if is_long t then too_long else k t

-- what `to_s` answered, where that is a text; else the built-in text
abbrev pub text_or_built_in : Value → (Text → Act) → Value → Act
text_or_built_in v k (text t) = k t
text_or_built_in v k other = reading (λ w. built_in w v) (unless_long k)

-- `to_s` is called on a module or an object alone
abbrev pub text_of_holder : Call → Value → (Text → Act) → Holder → Act
text_of_holder call v k no_holder = text_or_built_in v k v
text_of_holder call v k _ = call v (codes "to_s") [] >>= text_or_built_in v k

abbrev pub with_text : Call → Value → (Text → Act) → Act
with_text call v k = text_of_holder call v k (as_holder v)
