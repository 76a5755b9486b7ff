-- What the variables of an object and of a class are.
use Rattle.std.specs.Prelude.{ℕ}
use Rattle.zw_def.specs.Text.{Text}
use Rattle.zw_def_syntax.specs.Token.{Kind, instance_variable, class_variable}
use Rattle.zw_lexer.specs.declared.word.Owner.{Owner}
use Rattle.zw_lexer.specs.declared.word.Owner.TheVariants.{Instance, Class}

abbrev pub kind_of : Owner → Text → Kind
kind_of Instance = instance_variable
kind_of Class = class_variable

-- how many `@` stand before its name
abbrev pub mark_size : Owner → ℕ
mark_size Instance = 1
mark_size Class = 2
