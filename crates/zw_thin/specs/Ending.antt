-- What the ends of expressions stand for.
use Rattle.std.specs.Prelude.{List, Option, option_map, Result, Ok, Err}
use Rattle.std.specs.Borrow.{Bor}
use Rattle.zw_def.specs.Text.{Text}
use Rattle.zw_def.specs.Path.{Path}
use Rattle.zw_def_thin.specs.ClassFile.{ClassFile}
use Rattle.zw_def_thin.specs.Evaluation as defined
use Rattle.zw_thin.specs.Class.{open_seen}
use Rattle.zw_thin.specs.declared.table.Class.{Class as Open}
use Rattle.zw_thin.specs.declared.expression.Value.{Value}
use Rattle.zw_thin.specs.declared.expression.Value.TheVariants.{Number, Class}
use Rattle.zw_thin.specs.declared.expression.Ending.{Ending}
use Rattle.zw_thin.specs.declared.expression.Ending.TheVariants.{Gave, NoConstant, NoMethod, NotDefined}

abbrev pub value_seen : Value → defined.Value
value_seen (Number n) = defined.number n
value_seen (Class name) = defined.class_value name.now

abbrev pub ending_seen : Ending → defined.Ending
ending_seen (Gave value) = defined.gave (value_seen value)
ending_seen (NoConstant name) = defined.no_constant name.now
ending_seen (NoMethod method name) = defined.no_method method.now name.now
ending_seen (NotDefined path name) = defined.not_defined path.now name.now

-- the class of a constant, or the fault in place of it
abbrev pub answer_seen : List Text → Result Open Ending → Result ClassFile defined.Ending
answer_seen names (Ok c) = Ok (open_seen names c)
answer_seen names (Err ending) = Err (ending_seen ending)

-- the path of the file that was evaluated, if there is one
abbrev pub path_seen : Option (Bor Path) → Option Path
path_seen path = option_map (λ p. p.now) path
