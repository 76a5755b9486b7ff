-- What expressions stand for.
use Rattle.zw_def_thin.specs.Evaluation as defined
use Rattle.zw_thin.specs.declared.expression.Expression.{Expression}
use Rattle.zw_thin.specs.declared.expression.Expression.TheVariants.{Integer, Constant, Call}

abbrev pub expression_seen : Expression → defined.Expression
expression_seen (Integer n) = defined.integer n
expression_seen (Constant name) = defined.constant name.now
expression_seen (Call name method) = defined.call name.now method.now
