-- The signs that name methods are among the operators that are spelled.
use Rattle.std.proofs.Common.{◌≡◌, true, codes, refl}
use Rattle.zw_def.specs.Text.{is_among as is_one_of}
use Rattle.zw_def_syntax.specs.Compound as c
use Rattle.zw_def_syntax.specs.Lexed.{is_among}
use Rattle.zw_lexer.specs.declared.punctuation.Punctuation.{Punctuation}
use Rattle.zw_lexer.specs.declared.punctuation.Punctuation.TheVariants as s
use Rattle.zw_lexer.specs.Punctuation.{sign_text}
use Rattle.zw_ast.specs.Operator.{operators}

pub is_spelled : (sign : Punctuation) → is_among (codes c.operators) (sign_text sign) ≡ true → is_one_of operators (sign_text sign) ≡ true
is_spelled s.Compare e = refl
is_spelled s.OrAssign e = cc
is_spelled s.AndAssign e = cc
is_spelled s.EqualEqual e = refl
is_spelled s.NotEqual e = cc
is_spelled s.LessEqual e = refl
is_spelled s.GreaterEqual e = refl
is_spelled s.AndAnd e = cc
is_spelled s.OrOr e = cc
is_spelled s.PlusAssign e = cc
is_spelled s.MinusAssign e = cc
is_spelled s.TimesAssign e = cc
is_spelled s.DivideAssign e = cc
is_spelled s.RemainderAssign e = cc
is_spelled s.Scope e = cc
is_spelled s.Arrow e = cc
is_spelled s.Plus e = refl
is_spelled s.Minus e = refl
is_spelled s.Times e = refl
is_spelled s.Divide e = refl
is_spelled s.Remainder e = refl
is_spelled s.Less e = refl
is_spelled s.Greater e = refl
is_spelled s.Bang e = cc
is_spelled s.Assign e = cc
is_spelled s.Dot e = cc
is_spelled s.OpenParenthesis e = cc
is_spelled s.CloseParenthesis e = cc
is_spelled s.OpenBracket e = cc
is_spelled s.CloseBracket e = cc
is_spelled s.Comma e = cc
is_spelled s.Semicolon e = cc
is_spelled s.Question e = cc
is_spelled s.Colon e = cc
