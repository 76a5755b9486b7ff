-- Keywords, by their texts.
use Rattle.std.specs.Prelude.{codes}
use Rattle.zw_def.specs.Text.{Text}
use Rattle.zw_lexer.specs.declared.keyword.Keyword.{Keyword}
use Rattle.zw_lexer.specs.declared.keyword.Keyword.TheVariants as k

abbrev pub keyword_text : Keyword → Text
keyword_text k.And = codes "and"
keyword_text k.Begin = codes "begin"
keyword_text k.Break = codes "break"
keyword_text k.Class = codes "class"
keyword_text k.Def = codes "def"
keyword_text k.Do = codes "do"
keyword_text k.Else = codes "else"
keyword_text k.Elsif = codes "elsif"
keyword_text k.End = codes "end"
keyword_text k.Ensure = codes "ensure"
keyword_text k.False = codes "false"
keyword_text k.If = codes "if"
keyword_text k.Module = codes "module"
keyword_text k.Next = codes "next"
keyword_text k.Nil = codes "nil"
keyword_text k.Not = codes "not"
keyword_text k.Or = codes "or"
keyword_text k.Rescue = codes "rescue"
keyword_text k.Return = codes "return"
keyword_text k.SelfWord = codes "self"
keyword_text k.Super = codes "super"
keyword_text k.Then = codes "then"
keyword_text k.True = codes "true"
keyword_text k.Unless = codes "unless"
keyword_text k.Until = codes "until"
keyword_text k.While = codes "while"
