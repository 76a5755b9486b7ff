-- What a cursor shows: what is still to be read, and the names by which it is told.
use Rattle.std.specs.Prelude.{ℕ, List}
use Rattle.zw_def.specs.Text.{Text}
use Rattle.zw_def.specs.Names.{texts_of}
use Rattle.zw_def_syntax.specs.Input.{Input}
use Rattle.zw_lexer.specs.declared.token.Token.{Token}
use Rattle.zw_lexer.specs.Token.{tokens_seen}

pub record Front : Type 0 where
  pub input : Input
  pub names : List Text

-- tokens, the variables that are known, and how many brackets are open
abbrev pub front_seen : List Text → List Token → List ℕ → ℕ → Front
front_seen names tokens known open_brackets = record {
  input = record { rest = tokens_seen names tokens; known = texts_of names known; open_brackets = open_brackets };
  names = names;
}
