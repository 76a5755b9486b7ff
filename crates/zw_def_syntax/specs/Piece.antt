-- What stands at the front of some characters: a token, or what lies between tokens.
use Rattle.std.specs.Prelude.{ℕ, Option, Some, None, Result, Ok, Err}
use Rattle.zw_def_syntax.specs.Token.{Kind, Reason}

-- how many characters it has; blanks and comments are no token
pub record Piece : Type 0 where
  pub kind : Option Kind
  pub size : ℕ

abbrev pub Reading : Type 0
Reading = Result Piece Reason

abbrev pub token : Kind → ℕ → Reading
token kind size = Ok (record { kind = Some kind; size = size })

abbrev pub gap : ℕ → Reading
gap size = Ok (record { kind = None; size = size })

abbrev pub refused : Reason → Reading
refused reason = Err reason
