-- Tokens, and the faults of a text (ISO/IEC 30170, 8.7, tokens).
use Rattle.std.specs.Prelude.{ℕ, Bool}
use Rattle.zw_def.specs.Text.{Text}

-- what a token is; names, words and signs are told by their texts
pub data Kind : Type 0 where
  -- a line end that separates statements
  newline : Kind
  identifier : Text → Kind
  constant : Text → Kind
  integer : ℕ → Kind
  -- variables, by their names without the `@` or `@@`
  instance_variable : Text → Kind
  class_variable : Text → Kind
  symbol : Text → Kind
  -- a whole text, by the text that it stands for
  text : Text → Kind
  -- the parts of a text with interpolations: up to its first `#{`, from a `}` to the next `#{`, and after its last `}`
  text_begin : Text → Kind
  text_middle : Text → Kind
  text_end : Text → Kind
  keyword : Text → Kind
  sign : Text → Kind

pub record Token : Type 0 where
  pub kind : Kind
  -- the line on which it begins, from 1 on
  pub line : ℕ
  -- how many bytes stand before it, and how many before what follows it
  pub start : ℕ
  pub stop : ℕ
  -- whether a space or a tab stands directly before it, and directly after it
  pub blank_before : Bool
  pub blank_after : Bool

-- why a text is no program
pub data Reason : Type 0 where
  not_utf8 : Reason
  outside_character : Reason
  outside_number : Reason
  unended_text : Reason
  outside_escape : Reason
  outside_word : Reason
  nameless_variable : Reason
  unended_interpolation : Reason
  malformed : Reason
  misplaced_jump : Reason
  misplaced_def : Reason
  definition_in_method : Reason
  repeated_parameter : Reason

-- the number that output has for a reason: its place among these, from 1 on
abbrev pub reason_number : Reason → ℕ
reason_number not_utf8 = 1
reason_number outside_character = 2
reason_number outside_number = 3
reason_number unended_text = 4
reason_number outside_escape = 5
reason_number outside_word = 6
reason_number nameless_variable = 7
reason_number unended_interpolation = 8
reason_number malformed = 9
reason_number misplaced_jump = 10
reason_number misplaced_def = 11
reason_number definition_in_method = 12
reason_number repeated_parameter = 13

pub record Fault : Type 0 where
  pub line : ℕ
  pub reason : Reason
