-- What the faults of this crate stand for.
use Rattle.std.specs.Prelude.{◌≡◌, Result, Ok, Err}
use Rattle.zw_base.specs.declared.fault.Fault.{Fault}
use Rattle.zw_base.specs.declared.fault.Fault.TheVariants.{Refused, Memory}
use Rattle.zw_def_syntax.specs.Token as defined
use Rattle.zw_lexer.specs.declared.fault.Reason.{Reason}
use Rattle.zw_lexer.specs.declared.fault.Reason.TheVariants as r
use Rattle.zw_lexer.specs.declared.fault.SyntaxFault.{SyntaxFault}

abbrev pub reason_seen : Reason → defined.Reason
reason_seen r.NotUtf8 = defined.not_utf8
reason_seen r.OutsideCharacter = defined.outside_character
reason_seen r.OutsideNumber = defined.outside_number
reason_seen r.UnendedText = defined.unended_text
reason_seen r.OutsideEscape = defined.outside_escape
reason_seen r.OutsideWord = defined.outside_word
reason_seen r.NamelessVariable = defined.nameless_variable
reason_seen r.UnendedInterpolation = defined.unended_interpolation
reason_seen r.Malformed = defined.malformed
reason_seen r.MisplacedJump = defined.misplaced_jump
reason_seen r.MisplacedDef = defined.misplaced_def
reason_seen r.DefinitionInMethod = defined.definition_in_method
reason_seen r.RepeatedParameter = defined.repeated_parameter

abbrev pub fault_seen : SyntaxFault → defined.Fault
fault_seen f = record { line = f.line; reason = reason_seen f.reason }

-- what is read is the definition's, as the types of the code stand for it; want of memory says nothing
abbrev pub Agrees : {X Y E R : Type 0} → (X → Y) → (E → R) → Result X (Fault E) → Result Y R → Type 0
Agrees value_seen reason_seen (Ok value) reading = reading ≡ Ok (value_seen value)
Agrees value_seen reason_seen (Err (Refused reason)) reading = reading ≡ Err (reason_seen reason)
Agrees value_seen reason_seen (Err Memory) reading = Unit {0}

-- the fault is the definition's; want of memory says nothing
abbrev pub Faults : {Y : Type 0} → Fault SyntaxFault → Result Y defined.Fault → Type 0
Faults (Refused fault) reading = reading ≡ Err (fault_seen fault)
Faults Memory reading = Unit {0}
