-- Why a configuration is refused, and the line that it prints then.
use Rattle.std.specs.Prelude.{◌++◌, codes, Result, Ok, Err}
use Rattle.zw_def.specs.Text.{Text}
use Rattle.zw_def_session.specs.Opening.{Refusal, bad_configuration}

-- a key within the tables of an array has the array's name before it, as `root.path`
pub data Fault : Type 0 where
  not_toml : Fault
  unknown_key : Text → Fault
  wrong_kind : Text → Fault
  bad_path : Text → Fault
  bad_constant_path : Text → Fault
  double_root : Text → Fault
  bad_ruby : Text → Fault

abbrev pub fault_text : Fault → Text
fault_text not_toml = codes "not TOML"
fault_text (unknown_key key) = codes "unknown key " ++ key
fault_text (wrong_kind key) = codes "wrong kind " ++ key
fault_text (bad_path key) = codes "bad path " ++ key
fault_text (bad_constant_path key) = codes "bad constant path " ++ key
fault_text (double_root root) = codes "double root " ++ root
fault_text (bad_ruby key) = codes "bad Ruby " ++ key

abbrev pub refusal_of : Fault → Refusal
refusal_of fault = bad_configuration (fault_text fault)

-- ---- what is read, or the first fault

abbrev pub Reading : Type 0 → Type 0
Reading X = Result X Fault

-- what was read goes on to what is read next
infixl 10 ◌>>=◌
abbrev pub ◌>>=◌ : {X Y : Type 0} → Reading X → (X → Reading Y) → Reading Y
(Ok x) >>= more = more x
(Err fault) >>= more = Err fault
