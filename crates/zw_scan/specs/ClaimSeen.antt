-- What the code's rows of files stand for. Their names are told by a list of texts.
use Rattle.std.specs.Prelude.{ℕ, List, Result, Ok, Err, IfOk}
use Rattle.zw_def.specs.Text.{Text}
use Rattle.zw_def.specs.Names.{AreNamed, texts_of}
use Rattle.zw_def.specs.Expected.{Expected}
use Rattle.zw_layout.specs.declared.expected.WrongName.{WrongName}
use Rattle.zw_layout.specs.Expects.{wrong_seen}
use Rattle.zw_scan.specs.ClaimTold.{ClaimTold, told_with}
use Rattle.zw_scan.specs.declared.claim.Claim.{Claim}

abbrev pub expected_seen : List Text → Result (List ℕ) WrongName → Expected
expected_seen names (Ok path) = Ok (texts_of names path)
expected_seen names (Err wrong) = Err (wrong_seen wrong)

abbrev pub claim_seen : List Text → Claim → ClaimTold
claim_seen names file = told_with file.path (expected_seen names file.expected)

-- the names of the constant path are among these
abbrev pub IsNamed : List Text → Claim → Type 0
IsNamed names file = IfOk file.expected (AreNamed names)
