-- What a session writes: its lines, and how it ends.
use Rattle.std.specs.Prelude.{List, [], ◌∷◌, ◌++◌, codes, map}
use Rattle.std.specs.List.{concat}
use Rattle.zw_def.specs.Text.{Text}
use Rattle.zw_def_thin.specs.Refusal.{Refusal, Ending, line_of_refusal, ending_of_refusal}

-- lines without their LF
pub record Output : Type 0 where
  pub lines : List Text
  pub ending : Ending

abbrev pub text_of_lines : List Text → Text
text_of_lines lines = concat (map (λ line. line ++ codes "\n") lines)

abbrev pub refused : Refusal → Output
refused refusal = record { lines = line_of_refusal refusal ∷ []; ending = ending_of_refusal refusal }
