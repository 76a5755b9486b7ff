-- The table of signs.
use Rattle.std.proofs.Common.{◌≡◌, map, find, option_map, refl, ap, sym, ◌∙◌}
use Rattle.zw_lemmas.proofs.FindLemmas.{find-map}
use Rattle.zw_def_syntax.specs.Character.{Characters, begins, words}
use Rattle.zw_def_syntax.specs.Scan.{signs, sign_at}
use Rattle.zw_lexer.specs.Punctuation.{sign_text}
use Rattle.zw_lexer.specs.declared.punctuation.TheConstants.{SIGNS}

-- the table has the signs in the order of the definition
table_told : map sign_text SIGNS ≡ words signs
unfolding signs
table_told = refl

pub sign_found : (cs : Characters) → option_map sign_text (find (λ s. begins (sign_text s) cs) SIGNS) ≡ sign_at cs
unfolding sign_at
sign_found cs = sym (find-map sign_text (λ s. begins s cs) SIGNS) ∙ ap (find (λ s. begins s cs)) table_told
