-- The table of keywords.
use Rattle.std.proofs.Common.{◌≡◌, Bool, true, false, cond, List, [], ◌∷◌, map, find, Some, None, option_map, refl, ap, sym, ◌∙◌, if◌then◌else◌, ◌||◌}
use Rattle.std.specs.List.{list_any}
use Rattle.std.specs.Str.{bytes_eq}
use Rattle.zw_lemmas.proofs.FindLemmas.{find-map}
use Rattle.zw_lemmas.proofs.TextLemmas.{same_text}
use Rattle.zw_def.specs.Text.{Text}
use Rattle.zw_def_syntax.specs.Character.{words}
use Rattle.zw_def_syntax.specs.Lexed.{is_among, keywords}
use Rattle.zw_lexer.specs.declared.keyword.TheConstants.{KEYWORDS}
use Rattle.zw_lexer.specs.Keyword.{keyword_text}

-- the table has the keywords in the order of the definition
table_told : map keyword_text KEYWORDS ≡ words keywords
unfolding keywords
table_told = refl

-- a word that is found is that word
find_word : (word : Text) (texts : List Text) → find (bytes_eq word) texts ≡ (if list_any (bytes_eq word) texts then Some word else None)
find_word word [] = refl
find_word word (t ∷ ts) = at (bytes_eq word t) refl (find_word word ts) where
  at : (b : Bool) → bytes_eq word t ≡ b → find (bytes_eq word) ts ≡ (if list_any (bytes_eq word) ts then Some word else None)
      → cond b (Some t) (find (bytes_eq word) ts) ≡ (if b || list_any (bytes_eq word) ts then Some word else None)
  at true e rest = ap Some (sym (same_text word t e))
  at false e rest = rest

pub keyword_told : (word : Text) → option_map keyword_text (find (λ k. bytes_eq word (keyword_text k)) KEYWORDS) ≡ (if is_among keywords word then Some word else None)
keyword_told word =
    sym (find-map keyword_text (bytes_eq word) KEYWORDS) ∙ ap (find (bytes_eq word)) table_told ∙ find_word word (words keywords)
