-- Lines, one after another, and the text that is made of them.
use Rattle.std.proofs.Common.{◌≡◌, ◌≢◌, ◌≤◌, ◌<◌, ◌++◌, ◌==◌, ◌&&◌, ◌||◌, true, false, List, [], ◌∷◌, length, nat_lt, refl, sym, ap, ◌∙◌, append-nil, append_assoc, arith}
use Rattle.std.specs.List.{list_all, list_any}
use Rattle.std.specs.Str.{IsUtf8, is_utf8}
use Rattle.std.proofs.lemmas.Bool.{false_from_ne_true}
use Rattle.std.proofs.lemmas.Bool.Decides.{nat_tests}
use Rattle.std.proofs.lemmas.Str.{is_utf8-from_IsUtf8, IsUtf8-from_is_utf8}
use Rattle.zw_def.specs.Text.{Text, joined}
use Rattle.zw_def.specs.Line.{line_of, after_line, line_size, lines_of}
use Rattle.zw_def.proofs.LineLemmas.{lines_step, line_size-some, length_line}
use Rattle.zw_def_session.specs.Commands.{without_return, without_returns, is_long_line}

size_some : (bytes : Text) → bytes ≢ [] → 0 < line_size bytes
size_some [] some = absurd (some refl)
size_some (b ∷ bs) some = line_size-some b bs

pub lines_first : (bytes : Text) → bytes ≢ [] → lines_of bytes ≡ line_of bytes ∷ lines_of (after_line bytes)
lines_first bytes some = lines_step bytes (size_some bytes some)

pub after_less : (bytes : Text) → bytes ≢ [] → length (after_line bytes) < length bytes
after_less bytes some = omega (arith, length_line bytes, size_some bytes some)

pub none_left : (bytes : Text) → true ≡ (length bytes == 0) → bytes ≡ []
none_left [] is = refl
none_left (b ∷ bs) is = absurd (let some : length (b ∷ bs) ≢ 0 = omega arith in some (grind (arith, nat_tests)))

-- ---- too long a line

pub long_first : (bytes line after : Text) → bytes ≢ [] → line ≡ line_of bytes → 1048576 < length line → list_any is_long_line (lines_of bytes) ≡ true
long_first bytes line after some is long =
    ap (list_any is_long_line) (lines_first bytes some) ∙ ap (λ b. b || list_any is_long_line (lines_of (after_line bytes))) (let e : nat_lt 1048576 (length (line_of bytes)) ≡ true = grind (arith, nat_tests, ap length is) in e)

pub long_next : (bytes line after : Text) → bytes ≢ [] → line ≡ line_of bytes → after ≡ after_line bytes → length line ≤ 1048576 → list_any is_long_line (lines_of after) ≡ list_any is_long_line (lines_of bytes)
long_next bytes line after some is rest short =
    sym (ap (list_any is_long_line) (lines_first bytes some) ∙ ap (λ b. b || list_any is_long_line (lines_of (after_line bytes))) (let e : nat_lt 1048576 (length (line_of bytes)) ≡ false = grind (arith, nat_tests, ap length is) in e) ∙ ap (λ t. list_any is_long_line (lines_of t)) (sym rest))

-- ---- the text

pub valid_next : (bytes line after : Text) → bytes ≢ [] → line ≡ line_of bytes → after ≡ after_line bytes → IsUtf8 line → list_all is_utf8 (lines_of after) ≡ list_all is_utf8 (lines_of bytes)
valid_next bytes line after some is rest valid =
    sym (ap (list_all is_utf8) (lines_first bytes some) ∙ ap (λ b. b && list_all is_utf8 (lines_of (after_line bytes))) (ap is_utf8 (sym is) ∙ is_utf8-from_IsUtf8 line valid) ∙ ap (λ t. list_all is_utf8 (lines_of t)) (sym rest))

pub other_first : (bytes line : Text) → bytes ≢ [] → line ≡ line_of bytes → (IsUtf8 line → ⊥) → list_all is_utf8 (lines_of bytes) ≡ false
other_first bytes line some is other =
    ap (list_all is_utf8) (lines_first bytes some) ∙ ap (λ b. b && list_all is_utf8 (lines_of (after_line bytes))) (ap is_utf8 (sym is) ∙ false_from_ne_true (is_utf8 line) (λ valid. other (IsUtf8-from_is_utf8 line valid)))

-- the line is the last one
pub joined_last : (bytes line after text more : Text) → bytes ≢ [] → line ≡ line_of bytes → after ≡ after_line bytes → after ≡ [] → more ≡ text ++ without_return line → more ++ joined 10 (without_returns (lines_of after)) ≡ text ++ joined 10 (without_returns (lines_of bytes))
joined_last bytes line after text more some is rest none adds =
    ap (λ t. more ++ joined 10 (without_returns (lines_of t))) none ∙ append-nil more ∙ adds ∙ ap (λ t. text ++ without_return t) is
    ∙ sym (ap (λ ls. text ++ joined 10 (without_returns ls)) (lines_first bytes some ∙ ap (λ t. line_of bytes ∷ lines_of t) (sym rest ∙ none)))

-- more lines follow
pub joined_next : (bytes line after text more : Text) → bytes ≢ [] → line ≡ line_of bytes → after ≡ after_line bytes → after ≢ [] → more ≡ (text ++ without_return line) ++ 10 ∷ [] → more ++ joined 10 (without_returns (lines_of after)) ≡ text ++ joined 10 (without_returns (lines_of bytes))
joined_next bytes line after text more some is rest others adds =
    ap (λ t. t ++ joined 10 (without_returns (lines_of after))) adds
    ∙ append_assoc (text ++ without_return line) (10 ∷ []) (joined 10 (without_returns (lines_of after)))
    ∙ append_assoc text (without_return line) (10 ∷ joined 10 (without_returns (lines_of after)))
    ∙ ap (λ t. text ++ t) (ap (λ t. without_return t ++ 10 ∷ joined 10 (without_returns (lines_of after))) is ∙ sym (by (lines_of after) (lines_first after others)) ∙ ap (λ t. joined 10 (without_returns (line_of bytes ∷ lines_of t))) rest ∙ ap (λ ls. joined 10 (without_returns ls)) (sym (lines_first bytes some)))
  where
    by : (ls : List Text) → ls ≡ line_of after ∷ lines_of (after_line after) → joined 10 (without_returns (line_of bytes ∷ ls)) ≡ without_return (line_of bytes) ++ 10 ∷ joined 10 (without_returns ls)
    by [] is = absurd (cc)
    by (l ∷ ls) is = refl
