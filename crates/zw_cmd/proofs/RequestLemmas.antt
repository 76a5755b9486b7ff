-- What a line asks for.
use Rattle.std.proofs.Common.{◌≡◌, ◌++◌, ◌==◌, ◌⊎◌, inl, inr, cond, not, ℕ, Bool, true, false, [], ◌∷◌, Option, Some, None, is_some, Result, Ok, Err, IfOk, refl, sym, ap, subst, ◌∙◌, arith, lit<}
use Rattle.std.specs.Option.{option_map_or}
use Rattle.std.specs.Str.{IsUtf8, is_utf8}
use Rattle.std.proofs.lemmas.Bool.{false_from_ne_true}
use Rattle.std.proofs.lemmas.Bool.Decides.{nat_tests}
use Rattle.std.proofs.lemmas.Str.{is_utf8-from_IsUtf8, IsUtf8-from_is_utf8, IsUtf8-append, IsUtf8-from_ascii}
use Rattle.std.proofs.lemmas.Str.Ascii.{IsAscii-nil, IsAscii-cons}
use Rattle.zw_def.specs.Text.{Text}
use Rattle.zw_def.specs.ConstantPath.{ConstantPath, constant_path_of}
use Rattle.zw_def_session.specs.Commands as defined
use Rattle.zw_def_session.specs.Commands.{Stream, reads, refuses, with_argument, without_return, is_long_line, is_comment, command_on}
use Rattle.zw_cmd.specs.Seen.{command_seen}
use Rattle.zw_cmd.specs.Request.{reading_for, line_read, text_read, asked_with, IsNamespace}
use Rattle.zw_cmd.specs.declared.command.Command as commands
use Rattle.zw_cmd.specs.declared.request.Request as code

-- ---- UTF-8, with a CR and without one

return_or_none : (line : Text) → (line ≡ without_return line) ⊎ (line ≡ without_return line ++ 13 ∷ [])
return_or_none [] = inl refl
return_or_none (b ∷ []) = by b (b == 13) refl where
  by : (c : ℕ) (t : Bool) → t ≡ (c == 13) → (c ∷ [] ≡ cond t [] (c ∷ [])) ⊎ (c ∷ [] ≡ cond t [] (c ∷ []) ++ 13 ∷ [])
  by c true is = let cr : c ≡ 13 = grind (arith, nat_tests) in inr (ap (λ x. x ∷ []) cr)
  by c false is = inl refl
return_or_none (b ∷ c ∷ more) = on (return_or_none (c ∷ more)) where
  on : {l r : Text} → (l ≡ r) ⊎ (l ≡ r ++ 13 ∷ []) → (b ∷ l ≡ b ∷ r) ⊎ (b ∷ l ≡ b ∷ (r ++ 13 ∷ []))
  on (inl same) = inl (ap (λ t. b ∷ t) same)
  on (inr more) = inr (ap (λ t. b ∷ t) more)

valid_cr : IsUtf8 (13 ∷ [])
valid_cr = IsUtf8-from_ascii (13 ∷ []) (IsAscii-cons 13 [] (lit< tt) IsAscii-nil)

with_cr : (line : Text) → IsUtf8 (without_return line) → IsUtf8 line
with_cr line valid = by (return_or_none line) where
  by : (line ≡ without_return line) ⊎ (line ≡ without_return line ++ 13 ∷ []) → IsUtf8 line
  by (inl same) = subst IsUtf8 (sym same) valid
  by (inr more) = subst IsUtf8 (sym more) (IsUtf8-append (without_return line) (13 ∷ []) valid valid_cr)

pub valid_line : (line : Text) (s : Stream) → IsUtf8 (without_return line) → line_read line s ≡ text_read (without_return line) s
valid_line line s valid = ap (λ b. cond (not b) (refuses defined.not_utf8 s) (text_read (without_return line) s)) (is_utf8-from_IsUtf8 (without_return line) valid)

pub other_line : (line : Text) (s : Stream) → (IsUtf8 line → ⊥) → line_read line s ≡ refuses defined.not_utf8 s
other_line line s other =
    ap (λ b. cond (not b) (refuses defined.not_utf8 s) (text_read (without_return line) s))
    (false_from_ne_true (is_utf8 (without_return line)) (λ valid. other (with_cr line (IsUtf8-from_is_utf8 (without_return line) valid))))

pub line_by : {E : Type 0} (r : Result code.Request E) (line text : Text) → text ≡ line → (stripped : Text) → IsUtf8 stripped → stripped ≡ without_return text
    → IfOk r (λ request. (s : Stream) → reading_for request s ≡ text_read stripped s) → IfOk r (λ request. (s : Stream) → reading_for request s ≡ line_read line s)
line_by (Err e) line text same stripped valid is told = tt
line_by (Ok request) line text same stripped valid is told = λ s.
    let e : stripped ≡ without_return line = is ∙ ap without_return same in
    told s ∙ ap (λ t. text_read t s) e ∙ sym (valid_line line s (subst IsUtf8 e valid))

-- ---- a namespace

namespace_by : (c : commands.Command) (s : Stream) (o : Option ConstantPath) → command_seen c ≡ defined.eager_ns (option_map_or (λ p. p) o []) → is_some o ≡ true → reads (command_seen c) s ≡ with_argument defined.eager_ns s o
namespace_by c s None same some = absurd (cc)
namespace_by c s (Some p) same some = ap (λ d. reads d s) same

pub namespace_reads : (command : Option commands.Command) (text : Text) (s : Stream) → IsNamespace command text → reading_for (asked_with command) s ≡ with_argument defined.eager_ns s (constant_path_of text)
namespace_reads None text s is = ap (with_argument defined.eager_ns s) (sym is)
namespace_reads (Some c) text s is = namespace_by c s (constant_path_of text) is.0 is.1
