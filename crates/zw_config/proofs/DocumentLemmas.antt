-- Bytes that are a document, and bytes that are none.
use Rattle.std.proofs.Common.{◌≡◌, cond, Some, None, Ok, Err, ap, ◌∙◌, inl, inr}
use Rattle.std.specs.Option.{ok_or}
use Rattle.std.specs.Str.{IsUtf8, is_utf8}
use Rattle.std.proofs.lemmas.Bool.{cases_Bool}
use Rattle.std.proofs.lemmas.Str.{IsUtf8-from_is_utf8, is_utf8-from_IsUtf8}
use Rattle.toml.specs.Data.{Members}
use Rattle.toml.specs.Parse.{parse_document}
use Rattle.zw_def.specs.Text.{Text}
use Rattle.zw_def_config.specs.Fault.{not_toml}
use Rattle.zw_def_config.specs.Configuration.{document}

pub document_read : (bytes : Text) (t : Members) → IsUtf8 bytes → parse_document bytes ≡ Some t → document bytes ≡ Ok t
document_read bytes t text read =
    ap (λ b. ok_or (cond b (parse_document bytes) None) not_toml) (is_utf8-from_IsUtf8 bytes text) ∙ ap (λ o. ok_or o not_toml) read

pub document_refused : (bytes : Text) → (IsUtf8 bytes → parse_document bytes ≡ None) → document bytes ≡ Err not_toml
document_refused bytes none = elim (cases_Bool (is_utf8 bytes)) [
  | inl text ↦ ap (λ b. ok_or (cond b (parse_document bytes) None) not_toml) text ∙ ap (λ o. ok_or o not_toml) (none (IsUtf8-from_is_utf8 bytes text))
  | inr other ↦ ap (λ b. ok_or (cond b (parse_document bytes) None) not_toml) other
]
