-- What the contents of texts stand for.
use Rattle.std.specs.Prelude.{◌≡◌, ℕ, Bool, false, [], ◌∷◌, if◌then◌else◌, Option, Some, None, Result, Ok, Err, codes, string_bytes}
use Rattle.std.specs.Str.{encode_utf8_all, all_scalars}
use Rattle.zw_base.specs.declared.fault.Fault.{Fault}
use Rattle.zw_base.specs.declared.fault.Fault.TheVariants.{Refused, Memory}
use Rattle.zw_def.specs.Text.{Text}
use Rattle.zw_def_syntax.specs.Character.{Characters, begins}
use Rattle.zw_def_syntax.specs.Content as defined
use Rattle.zw_def_syntax.specs.Token as defined_token
use Rattle.zw_lexer.specs.Fault.{reason_seen}
use Rattle.zw_lexer.specs.declared.fault.Reason.{Reason}
use Rattle.zw_lexer.specs.declared.content.Start.{Start}
use Rattle.zw_lexer.specs.declared.content.Start.TheVariants.{SingleQuote, DoubleQuote, ClosingBrace}
use Rattle.zw_lexer.specs.declared.content.Element.{Element}
use Rattle.zw_lexer.specs.declared.content.Content.{Content}

abbrev pub element_seen : Element → defined.Element
element_seen e = record { character = e.character; size = e.size }

-- ---- what ends a text, and what else stands in it, by what it stands after

abbrev pub ends_at : Start → Characters → Bool
ends_at SingleQuote = begins (codes "'")
ends_at DoubleQuote = begins (codes "\"")
ends_at ClosingBrace = begins (codes "\"")

abbrev pub opens_at : Start → Characters → Bool
opens_at SingleQuote = λ cs. false
opens_at DoubleQuote = begins (codes "#{")
opens_at ClosingBrace = begins (codes "#{")

abbrev pub element_by : Start → Characters → Option defined.Element
element_by SingleQuote = defined.single_element
element_by DoubleQuote = defined.double_element
element_by ClosingBrace = defined.double_element

abbrev pub content_after : Start → Characters → Result defined.Content defined_token.Reason
content_after start cs = defined.content (ends_at start) (opens_at start) (element_by start) 0 cs

-- what a content is that ends the text, and one that opens a `#{`
abbrev pub whole_kind : Start → Text → defined_token.Kind
whole_kind SingleQuote = defined_token.text
whole_kind DoubleQuote = defined_token.text
whole_kind ClosingBrace = defined_token.text_end

abbrev pub front_kind : Start → Text → defined_token.Kind
front_kind SingleQuote = defined_token.text_begin
front_kind DoubleQuote = defined_token.text_begin
front_kind ClosingBrace = defined_token.text_middle

abbrev pub token_kind : Start → Bool → Text → defined_token.Kind
token_kind start opens = if opens then front_kind start else whole_kind start

-- ---- contents that are read

-- a content is read as defined; want of memory says nothing
abbrev pub Holds : defined.Content → Content → Type 0
Holds content read =
    (string_bytes read.held ≡ encode_utf8_all content.held) × (read.opens ≡ content.opens) × (read.size ≡ content.size)

abbrev pub ReadsContent : Result Content (Fault Reason) → Result defined.Content defined_token.Reason → Type 0
ReadsContent (Ok read) content = (held : defined.Content) × (content ≡ Ok held) × Holds held read
ReadsContent (Err (Refused reason)) content = content ≡ Err (reason_seen reason)
ReadsContent (Err Memory) content = Unit {0}

-- the character with a code
abbrev pub character_with : ℕ → Option ℕ
character_with code = if all_scalars (code ∷ []) then Some code else None
