-- How words are told apart, and which line ends are dropped.
use Rattle.std.proofs.Common.{◌≡◌, Bool, true, false, List, [], ◌∷◌, ◌++◌, map, reverse, Option, Some, None, Result, Ok, Err, refl, ap, sym, ◌∙◌, subst, append_assoc, append-nil, if◌then◌else◌, ◌&&◌}
use Rattle.std.specs.Str.{chars, is_utf8, IsUtf8}
use Rattle.std.specs.Result.{IfErr}
use Rattle.std.proofs.lemmas.Str.{IsUtf8-from_is_utf8, is_utf8-from_IsUtf8}
use Rattle.std.proofs.lemmas.List.{reverse-append}
use Rattle.zw_lexer.specs.declared.token.Token.{Token as Code}
use Rattle.zw_base.specs.declared.fault.Fault.{Fault as CodeFault}
use Rattle.zw_base.specs.declared.fault.Fault.TheVariants as f
use Rattle.zw_lexer.specs.declared.fault.SyntaxFault.{SyntaxFault}
use Rattle.zw_def.specs.Text.{Text}
use Rattle.zw_def_syntax.specs.Token.{Kind, Token, Fault, outside_word, not_utf8}
use Rattle.zw_def_syntax.specs.Lexed.{is_newline, before_tokens, without_ends_before, settled, drops_end, with_kind, prefixed, kind_after, lexed, settled_scan, scan_of}
use Rattle.zw_lexer.specs.Token.{token_seen}
use Rattle.zw_lexer.specs.Settle.{first_of, last_kind, Settles}
use Rattle.zw_lexer.specs.Fault.{Faults}

-- ---- line ends before a closer

-- the tokens before those that are kept
abbrev pub fronted : List Token → List Token → List Token
fronted [] later = later
fronted (t ∷ ts) later = before_tokens t (fronted ts later)

pub fronted_all : (ts : List Token) → fronted ts [] ≡ without_ends_before ts
unfolding without_ends_before
fronted_all [] = refl
fronted_all (t ∷ ts) = ap (before_tokens t) (fronted_all ts)

pub fronted_last : (ts later : List Token) (t : Token) → fronted (ts ++ t ∷ []) later ≡ fronted ts (before_tokens t later)
fronted_last [] later t = refl
fronted_last (u ∷ us) later t = ap (before_tokens u) (fronted_last us later t)

-- ---- settled tokens

-- tokens before those of a result
abbrev pub joined : List Token → Result (List Token) Fault → Result (List Token) Fault
joined front (Ok ts) = Ok (front ++ ts)
joined front (Err fault) = Err fault

pub joined_none : (r : Result (List Token) Fault) → joined [] r ≡ r
joined_none (Ok ts) = refl
joined_none (Err fault) = refl

pub joined_prefixed : (front : List Token) (t : Token) (r : Result (List Token) Fault) → joined front (prefixed t r) ≡ joined (front ++ t ∷ []) r
joined_prefixed front t (Ok ts) = ap Ok (sym (append_assoc front (t ∷ []) ts))
joined_prefixed front t (Err fault) = refl

pub settled_dropped : (before : Option Kind) (t : Token) (ts : List Token) → (is_newline t.kind && drops_end before) ≡ true → settled before (t ∷ ts) ≡ settled before ts
unfolding settled
settled_dropped before t ts e = ap (λ b. if b then settled before ts else with_kind t (λ u. prefixed u (settled (Some u.kind) ts)) (kind_after before t.kind ts)) e

pub settled_kept : (before : Option Kind) (t : Token) (ts : List Token) (kind : Kind) → (is_newline t.kind && drops_end before) ≡ false → kind_after before t.kind ts ≡ Some kind
    → settled before (t ∷ ts) ≡ prefixed (record t { kind = kind }) (settled (Some kind) ts)
unfolding settled
settled_kept before t ts kind e f =
    ap (λ b. if b then settled before ts else with_kind t (λ u. prefixed u (settled (Some u.kind) ts)) (kind_after before t.kind ts)) e
    ∙ ap (with_kind t (λ u. prefixed u (settled (Some u.kind) ts))) f

pub settled_refused : (before : Option Kind) (t : Token) (ts : List Token) → (is_newline t.kind && drops_end before) ≡ false → kind_after before t.kind ts ≡ None
    → settled before (t ∷ ts) ≡ Err (record { line = t.line; reason = outside_word })
unfolding settled
settled_refused before t ts e f =
    ap (λ b. if b then settled before ts else with_kind t (λ u. prefixed u (settled (Some u.kind) ts)) (kind_after before t.kind ts)) e
    ∙ ap (with_kind t (λ u. prefixed u (settled (Some u.kind) ts))) f

last_of_pushed : (xs : List Token) (t : Token) → first_of (reverse (xs ++ t ∷ [])) ≡ Some t.kind
last_of_pushed xs t = ap first_of (reverse-append xs (t ∷ []))

-- one more token is dropped
pub drop_step : (front : List Token) (t : Token) (ts left : List Token) (whole : Result (List Token) Fault) → (is_newline t.kind && drops_end (first_of (reverse front))) ≡ true → left ≡ t ∷ ts
    → joined front (settled (first_of (reverse front)) left) ≡ whole → joined front (settled (first_of (reverse front)) ts) ≡ whole
drop_step front t ts left whole e rest before =
    ap (joined front) (sym (settled_dropped (first_of (reverse front)) t ts e) ∙ ap (settled (first_of (reverse front))) (sym rest)) ∙ before

-- one more token is settled
pub settle_step : (front front' : List Token) (t : Token) (ts left : List Token) (kind : Kind) (whole : Result (List Token) Fault) → (is_newline t.kind && drops_end (first_of (reverse front))) ≡ false
    → kind_after (first_of (reverse front)) t.kind ts ≡ Some kind → front' ≡ front ++ record t { kind = kind } ∷ [] → left ≡ t ∷ ts
    → joined front (settled (first_of (reverse front)) left) ≡ whole → joined front' (settled (first_of (reverse front')) ts) ≡ whole
settle_step front front' t ts left kind whole e told pushed rest before =
    ap (λ xs. joined xs (settled (first_of (reverse xs)) ts)) pushed
    ∙ ap (λ b. joined (front ++ record t { kind = kind } ∷ []) (settled b ts)) (last_of_pushed front (record t { kind = kind }))
    ∙ sym (joined_prefixed front (record t { kind = kind }) (settled (Some kind) ts))
    ∙ ap (joined front) (sym (settled_kept (first_of (reverse front)) t ts kind e told) ∙ ap (settled (first_of (reverse front))) (sym rest))
    ∙ before

-- a token is refused
pub fault_step : (fault : CodeFault SyntaxFault) (later names : List Text) (old new : List Code) (t : Token) (ts left : List Token) (whole : Result (List Token) Fault)
    → (is_newline t.kind && drops_end (last_kind names old)) ≡ false → Settles (Err fault) later old new t ts → left ≡ t ∷ ts
    → joined (map (token_seen names) old) (settled (last_kind names old) left) ≡ whole → Faults fault whole
fault_step (f.Refused fault) later names old new t ts left whole e steps rest before =
    let (none, line) = steps names in
    sym before ∙ ap (joined (map (token_seen names) old)) (ap (settled (last_kind names old)) rest ∙ settled_refused (last_kind names old) t ts e none ∙ ap Err (sym line))
fault_step f.Memory later names old new t ts left whole e steps rest before = tt

pub settled_all : (front : List Token) (left : List Token) (whole : Result (List Token) Fault) → left ≡ [] → joined front (settled (first_of (reverse front)) left) ≡ whole → whole ≡ Ok front
unfolding settled
settled_all front left whole none before = sym before ∙ ap (λ ts. joined front (settled (first_of (reverse front)) ts)) none ∙ ap Ok (append-nil front)

-- a text in UTF-8 has the tokens of its characters
lexed_characters : (text : Text) → is_utf8 text ≡ true → lexed text ≡ settled_scan (scan_of (chars text))
unfolding lexed
lexed_characters text e = ap (λ b. if b then settled_scan (scan_of (chars text)) else Err (record { line = 1; reason = not_utf8 })) e

pub lexed_as : (bytes text : Text) → IsUtf8 bytes → text ≡ bytes → lexed bytes ≡ settled_scan (scan_of (chars text))
lexed_as bytes text utf8 same = lexed_characters bytes (is_utf8-from_IsUtf8 bytes utf8) ∙ ap (λ t. settled_scan (scan_of (chars t))) (sym same)

pub lexed_other : (text : Text) → is_utf8 text ≡ false → lexed text ≡ Err (record { line = 1; reason = not_utf8 })
unfolding lexed
lexed_other text e = ap (λ b. if b then settled_scan (scan_of (chars text)) else Err (record { line = 1; reason = not_utf8 })) e

pub other_text : (text : Text) → (IsUtf8 text → ⊥) → is_utf8 text ≡ false
other_text text none = at (is_utf8 text) refl where
  at : (b : Bool) → is_utf8 text ≡ b → b ≡ false
  at true e = absurd (none (IsUtf8-from_is_utf8 text e))
  at false e = refl

pub map_Faults : {T : Type 0} (r : Result T (CodeFault SyntaxFault)) (a b : Result (List Token) Fault) → a ≡ b → IfErr r (λ fault. Faults fault a) → IfErr r (λ fault. Faults fault b)
map_Faults (Ok t) a b e h = h
map_Faults (Err fault) a b e h = subst (Faults fault) e h
