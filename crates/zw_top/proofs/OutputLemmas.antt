-- The lines that requests write, and their text.
use Rattle.std.proofs.Common.{◌≡◌, ◌≤◌, ◌+◌, ◌++◌, ℕ, List, [], ◌∷◌, Option, Some, None, Ok, Err, take, length, codes, refl, sym, ap, subst, ◌∙◌, append_assoc, append-nil, arith, rules, length-append}
use Rattle.std.proofs.lemmas.List.{take-append-le}
use Rattle.std.proofs.Math.Seq.{take-append-add}
use Rattle.zw_def.specs.Text.{Text}
use Rattle.zw_def.specs.Told.{Appends, AppendsFront}
use Rattle.zw_def.proofs.ToldLemmas.{appends_more}
use Rattle.zw_def_thin.specs.Output.{text_of_lines}
use Rattle.zw_def_thin.specs.Session.{Session}
use Rattle.zw_top.specs.Reply.{PutsLine, PutsLines}
use Rattle.zw_top.specs.declared.status.Status.{Status}
use Rattle.zw_top.specs.declared.status.Status.TheVariants.{Done, Usage, Config, ReadFault, WriteFault, FolderFault, Memory, Limit}
use Rattle.zw_top.specs.Script.{Request, Script, behind}
use Rattle.zw_top.specs.Session.{answer_to, lines_of, last_lines, output_in}

-- ---- the text of lines

pub text_of_lines-append : (xs ys : List Text) → text_of_lines (xs ++ ys) ≡ text_of_lines xs ++ text_of_lines ys
text_of_lines-append [] ys = refl
text_of_lines-append (x ∷ xs) ys =
    ap (λ rest. (x ++ codes "\n") ++ rest) (text_of_lines-append xs ys)
    ∙ sym (append_assoc (x ++ codes "\n") (text_of_lines xs) (text_of_lines ys))

pub text_of_one : (line : Text) → text_of_lines (line ∷ []) ≡ line ++ codes "\n"
text_of_one line = append-nil (line ++ codes "\n")

-- ---- what is written

pub front_none : (first : Option Text) (whole : Text) → AppendsFront first first whole
front_none None whole = (0, search rules, refl)
front_none (Some f) whole = (0, search rules, ap Some (sym (append-nil f)))

pub take_seam : (n : ℕ) (a b c : Text) → n ≤ length b → take (length a + n) (a ++ (b ++ c)) ≡ a ++ take n b
take_seam n a b c within = take-append-add a (b ++ c) n ∙ ap (λ x. a ++ x) (take-append-le n b c within)

-- a whole piece, and a front of the next one
pub front_more : (first now new : Option Text) (a b c : Text) → Appends first now a → AppendsFront now new b → AppendsFront first new (a ++ (b ++ c))
front_more first now new a b c whole front = (
  length a + front.0,
  omega (arith, length-append a (b ++ c), length-append b c, front.1),
  appends_more first now new a (take front.0 b) (take (length a + front.0) (a ++ (b ++ c))) whole front.2 (sym (take_seam front.0 a b c front.1)),
)

-- nothing more of what follows
pub front_now : (first now new : Option Text) (a b : Text) → Appends first now a → new ≡ now → AppendsFront first new (a ++ b)
front_now first now new a b whole same = rw same (front_more first now now a [] b whole (front_none now []))

-- a whole piece, and the next one whole
pub whole_more : (first now new : Option Text) (a b : Text) → Appends first now a → Appends now new b → Appends first new (a ++ b)
whole_more first now new a b whole next = appends_more first now new a b (a ++ b) whole next refl

pub appends_nothing : (first : Option Text) → Appends first first []
appends_nothing None = refl
appends_nothing (Some f) = ap Some (sym (append-nil f))

-- ---- lines that are put one after another

-- some lines are put, and these are left
abbrev pub Putting : List Text → List Text → Option Text → Option Text → Type 0
Putting all left first now = (before : List Text) × (before ++ left ≡ all) × Appends first now (text_of_lines before)

pub puts_first : (all left : List Text) (first now : Option Text) → left ≡ all → now ≡ first → Putting all left first now
puts_first all left first now same written = ([], same, rw written (appends_nothing first))

pub puts_next : (all left later : List Text) (line : Text) (first now new : Option Text) → Putting all left first now → left ≡ line ∷ later → PutsLine (Ok tt) line now new → Putting all later first new
puts_next all left later line first now new so is puts = (
  so.0 ++ line ∷ [],
  append_assoc so.0 (line ∷ []) later ∙ ap (λ l. so.0 ++ l) (sym is) ∙ so.1,
  appends_more first now new (text_of_lines so.0) (line ++ codes "\n") (text_of_lines (so.0 ++ line ∷ [])) so.2 puts
      (sym (text_of_lines-append so.0 (line ∷ []) ∙ ap (λ t. text_of_lines so.0 ++ t) (text_of_one line))),
)

pub puts_fail : (all left later : List Text) (line : Text) (status : Status) (first now new : Option Text) → Putting all left first now → left ≡ line ∷ later → PutsLine (Err status) line now new → PutsLines (Err status) all first new
puts_fail all left later line status first now new so is puts = by status puts where
  text : text_of_lines all ≡ text_of_lines so.0 ++ ((line ++ codes "\n") ++ text_of_lines later)
  text = ap text_of_lines (sym so.1 ∙ ap (λ l. so.0 ++ l) is) ∙ text_of_lines-append so.0 (line ∷ later)

  by : (s : Status) → PutsLine (Err s) line now new → PutsLines (Err s) all first new
  by WriteFault front = subst (λ (t : Text). AppendsFront first new t) (sym text) (front_more first now new (text_of_lines so.0) (line ++ codes "\n") (text_of_lines later) so.2 front)
  by Memory same = subst (λ (t : Text). AppendsFront first new t) (sym text) (front_now first now new (text_of_lines so.0) ((line ++ codes "\n") ++ text_of_lines later) so.2 same)
  by Done other = absurd other
  by Usage other = absurd other
  by Config other = absurd other
  by ReadFault other = absurd other
  by FolderFault other = absurd other
  by Limit other = absurd other

pub puts_all : (all left : List Text) (first now : Option Text) → Putting all left first now → left ≡ [] → Appends first now (text_of_lines all)
puts_all all left first now so none = subst (λ (l : List Text). Appends first now (text_of_lines l)) (sym (append-nil so.0) ∙ ap (λ l. so.0 ++ l) (sym none) ∙ so.1) so.2

-- ---- the lines of requests

-- the session after some requests
abbrev pub session_after : Session → List Request → Session
session_after s [] = s
session_after s (r ∷ rs) = session_after (answer_to r s).session rs

pub lines_of-append : (s : Session) (xs ys : List Request) → lines_of s (xs ++ ys) ≡ lines_of s xs ++ lines_of (session_after s xs) ys
lines_of-append s [] ys = refl
lines_of-append s (x ∷ xs) ys =
    ap (λ rest. (answer_to x s).lines ++ rest) (lines_of-append (answer_to x s).session xs ys)
    ∙ sym (append_assoc (answer_to x s).lines (lines_of (answer_to x s).session xs) (lines_of (session_after (answer_to x s).session xs) ys))

pub session_after-append : (s : Session) (xs : List Request) (r : Request) → session_after s (xs ++ r ∷ []) ≡ (answer_to r (session_after s xs)).session
session_after-append s [] r = refl
session_after-append s (x ∷ xs) r = session_after-append (answer_to x s).session xs r

-- one request more
pub lines_of-more : (s : Session) (xs : List Request) (r : Request) → text_of_lines (lines_of s (xs ++ r ∷ [])) ≡ text_of_lines (lines_of s xs) ++ text_of_lines (answer_to r (session_after s xs)).lines
lines_of-more s xs r =
    ap text_of_lines (lines_of-append s xs (r ∷ []) ∙ ap (λ l. lines_of s xs ++ l) (append-nil (answer_to r (session_after s xs)).lines))
    ∙ text_of_lines-append (lines_of s xs) (answer_to r (session_after s xs)).lines

-- some requests, and then a script
pub output-behind : (s : Session) (xs : List Request) (script : Script) → text_of_lines (output_in s (behind xs script)).lines ≡ text_of_lines (lines_of s xs) ++ text_of_lines (output_in (session_after s xs) script).lines
output-behind s xs script =
    ap text_of_lines (ap (λ l. l ++ last_lines script.is_over) (lines_of-append s xs script.requests)
    ∙ append_assoc (lines_of s xs) (lines_of (session_after s xs) script.requests) (last_lines script.is_over))
    ∙ text_of_lines-append (lines_of s xs) (output_in (session_after s xs) script).lines
