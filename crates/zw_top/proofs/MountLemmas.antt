-- One listed path, and a file that is put into the tree.
use Rattle.std.proofs.Common.{◌≡◌, ◌<◌, ◌≤◌, ◌+◌, ◌||◌, ◌&&◌, not, Bool, true, false, List, [], ◌∷◌, Option, Some, None, Result, Ok, Err, IfSome, length, nat_lt, take, cond, refl, sym, ap, subst, inl, inr, ◌∙◌, arith}
use Rattle.std.specs.List.{list_any}
use Rattle.std.specs.Option.{option_or}
use Rattle.std.specs.Str.{IsUtf8, is_utf8}
use Rattle.std.proofs.lemmas.Bool.{cases_Bool}
use Rattle.std.proofs.lemmas.List.{length-take, take_all}
use Rattle.std.proofs.lemmas.List.Sums.{sum_by-cons}
use Rattle.std.proofs.lemmas.Option.{same_Some}
use Rattle.std.proofs.lemmas.Bool.Decides.{nat_tests}
use Rattle.std.proofs.lemmas.Str.{IsUtf8-from_is_utf8, is_utf8-from_IsUtf8}
use Rattle.zw_lemmas.proofs.AnyLemmas.{list_any-or}
use Rattle.zw_def.specs.Text.{Text}
use Rattle.zw_def.specs.Path.{Path, same_path, is_below, precedes}
use Rattle.zw_def.specs.Tree.{File, Tree, admits, is_in_the_way, is_ruby_path, size_of, with_file}
use Rattle.zw_def.specs.Folder.{Listing}
use Rattle.zw_def_thin.specs.Limit.{most_files, most_file_bytes, most_tree_bytes}
use Rattle.zw_def_thin.specs.Mount.{grown, with_text, with_listed, mounted}
use Rattle.zw_def_thin.specs.Refusal.{Start, ◌>>=◌, many_files, large_file, large_tree}
use Rattle.zw_base.specs.declared.fault.Fault.{Fault}
use Rattle.zw_base.specs.declared.fault.Fault.TheVariants.{Refused}
use Rattle.zw_base.specs.declared.fault.Fault.TheVariants as faults
use Rattle.zw_tree.specs.Edit.{is_blocked, tree_with, without_file}
use Rattle.zw_tree.specs.Stage.{Stage, max_file, max_files, max_tree, is_too_large, put_refusal}
use Rattle.zw_tree.specs.declared.fault.TreeFault.TheVariants.{Fixed, NotRuby, InTheWay, TooLarge}
use Rattle.zw_top.specs.Start.{GivesTree}
use Rattle.zw_top.specs.Refusal.{Gives, Stops}
use Rattle.zw_top.specs.declared.refusal.Stop.{Stop}
use Rattle.zw_top.specs.declared.refusal.Stop.TheVariants as stop

pub is_utf8-false : (bytes : Text) → ¬ (IsUtf8 bytes) → is_utf8 bytes ≡ false
is_utf8-false bytes other = elim (cases_Bool (is_utf8 bytes)) [
  | inl valid ↦ absurd (other (IsUtf8-from_is_utf8 bytes valid))
  | inr no_text ↦ no_text
]

pub with_other : (told : Option Listing) (fixed : Path) (tree : Tree) (bytes : Text) → ¬ (IsUtf8 bytes) → IfSome told (λ l. with_listed fixed l.files tree bytes ≡ Ok tree)
with_other None fixed tree bytes other = tt
with_other (Some l) fixed tree bytes other = ap (λ t. cond t (with_text fixed l.files tree bytes) (Ok tree)) (is_utf8-false bytes other)

pub with_valid : (told : Option Listing) (fixed : Path) (old tree : Tree) (bytes : Text) (result : Result (Unit {0}) (Fault Stop)) → IsUtf8 bytes → IfSome told (λ l. GivesTree result tree (with_text fixed l.files old bytes)) → IfSome told (λ l. GivesTree result tree (with_listed fixed l.files old bytes))
with_valid None fixed old tree bytes result valid gives = tt
with_valid (Some l) fixed old tree bytes result valid gives =
    let same : with_listed fixed l.files old bytes ≡ with_text fixed l.files old bytes = ap (λ t. cond t (with_text fixed l.files old bytes) (Ok old)) (is_utf8-from_IsUtf8 bytes valid) in
    subst (λ (start : Start Tree). GivesTree result tree start) (sym same) gives

-- ---- a file that is taken

or_none : (a b : Bool) → (a || b) ≡ false → (a ≡ false) × (b ≡ false)
or_none true b h = absurd (cc)
or_none false b h = (refl, h)

and_both : (a b : Bool) → (a && b) ≡ true → (a ≡ true) × (b ≡ true)
and_both true b h = (refl, h)
and_both false b h = absurd (cc)

not_true : (a : Bool) → not a ≡ true → a ≡ false
not_true true h = absurd (cc)
not_true false h = refl

-- without a file at the path there is none to take out
without_none : (tree : Tree) (path : Path) → list_any (λ f. same_path f.path path) tree ≡ false → without_file tree path ≡ tree
without_none [] path none = refl
without_none (f ∷ fs) path none =
    let parts = or_none (same_path f.path path) (list_any (λ g. same_path g.path path) fs) none in
    ap (λ b. cond (not b) (f ∷ without_file fs path) (without_file fs path)) parts.0 ∙ ap (λ gs. f ∷ gs) (without_none fs path parts.1)

length_with : (tree : Tree) (path : Path) (text : Text) → length (with_file tree path text) ≡ length tree + 1
length_with [] path text = refl
length_with (f ∷ fs) path text = by (precedes path f.path) (length_with fs path text) where
  by : (b : Bool) → length (with_file fs path text) ≡ length fs + 1 → length (cond b (record { path = path; text = text } ∷ f ∷ fs) (f ∷ with_file fs path text)) ≡ length (f ∷ fs) + 1
  by true same = omega arith
  by false same = omega (arith, same)

size-more : (f : File) (fs : Tree) → size_of (f ∷ fs) ≡ length f.text + size_of fs
size-more f fs = sum_by-cons (λ (g : File). length g.text) f fs

size_with : (tree : Tree) (path : Path) (text : Text) → size_of (with_file tree path text) ≡ size_of tree + length text
size_with [] path text = omega (arith, size-more (record { path = path; text = text }) [])
size_with (f ∷ fs) path text = by (precedes path f.path) (size_with fs path text) where
  by : (b : Bool) → size_of (with_file fs path text) ≡ size_of fs + length text → size_of (cond b (record { path = path; text = text } ∷ f ∷ fs) (f ∷ with_file fs path text)) ≡ size_of (f ∷ fs) + length text
  by true same = omega (arith, size-more (record { path = path; text = text }) (f ∷ fs), size-more f fs)
  by false same = omega (arith, same, size-more f fs, size-more f (with_file fs path text))

-- a file that is taken is put, within the limits
module _ (s : Stage) (path : Path) (taken : admits s.fixed s.staged path ≡ true) where
  ruby_and_not_fixed : (is_ruby_path path && not (list_any (same_path path) s.fixed)) ≡ true
  ruby_and_not_fixed = (and_both (is_ruby_path path && not (list_any (same_path path) s.fixed)) (not (is_in_the_way s.staged path)) taken).0

  free : is_in_the_way s.staged path ≡ false
  free = not_true (is_in_the_way s.staged path) (and_both (is_ruby_path path && not (list_any (same_path path) s.fixed)) (not (is_in_the_way s.staged path)) taken).1

  -- no file has the path or stands below it, and none stands above it
  apart : ((list_any (λ (f : File). same_path f.path path) s.staged || list_any (λ (f : File). is_below f.path path) s.staged) ≡ false) × (list_any (λ (f : File). is_below path f.path) s.staged ≡ false)
  apart =
      or_none _ (list_any (λ (f : File). is_below path f.path) s.staged)
      (ap (λ b. b || list_any (λ (f : File). is_below path f.path) s.staged) (sym (list_any-or (λ (f : File). same_path f.path path) (λ (f : File). is_below f.path path) s.staged))
      ∙ sym (list_any-or (λ (f : File). same_path f.path path || is_below f.path path) (λ (f : File). is_below path f.path) s.staged) ∙ free)

  parted : (list_any (λ (f : File). same_path f.path path) s.staged ≡ false) × (list_any (λ (f : File). is_below f.path path) s.staged ≡ false)
  parted = or_none (list_any (λ (f : File). same_path f.path path) s.staged) (list_any (λ (f : File). is_below f.path path) s.staged) apart.0

  unblocked : is_blocked s.staged path ≡ false
  unblocked =
      list_any-or (λ (f : File). is_below f.path path) (λ (f : File). is_below path f.path) s.staged
      ∙ ap (λ b. b || list_any (λ (f : File). is_below path f.path) s.staged) parted.1 ∙ apart.1

  pub put_as : (text : Text) → tree_with s.staged path text ≡ with_file s.staged path text
  put_as text = ap (λ t. with_file t path text) (without_none s.staged path parted.0)

  pub put_accepted : (text : Text) → length s.staged < most_files → length text ≤ most_file_bytes → size_of s.staged + length text ≤ most_tree_bytes → put_refusal s path text ≡ None
  unfolding most_files most_file_bytes most_tree_bytes max_files max_file max_tree
  put_accepted text few short small =
      let both = and_both (is_ruby_path path) (not (list_any (same_path path) s.fixed)) ruby_and_not_fixed in
      let large : is_too_large (tree_with s.staged path text) text ≡ false = ap (λ t. is_too_large t text) (put_as text) ∙ grind (arith, nat_tests, length_with s.staged path text, size_with s.staged path text, few, short, small) in
      ap (λ b. option_or (cond b (Some Fixed) (cond (not (is_ruby_path path)) (Some NotRuby) None)) (cond (is_blocked s.staged path) (Some InTheWay) (cond (is_too_large (tree_with s.staged path text) text) (Some TooLarge) None))) (not_true (list_any (same_path path) s.fixed) both.1)
      ∙ ap (λ b. option_or (cond (not b) (Some NotRuby) None) (cond (is_blocked s.staged path) (Some InTheWay) (cond (is_too_large (tree_with s.staged path text) text) (Some TooLarge) None))) both.0
      ∙ ap (λ b. cond b (Some InTheWay) (cond (is_too_large (tree_with s.staged path text) text) (Some TooLarge) None)) unblocked
      ∙ ap (λ b. cond b (Some TooLarge) None) large

  -- how many files and bytes there are then
  pub put_length : (text : Text) → length (tree_with s.staged path text) ≡ length s.staged + 1
  put_length text = ap length (put_as text) ∙ length_with s.staged path text

  pub put_size : (text : Text) → size_of (tree_with s.staged path text) ≡ size_of s.staged + length text
  put_size text = ap size_of (put_as text) ∙ size_with s.staged path text

-- a file within the limits
pub grown_in : (tree : Tree) (path : Path) (text : Text) → length tree < most_files → length text ≤ most_file_bytes → size_of tree + length text ≤ most_tree_bytes → grown tree path text ≡ Ok (with_file tree path text)
grown_in tree path text few short small =
    let files : nat_lt most_files (length tree + 1) ≡ false = grind (arith, nat_tests, few) in
    let bytes : nat_lt most_file_bytes (length text) ≡ false = grind (arith, nat_tests, short) in
    let all : nat_lt most_tree_bytes (size_of tree + length text) ≡ false = grind (arith, nat_tests, small) in
    ap (λ b. cond b (Err many_files) (cond (nat_lt most_file_bytes (length text)) (Err (large_file path)) (cond (nat_lt most_tree_bytes (size_of tree + length text)) (Err large_tree) (Ok (with_file tree path text))))) files
    ∙ ap (λ b. cond b (Err (large_file path)) (cond (nat_lt most_tree_bytes (size_of tree + length text)) (Err large_tree) (Ok (with_file tree path text)))) bytes
    ∙ ap (λ b. cond b (Err large_tree) (Ok (with_file tree path text))) all

-- a front of a text that is no longer than a file may be is the whole
pub whole_front : (front text : Text) → front ≡ take (most_file_bytes + 1) text → length front ≤ most_file_bytes → front ≡ text
whole_front front text is short = is ∙ take_all (most_file_bytes + 1) text (grind (arith, length-take (most_file_bytes + 1) text, ap length is, short))

-- ---- the listed paths

-- one path more
pub mounts_on : (told now : Option Listing) (fixed : Path) (old new : Tree) (bytes : Text) (rest all : List Text) → now ≡ told → IfSome now (λ l. GivesTree (Ok tt) new (with_listed fixed l.files old bytes))
    → IfSome told (λ l. mounted fixed l.files old (bytes ∷ rest) ≡ mounted fixed l.files [] all) → IfSome told (λ l. mounted fixed l.files new rest ≡ mounted fixed l.files [] all)
mounts_on None now fixed old new bytes rest all same gives told = tt
mounts_on (Some l) None fixed old new bytes rest all same gives told = absurd (cc)
mounts_on (Some l) (Some m) fixed old new bytes rest all same gives told =
    let is : with_listed fixed l.files old bytes ≡ Ok new = subst (λ (x : Listing). with_listed fixed x.files old bytes ≡ Ok new) (same_Some m l same) gives in
    sym (ap (λ r. r >>= λ larger. mounted fixed l.files larger rest) is) ∙ told

pub mounts_refused : {X : Type 0} (seen : X → Tree) (told now : Option Listing) (fixed : Path) (old new : Tree) (bytes : Text) (rest all : List Text) (fault : Fault Stop) → now ≡ told → IfSome now (λ l. GivesTree (Err fault) new (with_listed fixed l.files old bytes))
    → IfSome told (λ l. mounted fixed l.files old (bytes ∷ rest) ≡ mounted fixed l.files [] all) → IfSome told (λ l. Gives seen (Err fault) (mounted fixed l.files [] all))
mounts_refused seen None now fixed old new bytes rest all fault same gives told = tt
mounts_refused seen (Some l) None fixed old new bytes rest all fault same gives told = absurd (cc)
mounts_refused seen (Some l) (Some m) fixed old new bytes rest all fault same gives told =
    subst (Stops fault) told (stops_behind fault (subst (λ (x : Listing). Stops fault (with_listed fixed x.files old bytes)) (same_Some m l same) gives))
  where
    stops_behind : (f : Fault Stop) → Stops f (with_listed fixed l.files old bytes) → Stops f (mounted fixed l.files old (bytes ∷ rest))
    stops_behind (Refused (stop.Refusal r)) is = ap (λ s. s >>= λ larger. mounted fixed l.files larger rest) is
    stops_behind (Refused stop.FolderFault) is = tt
    stops_behind faults.Memory is = tt
