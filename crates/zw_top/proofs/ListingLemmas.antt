-- The listing, path by path.
use Rattle.std.proofs.Common.{◌≡◌, ◌≤◌, ◌<◌, ◌++◌, true, false, List, ◌∷◌, Option, Some, None, Ok, Err, IfSome, length, nat_lt, cond, sym, ap, ◌∙◌, arith, append-nil, length-append}
use Rattle.std.proofs.lemmas.Bool.Decides.{nat_tests}
use Rattle.zw_def.specs.Text.{Text}
use Rattle.zw_def.specs.Folder.{Listing, unlisted}
use Rattle.zw_def.proofs.FolderLemmas.{unlisted-file}
use Rattle.zw_def_thin.specs.Limit.{most_listed}
use Rattle.zw_def_thin.specs.Mount.{listed}
use Rattle.zw_def_thin.specs.Refusal.{long_listing}
use Rattle.zw_io.specs.FolderAnswers.{ListsIfTold}
use Rattle.zw_top.specs.Reading.{ListsOne}

pub lists_one : (old new : Option Listing) (path : Text) → ListsIfTold (Ok true) old path new → ListsOne old (Some path) new
lists_one None new path lists = lists
lists_one (Some l) None path lists = lists
lists_one (Some l) (Some m) path lists =
    (ap (λ x. x.files) lists.1, unlisted-file l path lists.0 ∙ ap (λ rest. path ∷ unlisted rest) (sym lists.1))

-- what was listed, and what is still to be
pub record Listed (all now : Listing) (texts : List Text) : Type 0 where
  pub files : now.files ≡ all.files
  pub split : texts ++ unlisted now ≡ unlisted all

abbrev pub ListedIfTold : Option Listing → Option Listing → List Text → Type 0
ListedIfTold None now texts = now ≡ None
ListedIfTold (Some all) None texts = ⊥
ListedIfTold (Some all) (Some now) texts = Listed all now texts

pub listed_all : (told now new : Option Listing) (texts : List Text) → ListedIfTold told now texts → ListsOne now None new → length texts ≤ most_listed → IfSome told (λ l. listed l ≡ Ok texts)
listed_all None now new texts so lists few = tt
listed_all (Some all) None new texts so lists few = absurd so
listed_all (Some all) (Some n) None texts so lists few = absurd lists
listed_all (Some all) (Some n) (Some m) texts so lists few =
    let whole : unlisted all ≡ texts = sym so.split ∙ ap (λ rest. texts ++ rest) lists.1 ∙ append-nil texts in
    let within : nat_lt most_listed (length (unlisted all)) ≡ false = rw whole (grind (arith, nat_tests)) in
    ap (λ t. cond t (Err long_listing) (Ok (unlisted all))) within ∙ ap Ok whole

pub listed_long : (told now : Option Listing) (texts : List Text) → ListedIfTold told now texts → most_listed < length texts → IfSome told (λ l. listed l ≡ Err long_listing)
listed_long None now texts so many = tt
listed_long (Some all) None texts so many = absurd so
listed_long (Some all) (Some n) texts so many =
    let over : nat_lt most_listed (length (unlisted all)) ≡ true = grind (arith, nat_tests, ap length so.split, length-append texts (unlisted n)) in
    ap (λ t. cond t (Err long_listing) (Ok (unlisted all))) over
