-- The visible files of a tree that is carried out.
use Rattle.std.proofs.Common.{◌≡◌, ◌++◌, ◌||◌, ◌&&◌, Bool, true, false, not, List, [], ◌∷◌, Option, Some, None, cond, find, refl, sym, ap, ◌∙◌}
use Rattle.std.specs.List.{list_any, cons_option}
use Rattle.std.specs.Option.{option_and_then, option_map_or}
use Rattle.std.specs.Str.{bytes_eq}
use Rattle.std.proofs.lemmas.Bool.{and_parts}
use Rattle.std.proofs.lemmas.List.Folds.{list_any-append}
use Rattle.std.proofs.lemmas.Option.{same_Some}
use Rattle.zw_def.specs.Text.{Text, is_among, is_plain_word}
use Rattle.zw_def.specs.Base.{base_of}
use Rattle.zw_lemmas.proofs.TextLemmas.{same_text, bytes_eq-self, bytes_eq-other}
use Rattle.zw_def.specs.Path.{Path}
use Rattle.zw_def.specs.Tree.{File}
use Rattle.zw_def_thin.specs.Map.{expected_name, is_name}
use Rattle.zw_def_thin.specs.ClassFile.{ClassFile, class_file, is_core}
use Rattle.zw_def_thin.specs.Built.{Carried, carried, carried_under, carried_as, may_define, expected_names, first_other_from}

-- ---- a file that is carried out

pub record Is (root : Path) (names : List Text) (f : File) (c : Carried) : Type 0 where
  pub expected : expected_name root f ≡ Some c.name
  pub read : class_file f.text ≡ Some c.class
  pub may : may_define names c.name c.class ≡ true

is_if : (root : Path) (names : List Text) (f : File) (c : Carried) (name : Text) (class : ClassFile) (t : Bool) → not (is_core name) && may_define names name class ≡ t → expected_name root f ≡ Some name → class_file f.text ≡ Some class → cond t (Some (record { name = name; class = class })) None ≡ Some c → Is root names f c
is_if root names f c name class true may expected read same =
    let eq : record { name = name; class = class } ≡ c = same_Some _ c same in
    record {
      expected = expected ∙ ap (λ (x : Carried). Some x.name) eq;
      read = read ∙ ap (λ (x : Carried). Some x.class) eq;
      may = ap (λ (x : Carried). may_define names x.name x.class) (sym eq) ∙ (and_parts (not (is_core name)) (may_define names name class) may).1;
    }
is_if root names f c name class false may expected read same = absurd (cc)

is_by : (root : Path) (names : List Text) (f : File) (c : Carried) (n : Option Text) (k : Option ClassFile) → expected_name root f ≡ n → class_file f.text ≡ k → option_and_then (λ name. option_and_then (carried_as names name) k) n ≡ Some c → Is root names f c
is_by root names f c None k expected read same = absurd (cc)
is_by root names f c (Some name) None expected read same = absurd (cc)
is_by root names f c (Some name) (Some class) expected read same = is_if root names f c name class _ refl expected read same

pub is_carried : (root : Path) (names : List Text) (f : File) (c : Carried) → carried root names f ≡ Some c → Is root names f c
is_carried root names f c same = by (is_plain_word (base_of f.path)) same where
  by : (t : Bool) → cond t (carried_under names (expected_name root f) (class_file f.text)) None ≡ Some c → Is root names f c
  by true same = is_by root names f c (expected_name root f) (class_file f.text) refl refl same
  by false same = absurd (cc)

-- ---- the files in a row

-- the first file is carried out, under a name that is new, and so are the others
pub record First (root : Path) (names earlier : List Text) (f : File) (fs : List File) : Type 0 where
  pub self : Carried
  pub is : carried root names f ≡ Some self
  pub new : is_among earlier self.name ≡ false
  pub later : first_other_from root names (earlier ++ self.name ∷ []) fs ≡ None

first_if : (root : Path) (names earlier : List Text) (f : File) (fs : List File) (c : Carried) (t : Bool) → is_among earlier c.name ≡ t → carried root names f ≡ Some c → cond t (Some f.path) (first_other_from root names (earlier ++ c.name ∷ []) fs) ≡ None → First root names earlier f fs
first_if root names earlier f fs c true new is none = absurd (cc)
first_if root names earlier f fs c false new is none = record { self = c; is = is; new = new; later = none }

first_by : (root : Path) (names earlier : List Text) (f : File) (fs : List File) (o : Option Carried) → carried root names f ≡ o → option_map_or (λ c. cond (is_among earlier c.name) (Some f.path) (first_other_from root names (earlier ++ c.name ∷ []) fs)) o (Some f.path) ≡ None → First root names earlier f fs
first_by root names earlier f fs None is none = absurd (cc)
first_by root names earlier f fs (Some c) is none = first_if root names earlier f fs c _ refl is none

pub first : (root : Path) (names earlier : List Text) (f : File) (fs : List File) → first_other_from root names earlier (f ∷ fs) ≡ None → First root names earlier f fs
first root names earlier f fs none = first_by root names earlier f fs (carried root names f) refl none

among_more : (earlier more : List Text) (x : Text) → is_among earlier x ≡ true → is_among (earlier ++ more) x ≡ true
among_more earlier more x is = list_any-append (bytes_eq x) earlier more ∙ ap (λ t. t || list_any (bytes_eq x) more) is

or_last : (a : Bool) → (a || true) ≡ true
or_last true = refl
or_last false = refl

among_last : (earlier : List Text) (x : Text) → is_among (earlier ++ x ∷ []) x ≡ true
among_last earlier x =
    list_any-append (bytes_eq x) earlier (x ∷ [])
    ∙ ap (λ t. list_any (bytes_eq x) earlier || (t || false)) (bytes_eq-self x)
    ∙ or_last (list_any (bytes_eq x) earlier)

-- a name of an earlier file is no later file's
not_later : (root : Path) (names earlier : List Text) (fs : List File) (x : Text) → first_other_from root names earlier fs ≡ None → is_among earlier x ≡ true → is_among (expected_names root fs) x ≡ false
not_later root names earlier [] x none among = refl
not_later root names earlier (f ∷ fs) x none among =
    let here = first root names earlier f fs none in
    let is = is_carried root names f here.self here.is in
    let rest : is_among (expected_names root fs) x ≡ false = not_later root names (earlier ++ here.self.name ∷ []) fs x here.later (among_more earlier (here.self.name ∷ []) x among) in
    let other : bytes_eq x here.self.name ≡ false = bytes_eq-other x here.self.name (λ same. (let bad : false ≡ true = sym here.new ∙ ap (is_among earlier) (sym same) ∙ among in cc)) in
    ap (λ o. is_among (cons_option o (expected_names root fs)) x) is.expected
    ∙ ap (λ t. t || is_among (expected_names root fs) x) other
    ∙ rest

pub record Whole_at (root : Path) (names : List Text) (f : File) (fs : List File) : Type 0 where
  pub self : Carried
  pub is : Is root names f self
  pub fresh : is_among (expected_names root fs) self.name ≡ false

-- each file is carried out, under a name that no later file has
abbrev pub Whole : Path → List Text → List File → Type 0
Whole root names [] = Unit {0}
Whole root names (f ∷ fs) = Whole_at root names f fs × Whole root names fs

pub whole : (root : Path) (names earlier : List Text) (fs : List File) → first_other_from root names earlier fs ≡ None → Whole root names fs
whole root names earlier [] none = tt
whole root names earlier (f ∷ fs) none =
    let here = first root names earlier f fs none in
    (record { self = here.self; is = is_carried root names f here.self here.is; fresh = not_later root names _ fs here.self.name here.later (among_last earlier here.self.name) }, whole root names (earlier ++ here.self.name ∷ []) fs here.later)

-- ---- the file of a name

-- the file, if there is one, is a class file, whose class may be defined by the file of this name
abbrev pub Found : List Text → Text → Option File → Type 0
Found names name None = Unit {0}
Found names name (Some f) = (class : ClassFile) × (class_file f.text ≡ Some class) × (may_define names name class ≡ true)

found_if : (names : List Text) (name : Text) (f : File) (c : Carried) (o : Option File) (t : Bool) → bytes_eq c.name name ≡ t → class_file f.text ≡ Some c.class → may_define names c.name c.class ≡ true → Found names name o → Found names name (cond t (Some f) o)
found_if names name f c o true same read may rest = (c.class, read, ap (λ n. may_define names n c.class) (sym (same_text c.name name same)) ∙ may)
found_if names name f c o false same read may rest = rest

pub found : (root : Path) (names : List Text) (name : Text) (fs : List File) → Whole root names fs → Found names name (find (λ f. is_name name (expected_name root f)) fs)
found root names name [] w = tt
found root names name (f ∷ fs) w =
    rw (w.0.is.expected) (found_if names name f w.0.self _ (bytes_eq w.0.self.name name) refl w.0.is.read w.0.is.may (found root names name fs w.1))
