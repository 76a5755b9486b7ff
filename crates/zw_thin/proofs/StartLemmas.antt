-- The start of a session, file by file.
use Rattle.std.proofs.Common.{◌≡◌, ◌<◌, ◌+◌, ◌++◌, ◌||◌, ◌&&◌, ℕ, Bool, true, false, not, List, [], ◌∷◌, Option, Some, None, Result, Ok, Err, IfOk, MatchBool, cond, option_map, map, drop, get_or, length, add-one, refl, sym, ap, ◌∙◌, if◌then◌else◌}
use Rattle.std.specs.List.{filter_map, cons_option}
use Rattle.std.specs.Option.{option_and_then, option_map_or}
use Rattle.std.specs.Str.{bytes_eq}
use Rattle.std.proofs.lemmas.List.Folds.{list_any-append}
use Rattle.std.proofs.lemmas.Option.{same_Some}
use Rattle.zw_def.specs.Text.{Text, is_among, is_plain_word}
use Rattle.zw_def.specs.Base.{base_of}
use Rattle.zw_def.specs.Path.{Path, is_below}
use Rattle.zw_def.specs.Tree.{Tree, File}
use Rattle.zw_def_thin.specs.Map.{visible, expected_name}
use Rattle.zw_def_thin.specs.ClassFile.{ClassFile, class_file, is_core}
use Rattle.zw_def_thin.specs.Built.{Carried, carried, carried_under, may_define, expected_names, first_other, first_other_from}
use Rattle.zw_def.specs.Names.{with_name}
use Rattle.zw_thin.specs.File.{file_seen}
use Rattle.zw_thin.specs.declared.file.File.{File as TreeFile}
use Rattle.zw_thin.specs.Held.{Key}
use Rattle.zw_thin.specs.Start.{first_key, names_in, with_names, IsFront, AddsKey, TakesKey, HasNoKey}
use Rattle.zw_def_thin.specs.Evaluation.{world_at}
use Rattle.zw_thin.specs.World.{is_past, key_named, key_by, StandsFor}
use Rattle.zw_thin.proofs.CarriedLemmas.{first, is_carried}
use Rattle.zw_lemmas.proofs.TextLemmas.{same_text}
use Rattle.zw_lemmas.proofs.ListLemmas.{drop-at}

-- ---- the names that files are expected to define

or_twice : (a b c : Bool) → (b ≡ true → a ≡ true) → (a || c) ≡ (a || (b || c))
or_twice true b c among = refl
or_twice false true c among = let bad : false ≡ true = among refl in cc
or_twice false false c among = refl

or_between : (a b c : Bool) → ((a || (b || false)) || c) ≡ (a || (b || c))
or_between true b c = refl
or_between false true c = refl
or_between false false c = refl

among_one : (names : List Text) (t x : Text) (more : Bool) → (is_among (with_name names t) x || more) ≡ (is_among names x || (bytes_eq x t || more))
among_one names t x more = by (is_among names t) refl where
  by : (b : Bool) → is_among names t ≡ b → (is_among (if b then names else names ++ t ∷ []) x || more) ≡ (is_among names x || (bytes_eq x t || more))
  by true is = or_twice (is_among names x) (bytes_eq x t) more (λ same. ap (is_among names) (same_text x t same) ∙ is)
  by false is = ap (λ b. b || more) (list_any-append (bytes_eq x) names (t ∷ [])) ∙ or_between (is_among names x) (bytes_eq x t) more

-- those that were made are the same, each once
pub among_made : (names texts : List Text) (x : Text) → is_among (with_names names texts) x ≡ (is_among names x || is_among texts x)
among_made names [] x = or_none (is_among names x) where
  or_none : (b : Bool) → b ≡ (b || false)
  or_none true = refl
  or_none false = refl
among_made names (t ∷ texts) x = among_made (with_name names t) texts x ∙ among_one names t x (is_among texts x)

-- a file's key asks no more of the names than which texts are among them
pub first_key_same : (root : Path) (names others : List Text) (f : File) → ((x : Text) → is_among names x ≡ is_among others x) → first_key root names f ≡ first_key root others f
first_key_same root names others f same = λ i.
    option_map {U = Key} (λ (c : Carried). record { name = c.name; file = Some (record { path = f.path; class = c.class }) })
    (if is_plain_word (base_of f.path) then option_and_then (λ name. option_and_then (λ class. if not (is_core name) && (bytes_eq class.name name || not (same class.name i)) then Some (record { name = name; class = class }) else None) (class_file f.text)) (expected_name root f) else None)

-- ---- a file's key

key_of_carried : (root : Path) (names : List Text) (f : File) (name : Text) (class : ClassFile) (may : Bool) → is_plain_word (base_of f.path) ≡ true → expected_name root f ≡ Some name → class_file f.text ≡ Some class → is_core name ≡ false → may_define names name class ≡ may → first_key root names f ≡ cond may (Some (record { name = name; file = Some (record { path = f.path; class = class }) })) None
key_of_carried root names f name class may plain expected read other is =
    (λ i. option_map key (cond (plain i) (carried_under names (expected i) (read i)) None))
    ∙ (λ i. option_map key (cond (not (other i) && is i) (Some (record { name = name; class = class })) None))
    ∙ by may
  where
    key : Carried → Key
    key c = record { name = c.name; file = Some (record { path = f.path; class = c.class }) }

    by : (b : Bool) → option_map key (cond (not false && b) (Some (record { name = name; class = class })) None) ≡ cond b (Some (record { name = name; file = Some (record { path = f.path; class = class }) })) None
    by true = refl
    by false = refl

-- the key of a file whose name and class were read, if the class is one that it may define
pub key_read : (root : Path) (names : List Text) (f : File) (name text : Text) (class : ClassFile) (may : Bool) → is_plain_word (base_of f.path) ≡ true → name ≡ text → Some text ≡ expected_name root f → Some class ≡ class_file f.text → is_core text ≡ false → may_define names name class ≡ may → cond may (Some (record { name = name; file = Some (record { path = f.path; class = class }) })) None ≡ first_key root names f
key_read root names f name text class may plain is expected read other defines =
    sym (key_of_carried root names f name class may plain (sym expected ∙ ap Some (sym is)) (sym read) (ap is_core is ∙ other) defines)

-- a key that is added is taken in
pub takes : {E : Type 0} (root : Path) (expected : ℕ) (made : List Text) (f : File) (k : Key) (old new : List Key) (r : Result Bool E) → IfOk r (λ added. MatchBool added (AddsKey k old new) (is_among (names_in old) k.name ≡ true)) → ((front : List Text) → IsFront front expected made → Some k ≡ first_key root front f) → IfOk r (λ taken. (front : List Text) → IsFront front expected made → MatchBool taken (TakesKey root front f old new) (HasNoKey root front f old))
takes root expected made f k old new (Ok true) adds is = λ front front_is. (k, sym (is front front_is), adds)
takes root expected made f k old new (Ok false) has is = λ front front_is. λ key same. ap (λ (x : Key). is_among (names_in old) x.name) (same_Some key k (sym same ∙ sym (is front front_is))) ∙ has
takes root expected made f k old new (Err e) has is = tt

-- ---- the files

-- the next file, where it lies below the root
pub front : (root : Path) (files : List TreeFile) (i : ℕ) (d : TreeFile) → i < length files → d ≡ get_or files i d → is_below d.path root ≡ true → visible root (map file_seen (drop i files)) ≡ file_seen d ∷ visible root (map file_seen (drop (i + 1) files))
front root files i d within is below =
    ap (λ l. visible root (map file_seen l)) (drop-at files i (i + 1) d within (sym (add-one i)) ∙ ap (λ x. x ∷ drop (i + 1) files) (sym is))
    ∙ ap (λ t. cond t (file_seen d ∷ visible root (map file_seen (drop (i + 1) files))) (visible root (map file_seen (drop (i + 1) files)))) below

module _ (root : Path) (names earlier : List Text) (f : File) (fs : List File) where
  abbrev by_key : Option Key → Option Path
  by_key o = option_map_or (λ k. cond (is_among earlier k.name) (Some f.path) (first_other_from root names (earlier ++ k.name ∷ []) fs)) o (Some f.path)

  turn : first_other_from root names earlier (f ∷ fs) ≡ by_key (first_key root names f)
  turn = at (carried root names f) where
    at : (o : Option Carried) → option_map_or (λ c. cond (is_among earlier c.name) (Some f.path) (first_other_from root names (earlier ++ c.name ∷ []) fs)) o (Some f.path) ≡ by_key (option_map (λ c. record { name = c.name; file = Some (record { path = f.path; class = c.class }) }) o)
    at None = refl
    at (Some c) = refl

  pub goes_on : (k : Key) → first_key root names f ≡ Some k → is_among earlier k.name ≡ false → first_other_from root names earlier (f ∷ fs) ≡ first_other_from root names (earlier ++ k.name ∷ []) fs
  goes_on k is new = turn ∙ ap by_key is ∙ ap (λ t. cond t (Some f.path) (first_other_from root names (earlier ++ k.name ∷ []) fs)) new

  pub refused : ((k : Key) → first_key root names f ≡ Some k → is_among earlier k.name ≡ true) → first_other_from root names earlier (f ∷ fs) ≡ Some f.path
  refused old = turn ∙ by (first_key root names f) refl where
    by : (o : Option Key) → first_key root names f ≡ o → by_key o ≡ Some f.path
    by None is = refl
    by (Some k) is = ap (λ t. cond t (Some f.path) (first_other_from root names (earlier ++ k.name ∷ []) fs)) (old k is)

-- the keys at the start are those of the world in which nothing is set
first_keys : (root : Path) (tree : Tree) (names earlier : List Text) (fs : List File) → first_other_from root names earlier fs ≡ None → filter_map (first_key root names) fs ≡ filter_map (key_by (is_past (world_at root tree)) root) fs
first_keys root tree names earlier [] none = refl
first_keys root tree names earlier (f ∷ fs) none =
    let here = first root names earlier f fs none in
    let is = is_carried root names f here.self here.is in
    let key : Key = record { name = here.self.name; file = Some (record { path = f.path; class = here.self.class }) } in
    let left : first_key root names f ≡ Some key = ap (option_map (λ (c : Carried). record { name = c.name; file = Some (record { path = f.path; class = c.class }) })) here.is in
    let right : key_by (is_past (world_at root tree)) root f ≡ Some key =
    ap (option_map (key_named (is_past (world_at root tree)) f)) is.expected ∙ ap (λ o. Some (record { name = here.self.name; file = option_map (λ class. record { path = f.path; class = class }) o })) is.read in
    (λ i. cons_option ((left ∙ sym right) i) (first_keys root tree names (earlier ++ here.self.name ∷ []) fs here.later i))

pub starts : (root : Path) (tree : Tree) (keys : List Key) → first_other root (visible root tree) ≡ None → keys ≡ filter_map (first_key root (expected_names root (visible root tree))) (visible root tree) → StandsFor (world_at root tree) (record { keys = keys; table = [] })
starts root tree keys none is =
    record { built = none; keys = is ∙ first_keys root tree (expected_names root (visible root tree)) [] (visible root tree) none; table = refl }
