-- Look-ups by the numbers of names, against those by their texts.
use Rattle.std.proofs.Common.{◌≡◌, ◌<◌, ◌||◌, ℕ, Bool, true, false, not, cond, List, [], ◌∷◌, Option, Some, None, is_some, map, length, slice_get, nat_eq, nat_le, nat_lt, position, find, reverse, Vec, Global, refl, sym, ap, ◌∙◌, arith}
use Rattle.std.specs.List.{list_any}
use Rattle.std.specs.Map.{lookup, keys_of}
use Rattle.std.specs.Option.{option_map}
use Rattle.std.specs.Str.{bytes_eq}
use Rattle.std.proofs.lemmas.List.Elements.{All-head, All-tail, All-weaker}
use Rattle.zw_def.proofs.NameLemmas.{text_as, front_has, named_as, named_not}
use Rattle.zw_lemmas.proofs.FindLemmas.{find-as, find-nowhere, position-as, position-nowhere}
use Rattle.zw_def.specs.Text.{Text, is_among}
use Rattle.zw_def_thin.specs.Built.{may_define}
use Rattle.zw_def_thin.specs.ClassFile.{ClassFile as ClassSeen}
use Rattle.zw_def_thin.specs.Evaluation.{class_named, method_named}
use Rattle.zw_def.specs.Names.{IsDistinct, text_of}
use Rattle.zw_names.specs.declared.names.Name.{Name}
use Rattle.zw_thin.specs.ClassFile.{class_seen, method_seen, methods_seen, MethodsNamed}
use Rattle.zw_thin.specs.Key.{key_seen, keys_seen, KeyNamed, KeysNamed}
use Rattle.zw_thin.specs.Start.{names_in, IsFront}
use Rattle.zw_thin.specs.Class.{entry_seen, classes_seen, EntryNamed, ClassesNamed}
use Rattle.zw_thin.specs.declared.keys.IdleFile.{IdleFile}
use Rattle.zw_thin.specs.declared.class_file.ClassFile.{ClassFile}
use Rattle.zw_thin.specs.declared.class_file.Method.{Method}
use Rattle.zw_lemmas.proofs.TextLemmas.{same_text}
use Rattle.zw_lemmas.proofs.ListLemmas.{reverse-map, All-reverse}

nat_eq_turned : (m n : ℕ) → nat_eq m n ≡ nat_eq n m
nat_eq_turned m n = grind arith

same_some : {A : Type 0} {x y : A} → Some x ≡ Some y → x ≡ y
same_some e = cc

-- ---- names that were made first

-- ---- keys

module _ (names : List Text) (n : ℕ) (text : Text) (distinct : IsDistinct names) (at : slice_get names n ≡ Some text) (keys : List (Name × Option IdleFile)) (named : KeysNamed names keys) where
  -- the key's place by the text is that by the number
  pub key_place : position (λ m. nat_eq n m.0) (keys_of keys) ≡ position (λ k. bytes_eq k.name text) (keys_seen names keys)
  key_place = sym (position-as (key_seen names) (λ k. k.0) (λ k. bytes_eq k.name text) (λ m. nat_eq n m.0) keys (All-weaker (KeyNamed names) _ (λ k h. named_as names n k.0.0 text distinct at h.0) keys named))

pub key_nowhere : (names : List Text) (text : Text) → list_any (bytes_eq text) names ≡ false → (keys : List (Name × Option IdleFile)) → KeysNamed names keys → position (λ k. bytes_eq k.name text) (keys_seen names keys) ≡ None
key_nowhere names text none keys named = position-nowhere (key_seen names) (λ k. bytes_eq k.name text) keys (All-weaker (KeyNamed names) _ (λ k h. named_not names k.0.0 text none h.0) keys named)

-- whether there is a key of a name
pub key_there : (names : List Text) (n : ℕ) → IsDistinct names → n < length names → (keys : List (Name × Option IdleFile)) → KeysNamed names keys → is_among (names_in (keys_seen names keys)) (text_of names n) ≡ is_some (lookup (λ m. nat_eq n m.0) keys)
key_there names n distinct within [] named = refl
key_there names n distinct within (k ∷ keys) named = by (nat_eq n k.0.0) here (key_there names n distinct within keys (All-tail (KeyNamed names) k keys named)) where
  here : bytes_eq (text_of names n) (text_of names k.0.0) ≡ nat_eq n k.0.0
  here = text_as names k.0.0 n distinct (All-head (KeyNamed names) k keys named).0 within ∙ nat_eq_turned k.0.0 n

  by : (b : Bool) → bytes_eq (text_of names n) (text_of names k.0.0) ≡ b → is_among (names_in (keys_seen names keys)) (text_of names n) ≡ is_some (lookup (λ m. nat_eq n m.0) keys) → (bytes_eq (text_of names n) (text_of names k.0.0) || is_among (names_in (keys_seen names keys)) (text_of names n)) ≡ is_some (cond b (Some k.1) (lookup (λ m. nat_eq n m.0) keys))
  by true is rest = ap (λ t. t || is_among (names_in (keys_seen names keys)) (text_of names n)) is
  by false is rest = ap (λ t. t || is_among (names_in (keys_seen names keys)) (text_of names n)) is ∙ rest

-- ---- classes

abbrev pub class_by : List Text → Text → Vec Method Global → ClassSeen
class_by names text methods = record { name = text; methods = methods_seen names methods.items }

-- the class that is set under a text, where it is set under the text's name
pub class_as : (names : List Text) (n : ℕ) (text : Text) → IsDistinct names → slice_get names n ≡ Some text → (cs : List (Name × Vec Method Global)) → ClassesNamed names cs → option_map (class_by names text) (lookup (λ m. nat_eq n m.0) cs) ≡ class_named text (classes_seen names cs)
class_as names n text distinct at [] named = refl
class_as names n text distinct at (c ∷ cs) named = by (nat_eq n c.0.0) here (class_as names n text distinct at cs (All-tail (EntryNamed names) c cs named)) where
  here : bytes_eq (text_of names c.0.0) text ≡ nat_eq n c.0.0
  here = named_as names n c.0.0 text distinct at (All-head (EntryNamed names) c cs named).0

  by : (b : Bool) → bytes_eq (text_of names c.0.0) text ≡ b → option_map (class_by names text) (lookup (λ m. nat_eq n m.0) cs) ≡ class_named text (classes_seen names cs) → option_map (class_by names text) (cond b (Some c.1) (lookup (λ m. nat_eq n m.0) cs)) ≡ cond (bytes_eq (text_of names c.0.0) text) (Some (entry_seen names c)) (class_named text (classes_seen names cs))
  by true is rest = (λ i. Some (record { name = sym (same_text (text_of names c.0.0) text is) i; methods = methods_seen names c.1.items })) ∙ ap (λ t. cond t (Some (entry_seen names c)) (class_named text (classes_seen names cs))) (sym is)
  by false is rest = rest ∙ ap (λ t. cond t (Some (entry_seen names c)) (class_named text (classes_seen names cs))) (sym is)

pub class_nowhere : (names : List Text) (text : Text) → list_any (bytes_eq text) names ≡ false → (cs : List (Name × Vec Method Global)) → ClassesNamed names cs → class_named text (classes_seen names cs) ≡ None
class_nowhere names text none cs named = find-nowhere (λ c. bytes_eq c.name text) (classes_seen names cs) (position-nowhere (entry_seen names) (λ c. bytes_eq c.name text) cs (All-weaker (EntryNamed names) _ (λ c h. named_not names c.0.0 text none h.0) cs named))

pub class_place : (names : List Text) (n : ℕ) → IsDistinct names → n < length names → (cs : List (Name × Vec Method Global)) → ClassesNamed names cs → position (λ m. nat_eq n m.0) (keys_of cs) ≡ position (λ c. bytes_eq c.name (text_of names n)) (classes_seen names cs)
class_place names n distinct within cs named = sym (position-as (entry_seen names) (λ c. c.0) (λ c. bytes_eq c.name (text_of names n)) (λ m. nat_eq n m.0) cs (All-weaker (EntryNamed names) _ (λ c h. text_as names n c.0.0 distinct within h.0) cs named))

-- ---- methods

-- the method that was defined last under a number is the one under its text
pub last_as : (names : List Text) (n : ℕ) (text : Text) → IsDistinct names → slice_get names n ≡ Some text → (methods : List Method) → MethodsNamed names methods → find (λ (m : Method). nat_eq m.name.0 n) (reverse methods) ≡ find (λ m. bytes_eq (text_of names m.name.0) text) (reverse methods)
last_as names n text distinct at methods named =
    find-as _ _ (reverse methods) (All-weaker (λ (m : Method). m.name.0 < length names) _ (λ m lt. nat_eq_turned m.name.0 n ∙ sym (named_as names n m.name.0 text distinct at lt)) (reverse methods) (All-reverse (λ (m : Method). m.name.0 < length names) methods named))

pub method_nowhere : (names : List Text) (text : Text) → list_any (bytes_eq text) names ≡ false → (methods : List Method) → MethodsNamed names methods → method_named text (methods_seen names methods) ≡ None
method_nowhere names text none methods named =
    ap (find (λ m. bytes_eq m.name text)) (reverse-map (method_seen names) methods)
    ∙ find-nowhere (λ m. bytes_eq m.name text) (map (method_seen names) (reverse methods)) (position-nowhere (method_seen names) (λ m. bytes_eq m.name text) (reverse methods) (All-weaker (λ (m : Method). m.name.0 < length names) _ (λ m lt. named_not names m.name.0 text none lt) (reverse methods) (All-reverse (λ (m : Method). m.name.0 < length names) methods named)))

-- ---- the class that a file may define

pub may_define_by : (front names : List Text) (expected n : ℕ) (class : ClassFile) → IsDistinct names → IsFront front expected names → n < length names → class.name.0 < length names → nat_eq class.name.0 n ≡ false → nat_le expected class.name.0 ≡ may_define front (text_of names n) (class_seen names class)
may_define_by front names expected n class distinct is within lt other =
    let apart : bytes_eq (text_of names class.name.0) (text_of names n) ≡ false = text_as names n class.name.0 distinct within lt ∙ nat_eq_turned n class.name.0 ∙ other in
    let late : not (is_among front (text_of names class.name.0)) ≡ nat_le expected class.name.0 = ap not (front_has front names class.name.0 distinct is.1 lt ∙ ap (nat_lt class.name.0) is.0) ∙ (grind arith) in
    sym late ∙ sym (ap (λ t. t || not (is_among front (text_of names class.name.0))) apart)
