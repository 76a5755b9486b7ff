-- The methods of the core classes are plain.
use Rattle.std.specs.Prelude.{◌≡◌, ◌&&◌, ◌||◌, Bool, true, false, not, List, [], ◌∷◌, is_none, Option, Some, None, if◌then◌else◌}
use Rattle.std.specs.List.{list_all}
use Rattle.std.specs.Str.{bytes_eq}
use Rattle.std.proofs.Common.{refl, sym, subst}
use Rattle.std.proofs.lemmas.Slice.Eq.{bytes_eq-Decides}
use Rattle.zw_def.specs.Text.{Text}
use Rattle.zw_def_world.specs.Id.{Id, Records, id_eq}
use Rattle.zw_def_world.specs.Table.{Table, at}
use Rattle.zw_def_world.specs.Record.{Body, code, reader, writer, primitive, Method, Module}
use Rattle.zw_def_world.specs.CoreWorld.{core_modules, records_of}
use Rattle.zw_def_session.specs.Plain.{is_special}
use Rattle.zw_fresh.specs.CalmCode.{is_plain_name, is_special_row, PlainBody, PlainMethods}
use Rattle.zw_fresh.proofs.NodeLemmas.{both_true}
use Rattle.zw_fresh.proofs.NameLemmas.{apart}
use Rattle.zw_fresh.proofs.OptionLemmas.{none_some, some_same}

-- ---- methods

-- a special primitive method stands under a special name
abbrev pub is_plain_body : Text → Body → Bool
is_plain_body x (code c) = false
is_plain_body x (reader y) = true
is_plain_body x (writer y) = true
is_plain_body x (primitive row) = not (is_special_row row) || is_special x

body_plain : (x : Text) (b : Body) → is_plain_body x b ≡ true → PlainBody true x b
unfolding is_plain_name
body_plain x (code c) e = absurd (apart (sym e))
body_plain x (reader y) e = tt
body_plain x (writer y) e = tt
body_plain x (primitive row) e = by (is_special_row row) (is_special x) refl e
  where
    by : (a b : Bool) → is_special_row row ≡ a → (not a || b) ≡ true → not b ≡ true → is_special_row row ≡ false
    by true true f g h = absurd (apart (sym h))
    by true false f g h = absurd (apart (sym g))
    by false b f g h = f

methods_plain : (t : Table Method) → list_all (λ e. is_plain_body e.0 e.1.body) t ≡ true → PlainMethods true t
methods_plain [] e = λ x method f. none_some f
methods_plain (m ∷ ms) e = λ x method f. by x method (methods_plain ms both.1) (bytes_eq x m.0) refl f
  where
    both : (is_plain_body m.0 m.1.body ≡ true) × (list_all (λ e. is_plain_body e.0 e.1.body) ms ≡ true)
    both = both_true (is_plain_body m.0 m.1.body) (list_all (λ e. is_plain_body e.0 e.1.body) ms) e

    by : (x : Text) (method : Method) → PlainMethods true ms → (b : Bool) → bytes_eq x m.0 ≡ b
        → (if b then Some m.1 else at x ms) ≡ Some method → PlainBody true x method.body
    by x method later true g f = subst (λ k. PlainBody true x k.body) (some_same f)
        (subst (λ y. PlainBody true y m.1.body) (sym ((bytes_eq-Decides x m.0).0 g)) (body_plain m.0 m.1.body both.0))
    by x method later false g f = later x method f

-- ---- what core records have: plain methods, no singleton ones, and no home

abbrev pub is_core : Module → Bool
is_core m = list_all (λ e. is_plain_body e.0 e.1.body) m.methods && list_all (λ e. is_plain_body e.0 e.1.body) m.singleton
    && is_none m.home

all_core : (rs : List (Id × Module)) → list_all (λ r. is_core r.1) rs ≡ true → (j : Id) (m : Module)
    → records_of rs j ≡ Some m → is_core m ≡ true
all_core [] e j m f = none_some f
all_core (r ∷ rs) e j m f = by (all_core rs both.1 j m) (id_eq j r.0) f
  where
    both : (is_core r.1 ≡ true) × (list_all (λ r. is_core r.1) rs ≡ true)
    both = both_true (is_core r.1) (list_all (λ r. is_core r.1) rs) e

    by : (records_of rs j ≡ Some m → is_core m ≡ true) → (b : Bool) → (if b then Some r.1 else records_of rs j) ≡ Some m
        → is_core m ≡ true
    by later true g = subst (λ k. is_core k ≡ true) (some_same g) both.0
    by later false g = later g

abbrev pub core : Records Module
core = records_of core_modules

pub core_so : (j : Id) (m : Module) → core j ≡ Some m → is_core m ≡ true
core_so j m e = all_core core_modules refl j m e

none_of : {A : Type 0} (o : Option A) → is_none o ≡ true → o ≡ None
none_of None e = refl
none_of (Some x) e = absurd (apart (sym e))

module _ (m : Module) (e : is_core m ≡ true) where
  pub core_methods : PlainMethods true m.methods
  core_methods = methods_plain m.methods (both_true _ _ (both_true _ _ e).0).0

  pub core_singleton : PlainMethods true m.singleton
  core_singleton = methods_plain m.singleton (both_true _ _ (both_true _ _ e).0).1

  pub core_homeless : m.home ≡ None
  core_homeless = none_of m.home (both_true _ _ e).1
