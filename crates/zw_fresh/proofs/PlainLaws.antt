-- Programs and methods that are plain: all are where the setting is not calm, and in a world of plain methods the method
-- that is found for a call is.
use Rattle.std.specs.Prelude.{◌≡◌, ◌-◌, ◌++◌, Bool, true, false, List, [], ◌∷◌, codes, length, take, Option, Some, None, if◌then◌else◌}
use Rattle.std.specs.Option.{option_map}
use Rattle.std.proofs.Common.{refl, subst}
use Rattle.zw_def.specs.Text.{Text}
use Rattle.zw_def_syntax.specs.Tree.{Tree, Trees, Perhaps, Branch, Parts, Rescues, Defaults, nil_node, true_node, false_node, self_node, int_node, str_node, sym_node, interp_node, array_node, local_node, ident_node, ivar_node, cvar_node, const_node, scoped_node, top_const_node, set_local, set_ivar, set_cvar, set_const, set_scoped, set_attr, call_node, self_call, super_node, zsuper_node, not_node, and_node, or_node, if_node, while_node, break_node, next_node, return_node, seq_node, begin_node, def_node, sdef_node, class_node, module_node, no_trees, tree_then, absent, present, no_branch, branch, no_parts, text_then, program_then, no_rescues, rescue_then, no_defaults, default_then}
use Rattle.zw_def_world.specs.Missing.{bind}
use Rattle.zw_def_world.specs.Row.{Row}
use Rattle.zw_def_world.specs.Table.{at}
use Rattle.zw_def_world.specs.Value.{Value}
use Rattle.zw_def_world.specs.Record.{Body, code, reader, writer, primitive, Method, Module}
use Rattle.zw_def_world.specs.World.{World}
use Rattle.zw_def_world.specs.MethodLine.{Place, line_of, table_at, method_at, Found as FoundMethod, found_or, first_method, is_asked, passes_new, method_behind, method_of}
use Rattle.zw_def_world.specs.Frame.{Running}
use Rattle.zw_def_world.specs.Call.{line_behind, next_in, next_method}
use Rattle.zw_fresh.specs.CalmCode.{Calmly, is_plain_name, PlainName, PlainRunning, PlainRow, Plain, AllPlain, PerhapsPlain, BranchPlain, PartsPlain, RescuesPlain, DefaultsPlain, PlainBody, PlainWorld}
use Rattle.zw_fresh.proofs.OptionLemmas.{some_same, none_some}

-- ---- a setting that is not calm

mutual
  pub always_plain : (t : Tree) → Plain false t
  always_plain nil_node = tt
  always_plain true_node = tt
  always_plain false_node = tt
  always_plain self_node = tt
  always_plain (int_node z) = tt
  always_plain (str_node t) = tt
  always_plain (sym_node t) = tt
  always_plain (interp_node parts) = parts_plain parts
  always_plain (array_node items) = all_plain items
  always_plain (local_node x) = tt
  always_plain (ident_node x) = tt
  always_plain (ivar_node x) = tt
  always_plain (cvar_node x) = tt
  always_plain (const_node c) = tt
  always_plain (scoped_node e c) = always_plain e
  always_plain (top_const_node c) = tt
  always_plain (set_local x e) = always_plain e
  always_plain (set_ivar x e) = always_plain e
  always_plain (set_cvar x e) = always_plain e
  always_plain (set_const c e) = tt
  always_plain (set_scoped b c e) = tt
  always_plain (set_attr r x e) = (always_plain r, always_plain e, tt)
  always_plain (call_node r x args) = (always_plain r, all_plain args, tt)
  always_plain (self_call x args) = (all_plain args, tt)
  always_plain (super_node args) = all_plain args
  always_plain zsuper_node = tt
  always_plain (not_node e) = always_plain e
  always_plain (and_node a b) = (always_plain a, always_plain b)
  always_plain (or_node a b) = (always_plain a, always_plain b)
  always_plain (if_node order c a b) = (always_plain c, all_plain a, all_plain b)
  always_plain (while_node order c body) = (always_plain c, all_plain body)
  always_plain break_node = tt
  always_plain next_node = tt
  always_plain (return_node e) = perhaps_plain e
  always_plain (seq_node list) = all_plain list
  always_plain (begin_node body clauses other last) = (all_plain body, rescues_plain clauses, branch_plain other, branch_plain last)
  always_plain (def_node x required optional body) = tt
  always_plain (sdef_node x required optional body) = tt
  always_plain (class_node base c superclass body) = tt
  always_plain (module_node base c body) = tt

  pub all_plain : (ts : Trees) → AllPlain false ts
  all_plain no_trees = tt
  all_plain (tree_then t ts) = (always_plain t, all_plain ts)

  perhaps_plain : (e : Perhaps) → PerhapsPlain false e
  perhaps_plain absent = tt
  perhaps_plain (present e) = always_plain e

  branch_plain : (b : Branch) → BranchPlain false b
  branch_plain no_branch = tt
  branch_plain (branch body) = all_plain body

  parts_plain : (p : Parts) → PartsPlain false p
  parts_plain no_parts = tt
  parts_plain (text_then part parts) = parts_plain parts
  parts_plain (program_then program parts) = (all_plain program, parts_plain parts)

  rescues_plain : (r : Rescues) → RescuesPlain false r
  rescues_plain no_rescues = tt
  rescues_plain (rescue_then paths variable body clauses) = (all_plain paths, all_plain body, rescues_plain clauses)

  defaults_plain : (d : Defaults) → DefaultsPlain false d
  defaults_plain no_defaults = tt
  defaults_plain (default_then x e more) = (always_plain e, defaults_plain more)

body_plain : (x : Text) (b : Body) → PlainBody false x b
body_plain x (code c) = (defaults_plain c.optional, all_plain c.body)
body_plain x (reader y) = tt
body_plain x (writer y) = tt
body_plain x (primitive row) = tt

pub world_plain : (w : World) → PlainWorld false w
world_plain w = record {
  methods = λ i m e x method f. body_plain x method.body;
  singleton = λ i m e x method f. body_plain x method.body;
}

-- ---- names

pub calmly : {A : Type 0} (calm : Bool) → A → Calmly calm A
calmly true a = a
calmly false a = tt

-- what such a name finds is no special primitive method
pub row_plain : (calm : Bool) (x : Text) (row : Row) → PlainName calm x → PlainBody calm x (primitive row) → PlainRow calm row
row_plain true x row h b = b h
row_plain false x row h b = tt

pub running_plain : (calm : Bool) (running : Running) → PlainName calm running.name → PlainRunning calm (Some running)
running_plain true running h = h
running_plain false running h = tt

pub running_named : (calm : Bool) (running : Running) → PlainRunning calm (Some running) → PlainName calm running.name
running_named true running h = h
running_named false running h = tt

-- the names of the methods that rows call
module _ (calm : Bool) where
  pub to_s_plain : PlainName calm (codes "to_s")
  unfolding is_plain_name
  to_s_plain = calmly calm refl

  pub equal_plain : PlainName calm (codes "==")
  unfolding is_plain_name
  equal_plain = calmly calm refl

  pub new_plain : PlainName calm (codes "new")
  unfolding is_plain_name
  new_plain = calmly calm refl

  pub initialize_plain : PlainName calm (codes "initialize")
  unfolding is_plain_name
  initialize_plain = calmly calm refl

-- ---- methods that are found

-- what is found in steps, was found at each
-- what is found in steps, was found at each
bind_found : {A B : Type 0} (o : Option A) (k : A → Option B) (y : B) → bind o k ≡ Some y → (x : A) × (k x ≡ Some y)
bind_found None k y e = none_some e
bind_found (Some x) k y e = (x, e)

-- the method that was found, if any, is plain under the name
abbrev pub FoundPlain : Bool → Text → Option FoundMethod → Type 0
FoundPlain calm x None = Unit {0}
FoundPlain calm x (Some f) = PlainBody calm x f.method.body

module _ {calm : Bool} {w : World} (C : PlainWorld calm w) (x : Text) where
  at_place : (place : Place) (m : Module) → w.modules place.owner ≡ Some m → (method : Method)
      → at x (table_at place m) ≡ Some method → PlainBody calm x method.body
  at_place place m e method f = one place.is_singleton f
    where
      one : (b : Bool) → at x (if b then m.singleton else m.methods) ≡ Some method → PlainBody calm x method.body
      one true f = C.singleton place.owner m e x method f
      one false f = C.methods place.owner m e x method f

  -- at one place of the line; `later` is what stands behind it
  place_plain : (place : Place) (before : List Place) (later : Option (Option FoundMethod)) (o : Option FoundMethod)
      → (later ≡ Some o → FoundPlain calm x o) → (passes : Bool)
      → (if passes then bind (method_at w place x) (found_or place before (λ _. later)) else later) ≡ Some o
      → FoundPlain calm x o
  place_plain place before later o rest false e = rest e
  place_plain place before later o rest true e = held (w.modules place.owner) refl e
    where
      stood : (m : Module) → w.modules place.owner ≡ Some m → (found : Option Method) → at x (table_at place m) ≡ found
          → found_or place before (λ _. later) found ≡ Some o → FoundPlain calm x o
      stood m g None f e = rest e
      stood m g (Some method) f e = subst (FoundPlain calm x) (some_same e) (at_place place m g method f)

      held : (m : Option Module) → w.modules place.owner ≡ m
          → bind (option_map (λ m. at x (table_at place m)) m) (found_or place before (λ _. later)) ≡ Some o
          → FoundPlain calm x o
      held None g e = none_some e
      held (Some m) g e = stood m g (at x (table_at place m)) refl e

  first_plain : (passes : Place → Bool) (before line : List Place) (o : Option FoundMethod)
      → first_method w passes x before line ≡ Some o → FoundPlain calm x o
  first_plain passes before [] o e = subst (FoundPlain calm x) (some_same e) tt
  first_plain passes before (place ∷ line) o e = place_plain place before (first_method w passes x (before ++ place ∷ []) line) o
      (first_plain passes (before ++ place ∷ []) line o) (passes place) e

  behind_plain : (v : Value) (before line : List Place) (o : Option FoundMethod)
      → method_behind w v x before line ≡ Some o → FoundPlain calm x o
  behind_plain v before line o e =
      let step = bind_found (passes_new w v x) (λ passes. first_method w (is_asked passes) x before line) o e in
      first_plain (is_asked step.0) before line o step.1

  pub method_plain : (v : Value) (o : Option FoundMethod) → method_of w v x ≡ Some o → FoundPlain calm x o
  method_plain v o e =
      let step = bind_found (line_of w v) (method_behind w v x []) o e in behind_plain v [] step.0 o step.1

pub next_plain : {calm : Bool} {w : World} → PlainWorld calm w → (v : Value) (r : Running) (o : Option FoundMethod)
    → next_method w v r ≡ Some o → FoundPlain calm r.name o
next_plain {calm} {w} C v r o e =
    let step = bind_found (line_of w v) (next_in w v r) o e in
    let behind = line_behind r.place r.earlier step.0 in
    behind_plain C r.name v (take (length step.0 - length behind) step.0) behind o step.1
