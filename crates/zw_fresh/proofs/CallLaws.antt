-- Calls of methods keep points alike.
use Rattle.std.specs.Prelude.{◌≡◌, ℕ, ◌&&◌, Bool, false, not, nat_le, List, [], ◌∷◌, length, drop, Option, Some, None}
use Rattle.std.specs.Option.{option_map}
use Rattle.std.proofs.Common.{refl, sym, ap, subst}
use Rattle.std.proofs.lemmas.List.{length-map, drop-map}
use Rattle.zw_def.specs.Text.{Text}
use Rattle.zw_def_syntax.specs.Tree.{Tree, Trees, Defaults, no_trees, tree_then, no_defaults, default_then}
use Rattle.zw_def_world.specs.Argument.{arguments_of}
use Rattle.zw_def_world.specs.Row.{Row}
use Rattle.zw_def_world.specs.Id.{Id}
use Rattle.zw_def_world.specs.Value.{Value, nil}
use Rattle.zw_def_world.specs.Record.{Code, Body, code, reader, writer, primitive}
use Rattle.zw_def_world.specs.MethodLine.{Found as FoundMethod}
use Rattle.zw_def_world.specs.Frame.{Running}
use Rattle.zw_def_world.specs.Fault.{wrong_number}
use Rattle.zw_def_world.specs.Site.{Site}
use Rattle.zw_def_world.specs.Primitives.{row_act}
use Rattle.zw_def_world.specs.Load.{scoped}
use Rattle.zw_def_world.specs.Call.{running_at, binds, left_method, runs_code, runs_if_number, runs_body, runs_found, calls_any, site_with, calls_none, row_calls, row_calls_new, Written, is_bare, finds_private, node_site, Absent, dispatched, calls, runs_next, calls_super}
use Rattle.zw_def_world.specs.World.{World}
use Rattle.zw_def_world.specs.Act.{Act, Point, Flow, gave, raised, broken, skipped, returned, out_of_steps, too_deep, lost, statements, last_of}
use Rattle.zw_def_world.proofs.EvolutionLaws.{last_keeps}
use Rattle.zw_def_world.proofs.EvaluationLaws.{spending_evolves}
use Rattle.zw_def_world.proofs.RowLaws.{SiteKeeps}
use Rattle.zw_def_world.proofs.CallLaws.{sets_local_keeps, left_method_keeps, runs_found_keeps, site_keeps, row_calls_keeps, row_calls_new_keeps, calls_none_keeps, dispatched_keeps, runs_next_keeps}
use Rattle.zw_fresh.specs.Renaming.{lifted, ren, ren_flow, ren_body, ren_code, ren_found, ren_running}
use Rattle.zw_fresh.specs.CalmCode.{PlainName, PlainRunning, PlainRow, Plain, AllPlain, DefaultsPlain, PlainBody, PlainWorld}
use Rattle.zw_fresh.specs.Alike.{Setting, IsOver, Worlds}
use Rattle.zw_fresh.specs.Calm.{LoadsHanded}
use Rattle.zw_fresh.specs.Naming.{NamesNone, AllNameNone, no_old}
use Rattle.zw_fresh.proofs.GrowingLaws.{growing}
use Rattle.zw_fresh.proofs.PlainLaws.{row_plain, running_plain, running_named, FoundPlain, method_plain, next_plain}
use Rattle.zw_fresh.proofs.EndLaws.{Grows, Spends, Passes, choose}
use Rattle.zw_fresh.proofs.ActLaws.{Alike, ends_alike, gives_alike, both_alike, on_alike, then_alike, if_alike, if_same_alike, reading_known, framed_alike}
use Rattle.zw_fresh.proofs.MethodLaws.{method_found, next_found, running_same}
use Rattle.zw_fresh.proofs.FaultLaws.{ren_list, no_method_alike, private_method_alike, no_super_alike, wrong_number_alike}
use Rattle.zw_fresh.proofs.SiteLaws.{CallAlike, tested_alike}
use Rattle.zw_fresh.proofs.FrameLaws.{method_frames, sets_local_alike}
use Rattle.zw_fresh.proofs.NamingLaws.{free, all_free}
use Rattle.zw_fresh.proofs.HolderLaws.{reads_alike, writes_to_alike}

-- `go` keeps points alike on each plain program that names no older variable; worlds have plain methods, and the loads
-- of stated keys are owed
pub record Evaluates {calm : Bool} (S : Setting calm) (go : Tree → Act) : Type 0 where
  pub alike : (old : Text → Bool) (t : Tree) → NamesNone old t → Plain calm t → Alike S old (go t) (go t)
  pub grows : (t : Tree) → Grows (go t)
  pub spends : (t : Tree) → Spends (go t)
  pub plain : (w w' : World) → Worlds calm S w w' → PlainWorld calm w
  pub loads : LoadsHanded calm S go

-- what a row needs of its call
pub record SiteAlike {calm : Bool} (S : Setting calm) (old : Text → Bool) (s : Site) : Type 0 where
  pub sends : CallAlike S old s.sends
  pub makes : CallAlike S old s.makes
  pub constant : (n : Text) (i : Id) → Alike S old (s.constant n i) (s.constant n (lifted S.lift i))
  pub grows : SiteKeeps growing s
  pub spends : SiteKeeps spending_evolves s

-- the primitive methods keep points alike
abbrev pub RowsAlike : {calm : Bool} → Setting calm → Type 0
RowsAlike {calm} S = (old : Text → Bool) (s : Site) → SiteAlike S old s → (row : Row) → PlainRow calm row → (r : Value)
    (vs : List Value) → Alike S old (row_act s row r vs) (row_act s row (ren S.lift r) (ren_list S.lift vs))

-- ---- statements

module _ {calm : Bool} {S : Setting calm} {go : Tree → Act} (E : Evaluates S go) (old : Text → Bool) where
  pub last_alike : (ts : Trees) → AllNameNone old ts → AllPlain calm ts → (v : Value)
      → Alike S old (last_of go v ts) (last_of go (ren S.lift v) ts)
  last_alike no_trees h g v = gives_alike v
  last_alike (tree_then t ts) h g v =
      on_alike (E.alike old t h.0 g.0) (last_alike ts h.1 g.1) (λ u. last_keeps E.spends u ts)

  pub statements_alike : (ts : Trees) → AllNameNone old ts → AllPlain calm ts
      → Alike S old (statements go ts) (statements go ts)
  statements_alike ts h g = last_alike ts h g nil

-- ---- what leaves a method

module _ {calm : Bool} {S : Setting calm} {old : Text → Bool} where
  pub left_method_alike : (f : Flow) → Alike S old (left_method f) (left_method (ren_flow S.lift f))
  left_method_alike (returned v) = gives_alike v
  left_method_alike (gave v) = ends_alike (gave v)
  left_method_alike (raised i) = ends_alike (raised i)
  left_method_alike broken = ends_alike broken
  left_method_alike skipped = ends_alike skipped
  left_method_alike out_of_steps = ends_alike out_of_steps
  left_method_alike too_deep = ends_alike too_deep
  left_method_alike lost = ends_alike lost

left_method_passes : Passes left_method
left_method_passes = record { same = at }
  where
    at : (f : Flow) (p : Point) → IsOver f → (left_method f p).flow ≡ f
    at (gave v) p o = absurd o
    at (raised i) p o = absurd o
    at broken p o = absurd o
    at skipped p o = absurd o
    at (returned v) p o = absurd o
    at out_of_steps p o = refl
    at too_deep p o = refl
    at lost p o = refl

-- ---- methods

module _ {calm : Bool} {S : Setting calm} {go : Tree → Act} (E : Evaluates S go) where
  binds_alike : (optional : Defaults) → DefaultsPlain calm optional → (vs : List Value) {m : Act} → Alike S no_old m m
      → Alike S no_old (binds go optional vs m) (binds go optional (ren_list S.lift vs) m)
  binds_alike no_defaults g vs a = a
  binds_alike (default_then x e more) g [] a =
      both_alike (on_alike (E.alike no_old e (free e) g.0) (sets_local_alike x) (sets_local_keeps x)) (binds_alike more g.1 [] a)
  binds_alike (default_then x e more) g (v ∷ vs) a = both_alike (sets_local_alike x v) (binds_alike more g.1 vs a)

  module _ {old : Text → Bool} where
    runs_code_alike : (r : Value) (running : Running) (c : Code) (vs : List Value) → PlainName calm running.name
        → DefaultsPlain calm c.optional × AllPlain calm c.body → Alike S old (runs_code go r running c vs)
        (runs_code go (ren S.lift r) (ren_running S.lift running) (ren_code S.lift c) (ren_list S.lift vs))
    runs_code_alike r running c vs h g =
        then_alike (choose calm (left_method_passes, left_method_passes) tt)
        (framed_alike (method_frames S r running c vs) (running_plain calm running h)
        (subst (λ us. Alike S no_old (binds go c.optional (drop (length c.required) vs) (statements go c.body))
        (binds go c.optional us (statements go c.body))) (sym (drop-map (ren S.lift) (length c.required) vs))
        (binds_alike c.optional g.0 (drop (length c.required) vs) (statements_alike E no_old c.body (all_free c.body) g.1))))
        left_method_alike left_method_keeps

    runs_if_number_alike : (r : Value) (running : Running) (c : Code) (vs : List Value) → PlainName calm running.name
        → DefaultsPlain calm c.optional × AllPlain calm c.body → (least most : ℕ)
        → Alike S old (runs_if_number go r running c vs least most)
        (runs_if_number go (ren S.lift r) (ren_running S.lift running) (ren_code S.lift c) (ren_list S.lift vs) least most)
    runs_if_number_alike r running c vs h g least most =
        if_same_alike (ap (λ n. nat_le least n && nat_le n most) (length-map vs (ren S.lift))) (runs_code_alike r running c vs h g)
        (subst (λ n. Alike S old (wrong_number (length vs) least most false) (wrong_number n least most false))
        (sym (length-map vs (ren S.lift))) (wrong_number_alike (length vs) least most false))

    module _ (rows : RowsAlike S) where
      pub runs_body_alike : (s : Site) → SiteAlike S old s → (r : Value) (running : Running) (vs : List Value)
          → PlainName calm running.name → (b : Body) → PlainBody calm running.name b
          → Alike S old (runs_body s go r running vs b)
          (runs_body s go (ren S.lift r) (ren_running S.lift running) (ren_list S.lift vs) (ren_body S.lift b))
      runs_body_alike s of_s r running vs h (code c) g = runs_if_number_alike r running c vs h g _ _
      runs_body_alike s of_s r running vs h (reader x) g = reads_alike r x vs
      runs_body_alike s of_s r running vs h (writer x) g = writes_to_alike r x vs
      runs_body_alike s of_s r running vs h (primitive row) g =
          tested_alike (arguments_of row) r vs (rows old s of_s row (row_plain calm running.name row h g) r vs)

      runs_as_found : (s : Site) → SiteAlike S old s → (r : Value) (x : Text) (vs : List Value) → PlainName calm x
          → (f : FoundMethod) → FoundPlain calm x (Some f)
          → Alike S old (runs_body s go r (running_at x f) vs f.method.body)
          (runs_body s go (ren S.lift r) (running_at x (ren_found S.lift f)) (ren_list S.lift vs) (ren_body S.lift f.method.body))
      runs_as_found s of_s r x vs h f g =
          subst (λ g. Alike S old (runs_body s go r (running_at x f) vs f.method.body)
          (runs_body s go (ren S.lift r) g (ren_list S.lift vs) (ren_body S.lift f.method.body)))
          (sym (running_same S x f)) (runs_body_alike s of_s r (running_at x f) vs h f.method.body g)

      runs_found_alike : (s : Site) → SiteAlike S old s → (r : Value) (x : Text) (vs : List Value) → PlainName calm x
          → (o : Option FoundMethod) → FoundPlain calm x o
          → Alike S old (runs_found s go r x vs o)
          (runs_found s go (ren S.lift r) x (ren_list S.lift vs) (option_map (ren_found S.lift) o))
      runs_found_alike s of_s r x vs h None g = no_method_alike r x
      runs_found_alike s of_s r x vs h (Some f) g = runs_as_found s of_s r x vs h f g

      pub calls_any_alike : (s : Site) → SiteAlike S old s → CallAlike S old (calls_any s go)
      calls_any_alike s of_s r x vs h = reading_known (FoundPlain calm x) (λ w w' W. method_found W r x)
          (λ w w' W. method_plain (E.plain w w' W) x r) (runs_found_alike s of_s r x vs h)
          (runs_found_keeps s of_s.grows E.grows r x vs)
          (runs_found_keeps s of_s.spends E.spends (ren S.lift r) x (ren_list S.lift vs))

      -- ---- the calls that rows make, and those of nodes

      calls_none_alike : CallAlike S old calls_none
      calls_none_alike r x vs h = ends_alike lost

      module _ (scopes : (n : Text) (i : Id) → Alike S old (scoped go n i) (scoped go n (lifted S.lift i))) where
        pub row_calls_alike : CallAlike S old (row_calls go)
        row_calls_alike = calls_any_alike (site_with go calls_none calls_none false) (record {
          sends = calls_none_alike;
          makes = calls_none_alike;
          constant = scopes;
          grows = site_keeps E.grows calls_none_keeps calls_none_keeps false;
          spends = site_keeps E.spends calls_none_keeps calls_none_keeps false;
        })

        row_calls_new_alike : CallAlike S old (row_calls_new go)
        row_calls_new_alike = calls_any_alike (site_with go (row_calls go) calls_none false) (record {
          sends = row_calls_alike;
          makes = calls_none_alike;
          constant = scopes;
          grows = site_keeps E.grows (row_calls_keeps E.grows) calls_none_keeps false;
          spends = site_keeps E.spends (row_calls_keeps E.spends) calls_none_keeps false;
        })

        node_site_alike : (bare : Bool) → SiteAlike S old (node_site go bare)
        node_site_alike bare = record {
          sends = row_calls_alike;
          makes = row_calls_new_alike;
          constant = scopes;
          grows = site_keeps E.grows (row_calls_keeps E.grows) (row_calls_new_keeps E.grows) bare;
          spends = site_keeps E.spends (row_calls_keeps E.spends) (row_calls_new_keeps E.spends) bare;
        }

        dispatched_alike : (how : Written) {absent : Absent}
            → ((r : Value) (x : Text) → Alike S old (absent r x) (absent (ren S.lift r) x))
            → (r : Value) (x : Text) (vs : List Value) → PlainName calm x → (o : Option FoundMethod) → FoundPlain calm x o
            → Alike S old (dispatched go how absent r x vs o)
            (dispatched go how absent (ren S.lift r) x (ren_list S.lift vs) (option_map (ren_found S.lift) o))
        dispatched_alike how b r x vs h None g = b r x
        dispatched_alike how b r x vs h (Some f) g =
            if_alike (f.method.is_private && not (finds_private how)) (private_method_alike r x)
            (runs_as_found (node_site go (is_bare how)) (node_site_alike (is_bare how)) r x vs h f g)

        pub calls_alike : (how : Written) {absent : Absent}
            → ((r : Value) (x : Text) → Alike S old (absent r x) (absent (ren S.lift r) x))
            → ((r : Value) (x : Text) → Spends (absent r x)) → CallAlike S old (calls go how absent)
        calls_alike how b l r x vs h = reading_known (FoundPlain calm x) (λ w w' W. method_found W r x)
            (λ w w' W. method_plain (E.plain w w' W) x r) (dispatched_alike how b r x vs h)
            (dispatched_keeps E.grows how (λ u y. (b u y).grows) r x vs)
            (dispatched_keeps E.spends how l (ren S.lift r) x (ren_list S.lift vs))

        runs_next_alike : (r : Value) (x : Text) (vs : List Value) → PlainName calm x → (o : Option FoundMethod)
            → FoundPlain calm x o → Alike S old (runs_next go r x vs o)
            (runs_next go (ren S.lift r) x (ren_list S.lift vs) (option_map (ren_found S.lift) o))
        runs_next_alike r x vs h None g = no_super_alike r x
        runs_next_alike r x vs h (Some f) g = runs_as_found (node_site go false) (node_site_alike false) r x vs h f g

        pub calls_super_alike : (r : Value) (vs : List Value) (o : Option Running) → PlainRunning calm o → Alike S old (calls_super go r vs o)
            (calls_super go (ren S.lift r) (ren_list S.lift vs) (option_map (ren_running S.lift) o))
        calls_super_alike r vs None h = ends_alike lost
        calls_super_alike r vs (Some running) h = reading_known (FoundPlain calm running.name)
            (λ w w' W. next_found W r running) (λ w w' W. next_plain (E.plain w w' W) r running)
            (runs_next_alike r running.name vs (running_named calm running h)) (runs_next_keeps E.grows r running.name vs)
            (runs_next_keeps E.spends (ren S.lift r) running.name (ren_list S.lift vs))
