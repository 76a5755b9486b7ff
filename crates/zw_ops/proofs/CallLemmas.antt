-- Calls and `super`, by the method that was chosen.
use Rattle.std.proofs.Common.{◌≡◌, ◌&&◌, Bool, true, false, not, ℕ, zero, suc, ◌-◌, ◌<◌, ◌≤◌, List, [], ◌∷◌, cond, drop, length, map, take, Option, Some, None, refl, ap, sym, ◌∙◌, arith}
use Rattle.std.specs.List.{All}
use Rattle.std.proofs.lemmas.List.{length-drop, length-map, take-map}
use Rattle.std.proofs.lemmas.List.Elements.{All-cons, All-head, All-nil, All-tail}
use Rattle.zw_def.specs.Text.{Text}
use Rattle.zw_def_syntax.specs.Tree.{Tree as Node}
use Rattle.zw_def_world.specs.Act.{Act, Point, read}
use Rattle.zw_def_world.specs.Call as told_call
use Rattle.zw_def_world.specs.Call.{calls, calls_super, dispatched, finds_private, is_bare, next_in, next_method, node_site, running_at, runs_body, runs_next}
use Rattle.zw_def_world.specs.Fault.{no_super, private_method}
use Rattle.zw_def_world.specs.Frame as told_frame
use Rattle.zw_def_world.specs.Missing.{bind}
use Rattle.zw_def_world.specs.MethodLine as told
use Rattle.zw_def_world.specs.Value as told_value
use Rattle.zw_def_world.specs.World.{World}
use Rattle.zw_heap.specs.Telling.{Telling}
use Rattle.zw_methods.specs.Line.{Place, place_seen, places_of, told_place}
use Rattle.zw_methods.specs.Telling.{Codes, told_body}
use Rattle.zw_methods.specs.declared.method.ModuleLine.{ModuleLine}
use Rattle.zw_ops.specs.Choice.{IsChosen, told_running}
use Rattle.zw_ops.specs.Line.{is_table, line_behind}
use Rattle.zw_ops.specs.declared.choice.Chosen.{Chosen}
use Rattle.zw_ops.proofs.LineLemmas.{same_place-told}

pub places-within : (count : ℕ) (line : List ModuleLine) → All (λ p. p.0 < count) (places_of line) → All (λ p. p.«module».0 < count) line
places-within count [] all = All-nil (λ (p : ModuleLine). p.«module».0 < count)
places-within count (p ∷ line) all =
    All-cons (λ (q : ModuleLine). q.«module».0 < count) p line (All-head (λ (q : Place). q.0 < count) (place_seen p) (places_of line) all)
    (places-within count line (All-tail (λ (q : Place). q.0 < count) (place_seen p) (places_of line) all))

-- ---- the method of a receiver

pub method-told : (w : World) (v : told_value.Value) (x : Text) (line : List told.Place) (passes : Bool) (found : Option told.Found) → told.line_of w v ≡ Some line → told.passes_new w v x ≡ Some passes
    → told.first_method w (told.is_asked passes) x [] line ≡ Some found → told.method_of w v x ≡ Some found
method-told w v x line passes found there passed first =
    ap (λ o. bind o (told.method_behind w v x [])) there
    ∙ ap (λ o. bind o (λ p. told.first_method w (told.is_asked p) x [] line)) passed
    ∙ first

-- ---- calls

module _ (I : Telling) (codes : Codes) (go : Node → Act) (r : told_value.Value) (x : Text) (vs : List told_value.Value) (p : Point) where
  module _ (how : told_call.Written) (absent : told_call.Absent) (f : Option told.Found) (found : told.method_of p.world r x ≡ Some f) where
    dispatches : calls go how absent r x vs p ≡ dispatched go how absent r x vs f p
    dispatches = ap (λ o. read o (dispatched go how absent r x vs) p) found

    pub called-none : IsChosen I codes x f None → calls go how absent r x vs p ≡ absent r x p
    called-none none = dispatches ∙ by f none
      where
        by : (g : Option told.Found) → IsChosen I codes x g None → dispatched go how absent r x vs g p ≡ absent r x p
        by None is = refl
        by (Some g) is = absurd is

    pub called-some : (c : Chosen) → IsChosen I codes x f (Some c)
        → calls go how absent r x vs p ≡ cond (c.method.private && not (finds_private how)) (private_method r x) (runs_body (node_site go (is_bare how)) go r (told_running I c.running) vs (told_body I codes c.method.body)) p
    called-some c some = dispatches ∙ by f some
      where
        by : (g : Option told.Found) → IsChosen I codes x g (Some c) → dispatched go how absent r x vs g p ≡ cond (c.method.private && not (finds_private how)) (private_method r x) (runs_body (node_site go (is_bare how)) go r (told_running I c.running) vs (told_body I codes c.method.body)) p
        by None is = absurd is
        by (Some g) is = λ i.
            cond ((is.0 i).is_private && not (finds_private how)) (private_method r x) (runs_body (node_site go (is_bare how)) go r (is.1 i) vs (is.0 i).body) p

  module _ (running : told_frame.Running) (f : Option told.Found) (named : running.name ≡ x) (found : next_method p.world r running ≡ Some f) where
    pub next-none : IsChosen I codes x f None → calls_super go r vs (Some running) p ≡ no_super r x p
    next-none none = ap (λ o. read o (runs_next go r running.name vs) p) found ∙ ap (λ n. runs_next go r n vs f p) named ∙ by f none
      where
        by : (g : Option told.Found) → IsChosen I codes x g None → runs_next go r x vs g p ≡ no_super r x p
        by None is = refl
        by (Some g) is = absurd is

    pub next-some : (c : Chosen) → IsChosen I codes x f (Some c)
        → calls_super go r vs (Some running) p ≡ runs_body (node_site go false) go r (told_running I c.running) vs (told_body I codes c.method.body) p
    next-some c some = ap (λ o. read o (runs_next go r running.name vs) p) found ∙ ap (λ n. runs_next go r n vs f p) named ∙ by f some
      where
        by : (g : Option told.Found) → IsChosen I codes x g (Some c) → runs_next go r x vs g p ≡ runs_body (node_site go false) go r (told_running I c.running) vs (told_body I codes c.method.body) p
        by None is = absurd is
        by (Some g) is = λ i. runs_body (node_site go false) go r (is.1 i) vs (is.0 i).body p

-- ---- the line behind a table

module _ (I : Telling) where
  line_behind-told : (table : ModuleLine) (n : ℕ) (line : List ModuleLine) → told_call.line_behind (told_place I (place_seen table)) n (map (told_place I) (places_of line)) ≡ map (told_place I) (places_of (line_behind table n line))
  line_behind-told table zero [] = refl
  line_behind-told table (suc n) [] = refl
  line_behind-told table zero (p ∷ line) =
      (λ i. cond (same_place-told I (place_seen table) (place_seen p) i) (map (told_place I) (places_of line)) (line_behind-told table zero line i)) ∙ by (is_table (place_seen table) (place_seen p))
    where
      by : (b : Bool) → cond b (map (told_place I) (places_of line)) (map (told_place I) (places_of (line_behind table zero line))) ≡ map (told_place I) (places_of (cond b line (line_behind table zero line)))
      by true = refl
      by false = refl
  line_behind-told table (suc n) (p ∷ line) =
      (λ i. cond (same_place-told I (place_seen table) (place_seen p) i) (line_behind-told table n line i) (line_behind-told table (suc n) line i)) ∙ by (is_table (place_seen table) (place_seen p))
    where
      by : (b : Bool) → cond b (map (told_place I) (places_of (line_behind table n line))) (map (told_place I) (places_of (line_behind table (suc n) line))) ≡ map (told_place I) (places_of (cond b (line_behind table n line) (line_behind table (suc n) line)))
      by true = refl
      by false = refl

  module _ (w : World) (r : told_value.Value) (running : told_frame.Running) (table : ModuleLine) (line : List ModuleLine) (start : ℕ) (place : running.place ≡ told_place I (place_seen table)) (behind : drop start line ≡ line_behind table running.earlier line) (few : start ≤ length line) where
    behind_told : told_call.line_behind running.place running.earlier (map (told_place I) (places_of line)) ≡ map (told_place I) (places_of (drop start line))
    behind_told = ap (λ q. told_call.line_behind q running.earlier (map (told_place I) (places_of line))) place ∙ line_behind-told table running.earlier line ∙ ap (λ ps. map (told_place I) (places_of ps)) (sym behind)

    length-told : (ps : List ModuleLine) → length (map (told_place I) (places_of ps)) ≡ length ps
    length-told ps = length-map (places_of ps) (told_place I) ∙ length-map ps place_seen

    before_length : length (map (told_place I) (places_of line)) - length (map (told_place I) (places_of (drop start line))) ≡ start
    before_length = (λ i. length-told line i - (length-told (drop start line) ∙ length-drop start line) i) ∙ by (length line) few
      where
        by : (n : ℕ) → start ≤ n → n - (n - start) ≡ start
        by n le = omega (arith, le)

    before_told : take (length (map (told_place I) (places_of line)) - length (map (told_place I) (places_of (drop start line)))) (map (told_place I) (places_of line)) ≡ map (told_place I) (places_of (take start line))
    before_told = ap (λ n. take n (map (told_place I) (places_of line))) before_length ∙ take-map (told_place I) start (places_of line) ∙ ap (map (told_place I)) (take-map place_seen start line)

    pub next-told : (passes : Bool) (found : Option told.Found) → told.line_of w r ≡ Some (map (told_place I) (places_of line)) → told.passes_new w r running.name ≡ Some passes
        → told.first_method w (told.is_asked passes) running.name (map (told_place I) (places_of (take start line))) (map (told_place I) (places_of (drop start line))) ≡ Some found → next_method w r running ≡ Some found
    next-told passes found there passed first =
        ap (λ o. bind o (next_in w r running)) there
        ∙ ap (λ b. told.method_behind w r running.name (take (length (map (told_place I) (places_of line)) - length b) (map (told_place I) (places_of line))) b) behind_told
        ∙ ap (λ b. told.method_behind w r running.name b (map (told_place I) (places_of (drop start line)))) before_told
        ∙ ap (λ o. bind o (λ passes. told.first_method w (told.is_asked passes) running.name (map (told_place I) (places_of (take start line))) (map (told_place I) (places_of (drop start line))))) passed
        ∙ first
