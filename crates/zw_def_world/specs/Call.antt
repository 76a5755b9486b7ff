-- Calls: the line of the receiver, the first method in it, privacy, arguments, and the method's body (ISO/IEC 30170,
-- 11.3 and 13.3).
use Rattle.std.specs.Prelude.{ℕ, zero, suc, ◌+◌, ◌-◌, Bool, true, false, not, ◌&&◌, nat_le, List, [], ◌∷◌, ◌++◌, length, drop, take, filter, Option, Some, None, if◌then◌else◌}
use Rattle.zw_def.specs.Text.{Text}
use Rattle.zw_def_syntax.specs.Tree.{Tree as Node, Defaults, no_defaults, default_then}
use Rattle.zw_def_world.specs.Argument.{arguments_of}
use Rattle.zw_def_world.specs.Missing.{bind}
use Rattle.zw_def_world.specs.Table.{Table, at}
use Rattle.zw_def_world.specs.Value.{Value, nil, Holder, no_holder, module_holder, object_holder, as_holder}
use Rattle.zw_def_world.specs.Record.{Code, Body, code, reader, writer, primitive, with_variable, with_object_variable}
use Rattle.zw_def_world.specs.World.{World, variables_of}
use Rattle.zw_def_world.specs.MethodLine.{Place, same_place, line_of, Found, method_of, method_behind}
use Rattle.zw_def_world.specs.Frame.{Frame, Running, frame_of, with_local}
use Rattle.zw_def_world.specs.Fault.{no_method, private_method, no_super, wrong_number, unless_frozen}
use Rattle.zw_def_world.specs.Site.{Call, Site, tested}
use Rattle.zw_def_world.specs.Primitives.{row_act}
use Rattle.zw_def_world.specs.Load.{scoped}
use Rattle.zw_def_world.specs.Act.{Act, Flow, returned, lost, ends, gives, ◌>>>◌, ◌>>=◌, ◌>>◌, reading, changing_module, changing_object, changing_frame, framed, statements}

-- ---- the method

abbrev pub running_at : Text → Found → Running
running_at x f = record { name = x; place = f.place; earlier = length (filter (same_place f.place) f.before) }

-- the line behind a running method's table, which is the one with so many equal tables before it
abbrev pub line_behind : Place → ℕ → List Place → List Place
line_behind place n [] = []
line_behind place zero (p ∷ line) =
    let later = line_behind place zero line in
    if same_place place p then line else later
line_behind place (suc n) (p ∷ line) =
    let later = line_behind place (suc n) line in
    let found = line_behind place n line in
    if same_place place p then found else later

-- ---- arguments

abbrev pub default_names : Defaults → List Text
default_names no_defaults = []
default_names (default_then x e more) = x ∷ default_names more

abbrev pub required_locals : List Text → List Value → Table Value
required_locals [] vs = []
required_locals (x ∷ xs) [] = []
required_locals (x ∷ xs) (v ∷ vs) = (x, v) ∷ required_locals xs vs

abbrev pub sets_local : Text → Value → Act
sets_local x v = changing_frame (with_local x v) v

-- optional parameters: the arguments that are left, then the defaults in the method's own frame
abbrev pub binds : (Node → Act) → Defaults → List Value → Act → Act
binds go no_defaults vs act = act
binds go (default_then x e more) [] act = (go e >>= sets_local x) >> binds go more [] act
binds go (default_then x e more) (v ∷ vs) act = sets_local x v >> binds go more vs act

abbrev pub method_frame : Value → Running → Code → List Value → Frame
method_frame receiver running c vs = record (frame_of receiver c.scopes) {
  locals = required_locals c.required vs;
  running = Some running;
  parameters = c.required ++ default_names c.optional;
}

-- `return` leaves the method
abbrev pub left_method : Flow → Act
left_method (returned v) = gives v
left_method f = ends f

abbrev pub runs_code : (Node → Act) → Value → Running → Code → List Value → Act
runs_code go receiver running c vs =
    framed (method_frame receiver running c vs)
    (binds go c.optional (drop (length c.required) vs) (statements go c.body))
    >>> left_method

abbrev pub runs_if_number : (Node → Act) → Value → Running → Code → List Value → ℕ → ℕ → Act
runs_if_number go receiver running c vs least most =
    if nat_le least (length vs) && nat_le (length vs) most then runs_code go receiver running c vs
    else wrong_number (length vs) least most false

-- ---- the body

abbrev pub or_nil : Option Value → Act
or_nil None = gives nil
or_nil (Some v) = gives v

-- sets a variable of what is not frozen
abbrev pub sets_in_holder : Text → Value → Holder → Act
sets_in_holder x v no_holder = gives v
sets_in_holder x v (module_holder i) = changing_module i (with_variable x v) v
sets_in_holder x v (object_holder i) = changing_object i (with_object_variable x v) v

abbrev pub sets_variable : Text → Value → Value → Act
sets_variable x v holder = unless_frozen holder (sets_in_holder x v (as_holder holder))

abbrev pub reads : Value → Text → List Value → Act
reads r x [] = reading (λ w. variables_of w r) (λ variables. or_nil (at x variables))
reads r x (v ∷ vs) = wrong_number (length (v ∷ vs)) 0 0 false

abbrev pub writes_to : Value → Text → List Value → Act
writes_to r x (v ∷ []) = sets_variable x v r
writes_to r x vs = wrong_number (length vs) 1 1 false

abbrev pub runs_body : Site → (Node → Act) → Value → Running → List Value → Body → Act
runs_body s go r running vs (code c) =
    let least = length c.required in
    runs_if_number go r running c vs least (least + length (default_names c.optional))
runs_body s go r running vs (reader x) = reads r x vs
runs_body s go r running vs (writer x) = writes_to r x vs
runs_body s go r running vs (primitive row) = tested (arguments_of row) r vs (row_act s row r vs)

-- ---- calls that a primitive method makes by itself

abbrev pub runs_found : Site → (Node → Act) → Value → Text → List Value → Option Found → Act
runs_found s go r x vs None = no_method r x
runs_found s go r x vs (Some f) = runs_body s go r (running_at x f) vs f.method.body

-- private methods are found, too
abbrev pub calls_any : Site → (Node → Act) → Call
calls_any s go r x vs = reading (λ w. method_of w r x) (runs_found s go r x vs)

abbrev pub site_with : (Node → Act) → Call → Call → Bool → Site
site_with go sends makes is_bare =
    record { sends = sends; makes = makes; constant = scoped go; is_bare = is_bare }

-- no primitive method of the names `to_s`, `==` and `initialize` calls one
abbrev pub calls_none : Call
calls_none r x vs = ends lost

abbrev pub row_calls : (Node → Act) → Call
row_calls go = calls_any (site_with go calls_none calls_none false) go

-- `new` of Class calls `initialize`
abbrev pub row_calls_new : (Node → Act) → Call
row_calls_new go = calls_any (site_with go (row_calls go) calls_none false) go

-- ---- calls of nodes

-- how the receiver of a call is written
pub data Written : Type 0 where
  unwritten : Written
  written_self : Written
  written_other : Written

abbrev pub is_bare : Written → Bool
is_bare unwritten = true
is_bare _ = false

-- a private method is found where the receiver is not written, or is `self`
abbrev pub finds_private : Written → Bool
finds_private written_other = false
finds_private _ = true

-- `puts` and `!=` call a method, and `raise` calls `new`
abbrev pub node_site : (Node → Act) → Bool → Site
node_site go bare = site_with go (row_calls go) (row_calls_new go) bare

-- the fault where there is no such method
abbrev pub Absent : Type 0
Absent = Value → Text → Act

abbrev pub dispatched : (Node → Act) → Written → Absent → Value → Text → List Value → Option Found → Act
dispatched go how absent r x vs None = absent r x
dispatched go how absent r x vs (Some f) =
    if f.method.is_private && not (finds_private how) then private_method r x
    else runs_body (node_site go (is_bare how)) go r (running_at x f) vs f.method.body

abbrev pub calls : (Node → Act) → Written → Absent → Call
calls go how absent r x vs = reading (λ w. method_of w r x) (dispatched go how absent r x vs)

-- ---- super

abbrev pub runs_next : (Node → Act) → Value → Text → List Value → Option Found → Act
runs_next go r x vs None = no_super r x
runs_next go r x vs (Some f) = runs_body (node_site go false) go r (running_at x f) vs f.method.body

-- the first method behind the running method's table in the line of the receiver
abbrev pub next_in : World → Value → Running → List Place → Option (Option Found)
next_in w r running line =
    let behind = line_behind running.place running.earlier line in
    method_behind w r running.name (take (length line - length behind) line) behind

abbrev pub next_method : World → Value → Running → Option (Option Found)
next_method w r running = bind (line_of w r) (next_in w r running)

-- the grammar has `super` in methods alone
abbrev pub calls_super : (Node → Act) → Value → List Value → Option Running → Act
calls_super go r vs None = ends lost
calls_super go r vs (Some running) = reading (λ w. next_method w r running) (runs_next go r running.name vs)
