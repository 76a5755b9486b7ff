-- Frames of two points alike: variables, scopes and the frames of methods and bodies.
use Rattle.std.specs.Prelude.{◌≡◌, Bool, true, false, IsFalse, List, [], ◌∷◌, Option, Some, None, if◌then◌else◌}
use Rattle.std.specs.Option.{option_map, unwrap_or}
use Rattle.std.specs.Str.{bytes_eq}
use Rattle.std.proofs.Common.{refl, sym, ap, ◌∙◌}
use Rattle.zw_def.specs.Text.{Text}
use Rattle.zw_def_world.specs.Id.{Id}
use Rattle.zw_def_world.specs.Value.{Value, nil, object_at}
use Rattle.zw_def_world.specs.Table.{Table, at, assigned}
use Rattle.zw_def_world.specs.Record.{Code}
use Rattle.zw_def_world.specs.Frame.{Running, Frame, with_local, innermost_scope, top_frame}
use Rattle.zw_def_world.specs.Call.{required_locals, method_frame, or_nil, sets_local}
use Rattle.zw_def_world.specs.Control.{values_at}
use Rattle.zw_def_world.specs.Definition.{body_frame}
use Rattle.zw_def_world.specs.Act.{Act, in_frame}
use Rattle.zw_def_world.proofs.EvolutionLaws.{in_frame_keeps}
use Rattle.zw_fresh.specs.Renaming.{Names, lifted, lifted_all, ren, ren_table, ren_running, ren_code}
use Rattle.zw_fresh.specs.CalmCode.{PlainRunning}
use Rattle.zw_fresh.specs.Alike.{Setting, Frames}
use Rattle.zw_fresh.specs.Naming.{no_old}
use Rattle.zw_fresh.proofs.EndLaws.{Grows, Spends}
use Rattle.zw_fresh.proofs.ActLaws.{Alike, gives_alike}
use Rattle.zw_fresh.proofs.TableLemmas.{at-assigned, at-made}
use Rattle.zw_fresh.proofs.ChangeLaws.{changing_frame_alike}
use Rattle.zw_fresh.proofs.FaultLaws.{ren_list}
use Rattle.zw_fresh.proofs.NameLemmas.{apart}

-- ---- variables

pub local_frames : {f : Names} {old : Text → Bool} (x : Text) (v : Value) (a b : Frame) → Frames f old a b
    → Frames f old (with_local x v a) (with_local x (ren f v) b)
local_frames {f} {old} x v a b F = record {
  self_value = F.self_value;
  scopes = F.scopes;
  locals = put;
  is_console = F.is_console;
  is_body = F.is_body;
  hides = F.hides;
  running = F.running;
  parameters = F.parameters;
  no_parameters = F.no_parameters;
}
  where
    one : (y : Text) → IsFalse (old y) → (d : Bool) → (if d then Some (ren f v) else at y b.locals)
        ≡ option_map (ren f) (if d then Some v else at y a.locals)
    one y h true = refl
    one y h false = F.locals y h

    put : (y : Text) → IsFalse (old y)
        → at y (assigned x (ren f v) b.locals) ≡ option_map (ren f) (at y (assigned x v a.locals))
    put y h =
        at-assigned x (ren f v) b.locals y
        ∙ (one y h (bytes_eq x y) ∙ sym (ap (option_map (ren f)) (at-assigned x v a.locals y)))

pub required_same : (f : Names) (xs : List Text) (vs : List Value)
    → required_locals xs (ren_list f vs) ≡ ren_table f (required_locals xs vs)
required_same f [] vs = refl
required_same f (x ∷ xs) [] = refl
required_same f (x ∷ xs) (v ∷ vs) = ap (λ l. (x, ren f v) ∷ l) (required_same f xs vs)

pub values_same : (f : Names) (here there : Table Value) (xs : List Text)
    → ((x : Text) → at x there ≡ option_map (ren f) (at x here)) → values_at there xs ≡ ren_list f (values_at here xs)
values_same f here there [] h = refl
values_same f here there (x ∷ xs) h = λ k. one (at x here) (at x there) (h x) k ∷ values_same f here there xs h k
  where
    one : (o o' : Option Value) → o' ≡ option_map (ren f) o → unwrap_or o' nil ≡ ren f (unwrap_or o nil)
    one None o' e = ap (λ z. unwrap_or z nil) e
    one (Some v) o' e = ap (λ z. unwrap_or z nil) e

-- a frame's parameters are no older variables
pub parameters_same : (f : Names) (old : Text → Bool) (a b : Frame) → Frames f old a b
    → values_at b.locals b.parameters ≡ ren_list f (values_at a.locals a.parameters)
parameters_same f old a b F =
    ap (values_at b.locals) F.parameters ∙ by a.parameters refl
  where
    by : (xs : List Text) → a.parameters ≡ xs → values_at b.locals a.parameters ≡ ren_list f (values_at a.locals a.parameters)
    by [] e = ap (values_at b.locals) e ∙ sym (ap (λ l. ren_list f (values_at a.locals l)) e)
    by (x ∷ xs) e = values_same f a.locals b.locals a.parameters (λ y. F.locals y (none y (old y) refl))
      where
        is_nil : List Text → Bool
        is_nil [] = true
        is_nil (z ∷ zs) = false

        none : (y : Text) (d : Bool) → old y ≡ d → old y ≡ false
        none y true g = absurd (apart (sym (ap is_nil (F.no_parameters y g)) ∙ ap is_nil e))
        none y false g = g

-- ---- frames of their own

module _ {calm : Bool} (S : Setting calm) where
  pub innermost_same : (is : List Id) → innermost_scope (lifted_all S.lift is) ≡ lifted S.lift (innermost_scope is)
  innermost_same [] = sym (S.core_stays 0 refl)
  innermost_same (i ∷ is) = refl

  pub method_frames : (r : Value) (running : Running) (c : Code) (vs : List Value)
      → Frames S.lift no_old (method_frame r running c vs)
      (method_frame (ren S.lift r) (ren_running S.lift running) (ren_code S.lift c) (ren_list S.lift vs))
  method_frames r running c vs = record {
    self_value = refl;
    scopes = refl;
    locals = λ x h. ap (at x) (required_same S.lift c.required vs) ∙ at-made (ren S.lift) x (required_locals c.required vs);
    is_console = refl;
    is_body = refl;
    hides = refl;
    running = refl;
    parameters = refl;
    no_parameters = λ x e. absurd (apart (sym e));
  }

  pub body_frames : (i : Id) (scopes : List Id)
      → Frames S.lift no_old (body_frame i scopes) (body_frame (lifted S.lift i) (lifted_all S.lift scopes))
  body_frames i scopes = record {
    self_value = refl;
    scopes = refl;
    locals = λ x h. refl;
    is_console = refl;
    is_body = refl;
    hides = refl;
    running = refl;
    parameters = refl;
    no_parameters = λ x e. absurd (apart (sym e));
  }

  pub top_frames : (locals : Table Value) → Frames S.lift no_old (top_frame locals) (top_frame (ren_table S.lift locals))
  top_frames locals = record {
    self_value = ap object_at (sym S.main_stays);
    scopes = refl;
    locals = λ x h. at-made (ren S.lift) x locals;
    is_console = refl;
    is_body = refl;
    hides = refl;
    running = refl;
    parameters = refl;
    no_parameters = λ x e. absurd (apart (sym e));
  }

module _ {calm : Bool} {S : Setting calm} {old : Text → Bool} where
  pub sets_local_alike : (x : Text) (v : Value) → Alike S old (sets_local x v) (sets_local x (ren S.lift v))
  sets_local_alike x v = changing_frame_alike _ _ (local_frames x v) (λ a. refl) v

  pub or_nil_alike : (o : Option Value) → Alike S old (or_nil o) (or_nil (option_map (ren S.lift) o))
  or_nil_alike None = gives_alike nil
  or_nil_alike (Some v) = gives_alike v

-- what a whole frame tells
pub with_frame_alike : {calm : Bool} {S : Setting calm} {old : Text → Bool} {k k' : Frame → Act}
    → ((a b : Frame) → Frames S.lift old a b → PlainRunning calm a.running → Alike S old (k a) (k' b))
    → ((a : Frame) → Grows (k a)) → ((b : Frame) → Spends (k' b)) → Alike S old (in_frame (λ f. f) k) (in_frame (λ f. f) k')
with_frame_alike {calm} {S} {old} {k} {k'} b g l = record {
  acts = λ p p' P. (b p.frame p'.frame P.frame P.plain).acts p p' P;
  grows = in_frame_keeps (λ f. f) g;
  spends = in_frame_keeps (λ f. f) l;
}
