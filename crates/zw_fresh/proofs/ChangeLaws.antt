-- Acts that read a record or change the world keep points alike.
use Rattle.std.specs.Prelude.{◌≡◌, ◌+◌, Bool, true, false, Option, Some, None}
use Rattle.std.proofs.Common.{refl, sym, ap, ◌∙◌, subst, le_refl}
use Rattle.zw_def.specs.Text.{Text}
use Rattle.zw_def.specs.ConstantPath.{ConstantPath}
use Rattle.zw_def_world.specs.Id.{Id}
use Rattle.zw_def_world.specs.Value.{Value, nil}
use Rattle.zw_def_world.specs.Table.{Table}
use Rattle.zw_def_world.specs.Record.{Module, Object}
use Rattle.zw_def_world.specs.World.{World, at_object, at_module}
use Rattle.zw_def_world.specs.Meeting.{with_meeting}
use Rattle.zw_def_world.specs.Frame.{Frame}
use Rattle.zw_def_world.specs.Act.{Point, Act, gave, lost, read, in_module, in_object, changing, changing_frame, changing_module, changing_object}
use Rattle.zw_def_world.proofs.EvolutionLaws.{in_module_keeps, in_object_keeps}
use Rattle.zw_fresh.specs.CalmCode.{PlainRunning}
use Rattle.zw_fresh.specs.Renaming.{lifted, lifted_object, ren, ren_object}
use Rattle.zw_fresh.specs.Alike.{IsThere, NoneLost, Setting, ChangesVariables, Met, Modules, module_with, shows, Objects, Worlds, Frames, Points, Ends}
use Rattle.zw_fresh.proofs.GrowingLaws.{changed_there}
use Rattle.zw_fresh.proofs.EndLaws.{Spends, ends_at}
use Rattle.zw_fresh.proofs.ActLaws.{Alike}
use Rattle.zw_fresh.proofs.FoundLaws.{module_like}
use Rattle.zw_fresh.proofs.WorldLaws.{object_same, variable_same, met_same}

-- ---- what is read

pub read_met : {X Y : Type 0} (calm : Bool) (S : Setting calm) (old : Text → Bool) (R : X → Y → Type 0) (k : X → Act)
    (k' : Y → Act) (p p' : Point) → Points calm S old p p' → (o : Option X) (o' : Option Y)
    → ((x : X) (y : Y) → o ≡ Some x → R x y → Ends calm S old (k x p) (k' y p')) → Met calm R o o'
    → Ends calm S old (read o k p) (read o' k' p')
read_met calm S old R k k' p p' P (Some x) (Some y) h m = h x y refl m
read_met calm S old R k k' p p' P (Some x) None h m = absurd m
read_met calm S old R k k' p p' P None None h m = ends_at calm S old lost p p' P
read_met true S old R k k' p p' P None (Some y) h m = λ inside. tt
read_met false S old R k k' p p' P None (Some y) h m = absurd m

changing_spends : (g : World → World) (v : Value) → Spends (changing g v)
changing_spends g v = record { kept = λ p. le_refl p.left }

module _ {calm : Bool} {S : Setting calm} {old : Text → Bool} where
  -- a module's record, but for its constants
  pub in_module_alike : (i : Id) (k k' : Module → Act)
      → ((m : Module) (c : Table Value) → Alike S old (k m) (k' (module_with S.lift c m))) → ((m : Module) → Spends (k' m))
      → Alike S old (in_module i k) (in_module (lifted S.lift i) k')
  in_module_alike i k k' b l = record {
    acts = λ p p' P. read_met calm S old (Modules calm S.lift (shows calm S p.world)) k k' p p' P (p.world.modules i)
        (p'.world.modules (lifted S.lift i)) (λ m m' at M.
        let like = module_like calm S.lift (shows calm S p.world) m m' M in
        subst (λ z. Ends calm S old (k m p) (k' z p')) (sym like.1) ((b m like.0).acts p p' P)) (P.world.modules i);
    grows = in_module_keeps i (λ m. (b m m.constants).grows);
    spends = in_module_keeps (lifted S.lift i) l;
  }

  pub in_object_alike : (i : Id) (k k' : Object → Act)
      → ((o : Object) → Alike S old (k o) (k' (ren_object S.lift o))) → ((o : Object) → Spends (k' o))
      → Alike S old (in_object i k) (in_object (lifted_object S.lift i) k')
  in_object_alike i k k' b l = record {
    acts = λ p p' P. read_met calm S old (Objects S.lift) k k' p p' P (p.world.objects i)
        (p'.world.objects (lifted_object S.lift i)) (λ o o' at e.
        subst (λ z. Ends calm S old (k o p) (k' z p')) (sym e) ((b o).acts p p' P)) (P.world.objects i);
    grows = in_object_keeps i (λ o. (b o).grows);
    spends = in_object_keeps (lifted_object S.lift i) l;
  }

  -- ---- what is changed

  -- a change that leaves the states of keys
  pub changing_alike : (g g' : World → World) → ((w w' : World) → Worlds calm S w w' → Worlds calm S (g w) (g' w'))
      → ((w : World) → (g w).states ≡ w.states) → ((w : World) → NoneLost w (g w)) → (v : Value)
      → Alike S old (changing g v) (changing g' (ren S.lift v))
  changing_alike g g' same states stays v = record {
    acts = λ p p' P. ends_at calm S old (gave v) (record p { world = g p.world }) (record p' { world = g' p'.world })
        (record {
          world = same p.world p'.world P.world;
          frame = P.frame;
          plain = P.plain;
          left = ap (λ s. p'.left + S.owed s) (states p.world) ∙ P.left;
          out = P.out;
        });
    grows = record { kept = λ p. stays p.world };
    spends = changing_spends g' (ren S.lift v);
  }

  pub changing_frame_alike : (g g' : Frame → Frame) → ((a b : Frame) → Frames S.lift old a b → Frames S.lift old (g a) (g' b))
      → ((a : Frame) → (g a).running ≡ a.running) → (v : Value) → Alike S old (changing_frame g v) (changing_frame g' (ren S.lift v))
  changing_frame_alike g g' same runs v = record {
    acts = λ p p' P. ends_at calm S old (gave v) (record p { frame = g p.frame }) (record p' { frame = g' p'.frame })
        (record {
          world = P.world;
          frame = same p.frame p'.frame P.frame;
          plain = subst (PlainRunning calm) (sym (runs p.frame)) P.plain;
          left = P.left;
          out = P.out;
        });
    grows = record { kept = λ p i h. h };
    spends = record { kept = λ p. le_refl p.left };
  }

  pub changing_object_alike : (i : Id) (g g' : Object → Object)
      → ((o : Object) → g' (ren_object S.lift o) ≡ ren_object S.lift (g o)) → (v : Value)
      → Alike S old (changing_object i g v) (changing_object (lifted_object S.lift i) g' (ren S.lift v))
  changing_object_alike i g g' same v = in_object_alike i _ _
      (λ o. changing_alike (at_object i g) (at_object (lifted_object S.lift i) g')
      (λ w w' W. object_same W i g g' same) (λ w. refl) (λ w j h. h) v) (λ o. changing_spends _ _)

  -- a change of a module's variables alone
  pub changing_variables_alike : (i : Id) (g g' : Module → Module) → ChangesVariables g → ChangesVariables g'
      → ((m : Module) (c : Table Value) → g' (module_with S.lift c m) ≡ module_with S.lift c (g m)) → (v : Value)
      → Alike S old (changing_module i g v) (changing_module (lifted S.lift i) g' (ren S.lift v))
  changing_variables_alike i g g' l l' same v = record {
    acts = λ p p' P. read_met calm S old (Modules calm S.lift (shows calm S p.world))
        (λ m. changing (at_module i g) v) (λ m. changing (at_module (lifted S.lift i) g') (ren S.lift v)) p p' P
        (p.world.modules i) (p'.world.modules (lifted S.lift i)) (λ m m' at M.
        ends_at calm S old (gave v) (record p { world = at_module i g p.world })
        (record p' { world = at_module (lifted S.lift i) g' p'.world }) (record {
          world = variable_same P.world i g g' l l' same (subst IsThere (sym at) tt);
          frame = P.frame;
          plain = P.plain;
          left = P.left;
          out = P.out;
        })) (P.world.modules i);
    grows = in_module_keeps i (λ m. record { kept = λ p. changed_there i g p.world.modules });
    spends = in_module_keeps (lifted S.lift i) (λ m. changing_spends (at_module (lifted S.lift i) g') (ren S.lift v));
  }

  pub meeting_alike : (h : Option ConstantPath) (n : Text)
      → Alike S old (changing (with_meeting h n) nil) (changing (with_meeting h n) nil)
  meeting_alike h n = changing_alike (with_meeting h n) (with_meeting h n) (λ w w' W. met_same W h n) (λ w. refl) (λ w j there. there) nil
