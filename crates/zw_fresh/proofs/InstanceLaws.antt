-- What boot leaves is as the law asks for, and the law's premises can be met: by a process without boot.
use Rattle.std.specs.Prelude.{Ok, ℕ, ◌≡◌, false, [], Option, Some, None}
use Rattle.std.specs.Option.{option_map}
use Rattle.std.proofs.Common.{◌∙◌, refl, ap}
use Rattle.zw_def_world.specs.CoreWorld.{core_world}
use Rattle.zw_def_world.specs.Record.{frozen_module, frozen_object}
use Rattle.zw_def_world.specs.World.{World, Setting as WorldSetting, all_frozen}
use Rattle.zw_fresh.specs.Renaming.{ren_module, ren_object}
use Rattle.zw_def.specs.Text.{Text}
use Rattle.zw_def.specs.Tree.{Tree}
use Rattle.zw_def_syntax.specs.Token.{Fault}
use Rattle.zw_def_syntax.specs.Program.{Parsed}
use Rattle.zw_def_world.specs.Act.{Point}
use Rattle.zw_def_world.specs.Frame.{top_frame}
use Rattle.zw_def_world.specs.Log.{syntax_text}
use Rattle.zw_def_world.specs.Load.{runs}
use Rattle.zw_def_world.specs.Evaluation.{run}
use Rattle.zw_def_world.proofs.LoadLaws.{runs_keeps}
use Rattle.zw_def_world.proofs.EvaluationLaws.{run_keeps}
use Rattle.zw_fresh.specs.Naming.{no_old}
use Rattle.zw_fresh.proofs.FrameLaws.{top_frames}
use Rattle.zw_fresh.proofs.LoadLaws.{runs_alike}
use Rattle.zw_fresh.proofs.EvaluationLaws.{evaluates_plainly}
use Rattle.zw_fresh.proofs.NamingLaws.{parsed_free}
use Rattle.zw_fresh.specs.Alike.{Points, Met}
use Rattle.zw_fresh.specs.Fresh.{raised}
use Rattle.zw_fresh.specs.Setups.{Past}
use Rattle.zw_fresh.specs.Law.{CameFrom}
use Rattle.zw_fresh.proofs.SetupLaws.{changed_none, acts_stay_past, acts_keep_setups}
use Rattle.zw_fresh.proofs.FreshLaws.{fresh_setting}
use Rattle.zw_fresh.proofs.BootLaws.{boot_end, core_alike, frozen_alike, self_alike}
use Rattle.zw_fresh.proofs.CoreLaws.{first_setups, world_past}
use Rattle.zw_fresh.proofs.HeldLaws.{tables_told}
use Rattle.zw_fresh.proofs.BootHeldLaws.{boot_tables}

so_met : {A : Type 0} (g : A → A) (o o' : Option A) → Met false (λ x y. y ≡ g x) o o' → o' ≡ option_map g o
so_met g (Some x) (Some y) m = ap Some m
so_met g (Some x) None m = absurd m
so_met g None None m = refl
so_met g None (Some y) m = absurd m

-- ---- what boot leaves

pub frozen_past : (w : World) → Past w → Past (all_frozen w)
frozen_past w a = record {
  modules = λ i h. changed_none frozen_module _ (a.modules i h);
  objects = λ i h. changed_none frozen_object _ (a.objects i h);
}

-- the image of boot holds names of boot alone, so worlds that came from it are as the law asks for
pub boot_came : (setting : WorldSetting) (budget : ℕ) (fault_text : Fault → Text) (parsed : Parsed) (w : World)
    (tree : Tree) → let image = all_frozen (boot_end setting budget fault_text parsed).at.world in
    Past w → w.setting ≡ image.setting → CameFrom image w tree
boot_came setting budget fault_text parsed w tree later same =
    let T = tables_told _ (boot_tables setting budget fault_text parsed) tree in
    let S = fresh_setting w.setups [] [] in
    let p : Point = record { world = core_world setting; frame = top_frame []; left = budget; out = [] } in
    let P : Points false S no_old p p = record {
      world = core_alike S setting;
      frame = top_frames S [];
      plain = tt;
      left = refl;
      out = ([], refl, refl);
    } in
    let alike = runs_alike (evaluates_plainly S budget 0) no_old fault_text parsed (parsed_free parsed) in
    let W = frozen_alike S (self_alike S alike p P tt) in
    let past = acts_stay_past (runs (run budget 0) fault_text parsed)
    (λ E. runs_keeps (run_keeps {E = E} budget 0) fault_text parsed) p (world_past setting) in
    record {
      first = acts_keep_setups (runs (run budget 0) fault_text parsed)
          (λ E. runs_keeps (run_keeps {E = E} budget 0) fault_text parsed) p ∙ first_setups setting;
      order = W.order;
      modules = λ i. so_met (ren_module (raised w.setups)) _ _ (W.modules i);
      objects = λ i. so_met (ren_object (raised w.setups)) _ _ (W.objects i);
      none = frozen_past _ past;
      later = later;
      setting = same;
      told = T.0;
      tells = T.1;
    }

-- before anything has set up the law's premises are met, whatever the roots and the tree are
pub premises_can_be_met : (setting : WorldSetting) (tree : Tree)
    → CameFrom (all_frozen (core_world setting)) (all_frozen (core_world setting)) tree
premises_can_be_met setting tree =
    boot_came setting 0 syntax_text (Ok []) (all_frozen (core_world setting)) tree
    (frozen_past (core_world setting) (world_past setting)) refl
