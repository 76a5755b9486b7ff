-- What the code's session answers.
use Rattle.std.proofs.Common.{◌≡◌, List, [], ◌∷◌, Option, Some, None, codes, refl, sym, ap, subst}
use Rattle.std.specs.Option.{option_map_or}
use Rattle.zw_def.specs.Text.{Text}
use Rattle.zw_def_thin.specs.Evaluation.{World, Expression, expression_of, evaluated}
use Rattle.zw_def_thin.specs.Session.{Session, not_built, ran, run_in, run_answer}
use Rattle.zw_thin.specs.Held.{Held}
use Rattle.zw_thin.specs.World.{RunsTo, Answers}
use Rattle.zw_view.specs.View.{IsView}
use Rattle.zw_view.specs.declared.view.View.{View}
use Rattle.zw_top.specs.Reply.{Gives}
use Rattle.zw_top.specs.Session.{ConsoleStands, SessionStands}

-- the line of a run, or that it is not built
abbrev pub lines_by : Option Text → List Text
lines_by None = codes "? not built" ∷ []
lines_by (Some line) = line ∷ []

runs_by : (s : Session) (view : View) (new : Held) (world : World) (line : Option Text) (e : Option Expression) → s.console ≡ Some world → IsView s.layout s.tree view → RunsTo world new e line
    → Gives (lines_by line) (record { view = view; console = Some new }) (option_map_or (λ x. ran s (evaluated world x)) e (not_built s))
runs_by s view new world line None is shows runs = record {
  told = ap lines_by runs.0;
  stands = record { view = shows; console = subst (λ (o : Option World). ConsoleStands o (Some new)) (sym is) runs.1 };
}
runs_by s view new world line (Some e) is shows runs = record {
  told = ap lines_by runs.0;
  stands = record { view = shows; console = runs.1 };
}

runs_in : (s : Session) (view : View) (old new : Held) (text : Text) (line : Option Text) (o : Option World) → s.console ≡ o → ConsoleStands o (Some old) → IsView s.layout s.tree view → Answers old new text line
    → Gives (lines_by line) (record { view = view; console = Some new }) (option_map_or (run_in text s) o (not_built s))
runs_in s view old new text line None is stands shows answers = absurd stands
runs_in s view old new text line (Some world) is stands shows answers = runs_by s view new world line (expression_of text) is shows (answers world stands)

-- in each session that stood for a console, the lines are those of `run`
pub runs_line : (s : Session) (view : View) (old new : Held) (console : Option Held) (text : Text) (line : Option Text) (lines : List Text) → console ≡ Some old → SessionStands s (record { view = view; console = console }) → Answers old new text line → lines ≡ lines_by line
    → Gives lines (record { view = view; console = Some new }) (run_answer text s)
runs_line s view old new console text line lines is stands answers same =
    subst (λ (l : List Text). Gives l (record { view = view; console = Some new }) (run_answer text s)) (sym same)
    (runs_in s view old new text line s.console refl (subst (ConsoleStands s.console) is stands.console) stands.view answers)
