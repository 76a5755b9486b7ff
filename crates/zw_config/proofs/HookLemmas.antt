-- What is read of a callback, and callbacks that are told alike while names are added.
use Rattle.std.proofs.Common.{◌≡◌, ◌≤◌, List, [], ◌∷◌, ◌++◌, Option, Some, None, Result, Ok, Err, IfOk, codes, IfSome, length, get_or, map, option_map, refl, ap, sym, ◌∙◌, arith}
use Rattle.std.specs.List.{All}
use Rattle.std.proofs.lemmas.List.{map-append, length-append}
use Rattle.std.proofs.lemmas.List.Elements.{All-push}
use Rattle.zw_lemmas.proofs.ListLemmas.{map-same}
use Rattle.zw_def.specs.Text.{Text}
use Rattle.zw_def.specs.Names.{AreNamed, OnlyGrows, texts_of}
use Rattle.zw_def.proofs.NameLemmas.{AreNamed-grown, texts_of-grown}
use Rattle.zw_names.specs.declared.path.CPath.{CPath}
use Rattle.zw_ast.specs.declared.program.Statement.{Statement}
use Rattle.zw_ast.specs.Named.{greatest}
use Rattle.zw_ast.specs.Program.{statement_names, statements_seen}
use Rattle.zw_hooks.specs.declared.hook.Hook.{Hook}
use Rattle.zw_hooks.specs.HookSeen.{hook_seen, moment_seen}
use Rattle.zw_config.specs.Callback.{IsNamed}
use Rattle.toml.specs.Data.{Data, Members}
use Rattle.zw_def_syntax.specs.Tree as t
use Rattle.zw_def_syntax.specs.Program.{Parsed, program_of}
use Rattle.zw_def.specs.ConstantPath.{ConstantPath}
use Rattle.zw_def_world.specs.Callback.{Moment}
use Rattle.zw_def_config.specs.Fault.{◌>>=◌}
use Rattle.zw_def_config.specs.Key.{at}
use Rattle.zw_def_config.specs.Value.{required, optional, text_in}
use Rattle.zw_def_config.specs.Callback.{callback_of_table, moment_in, target_in, program_in, program_read, known_at}
use Rattle.zw_config.proofs.ProgramLemmas.{tree_kept}

grown_longer : (old new : List Text) → OnlyGrows old new → length old ≤ length new
grown_longer old new grows = omega (arith, ap (λ (xs : List Text). length xs) grows.1 ∙ length-append old grows.0)

module _ (old new : List Text) (grows : OnlyGrows old new) where
  statements_kept : (ss : List Statement) → greatest statement_names ss ≤ length old → statements_seen new ss ≡ statements_seen old ss
  statements_kept [] named = refl
  statements_kept (s ∷ ss) named =
      λ i. record { line = s.line; tree = tree_kept old new grows s.node (omega (arith, named)) i } ∷ statements_kept ss (omega (arith, named)) i

  pub target_kept : (target : Option CPath) → IfSome target (AreNamed old) → option_map (texts_of new) target ≡ option_map (texts_of old) target
  target_kept None named = refl
  target_kept (Some path) named = ap Some (texts_of-grown old new path grows named)

  target_named : (target : Option CPath) → IfSome target (AreNamed old) → IfSome target (AreNamed new)
  target_named None named = tt
  target_named (Some path) named = AreNamed-grown old new path grows named

  hook_grown : (hook : Hook) → IsNamed old hook → hook_seen new hook ≡ hook_seen old hook
  hook_grown hook named =
      λ i. record { moment = moment_seen hook.on; target = target_kept hook.target named.0 i; program = statements_kept hook.program.statements.items named.1 i }

  pub hooks_grown : (hooks : List Hook) → All (IsNamed old) hooks → map (hook_seen new) hooks ≡ map (hook_seen old) hooks
  hooks_grown hooks named = map-same (hook_seen new) (hook_seen old) (IsNamed old) hooks hook_grown named

  hook_named : (hook : Hook) → IsNamed old hook → IsNamed new hook
  hook_named hook named = (target_named hook.target named.0, omega (arith, named.1, grown_longer old new grows))

  -- one callback more
  pub hooks_pushed : (hooks all : List Hook) (hook : Hook) → all ≡ hooks ++ hook ∷ [] → All (IsNamed old) hooks → map (hook_seen new) all ≡ map (hook_seen old) hooks ++ hook_seen new hook ∷ []
  hooks_pushed hooks all hook is named =
      ap (map (hook_seen new)) is ∙ map-append (hook_seen new) hooks (hook ∷ []) ∙ ap (λ hs. hs ++ hook_seen new hook ∷ []) (hooks_grown hooks named)

  pub hooks_named : (hooks all : List Hook) (hook : Hook) → all ≡ hooks ++ hook ∷ [] → All (IsNamed old) hooks → IsNamed new hook → All (IsNamed new) all
  hooks_named hooks all hook is named one = rw is (All-push (IsNamed new) hooks hook (λ k d lt. hook_named (get_or hooks k d) (named k d lt)) one)

-- ---- what is read

pub program_told : (moment : Moment) (value : Data) (text : Text) (known : List Text) (parsed : Parsed) → text_in (codes "callback.run") value ≡ Ok text → known ≡ known_at moment → program_of known text ≡ parsed
    → program_in moment value ≡ program_read parsed
program_told moment value text known parsed read knows is =
    ap (λ r. r >>= λ text. program_read (program_of (known_at moment) text)) read
    ∙ ap (λ names. program_read (program_of names text)) (sym knows)
    ∙ ap program_read is

module _ (table : Members) (moment : Moment) (target : Option ConstantPath) (program : t.Program)
    (on : required (codes "callback.on") moment_in (at (codes "on") table) ≡ Ok moment)
    (for : optional (target_in moment) (at (codes "target") table) ≡ Ok target)
    (run : required (codes "callback.run") (program_in moment) (at (codes "run") table) ≡ Ok program) where
  pub callback_read : callback_of_table table ≡ Ok (record { moment = moment; target = target; program = program })
  unfolding callback_of_table
  callback_read = rw (on, for, run) refl

-- what follows from what is said of a value
pub map_IfOk : {T E : Type 0} (r : Result T E) (P Q : T → Type 0) → ((x : T) → P x → Q x) → IfOk r P → IfOk r Q
map_IfOk (Ok x) P Q f h = f x h
map_IfOk (Err e) P Q f h = tt
