use Rattle.std.proofs.Common.{rules, ◌≡◌, ◌∙◌, map, codes, Ok, Err}
use Rattle.toml.specs.View.{view}
use Rattle.zw_def_syntax.specs.Program.{program_of}
use Rattle.zw_ast.specs.Node.{name_seen}
use Rattle.zw_ast.specs.Program.{program_seen}
use Rattle.zw_hooks.specs.HookSeen.{moment_seen}
use Rattle.zw_lexer.specs.Fault.{fault_seen}
use Rattle.zw_def_config.specs.Callback.{known_at}
use Rattle.zw_def_config.specs.Value.{text_in}
use Rattle.zw_config.proofs.HookLemmas.{program_told}
use Rattle.zw_config.proofs.ProgramLemmas.{names_kept}
use Rattle.zw_config.proofs.callbacks.program_in.Goals as goal

pub returns-in-Ok-clause-told : goal.returns-in-Ok-clause-told
returns-in-Ok-clause-told c =
    let old = c.known_at.new.names in
    let new = c.read_program.new.names in
    let known = c.in_ok-known.known.items in
    let text = c.in_ok-text.text.now in
    let knows : map (name_seen new) known ≡ known_at (moment_seen c.args.on) = names_kept old new c.in-Ok.ensures.grows known c.in_ok-known.ensures.named ∙ c.in_ok-known.ensures.told in
    let read : text_in (codes "callback.run") (view c.args.value.now) ≡ Ok text = search rules in
    let is : program_of (map (name_seen new) known) text ≡ Ok (program_seen new c.in-Ok.program) = search rules in
    program_told (moment_seen c.args.on) (view c.args.value.now) text (map (name_seen new) known) _ read knows is

pub returns-in-Err-Refused-clause-told : goal.returns-in-Err-Refused-clause-told
returns-in-Err-Refused-clause-told c =
    let old = c.known_at.new.names in
    let new = c.read_program.new.names in
    let known = c.in_ok-known.known.items in
    let text = c.in_ok-text.text.now in
    let knows : map (name_seen new) known ≡ known_at (moment_seen c.args.on) = names_kept old new c.in-Err-Refused.ensures.grows known c.in_ok-known.ensures.named ∙ c.in_ok-known.ensures.told in
    let read : text_in (codes "callback.run") (view c.args.value.now) ≡ Ok text = search rules in
    let is : program_of (map (name_seen new) known) text ≡ Err (fault_seen c.in-Err-Refused.field-0-0) = search rules in
    program_told (moment_seen c.args.on) (view c.args.value.now) text (map (name_seen new) known) _ read knows is
