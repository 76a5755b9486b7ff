use Rattle.std.proofs.Common.{rules, ◌≡◌, Some}
use Rattle.zw_def_syntax.specs.Token as t
use Rattle.zw_def_syntax.specs.Input.{kind_at}
use Rattle.zw_def_syntax.specs.Grammar as spec
use Rattle.zw_def_syntax.specs.Grammar.{within}
use Rattle.zw_ast.specs.Grown.{grown_seen}
use Rattle.zw_ast.specs.Node.{name_seen}
use Rattle.zw_grammar.proofs.PartLemmas.{update_is, reads_by}
use Rattle.zw_grammar.proofs.update.update.Goals as goal

pub returns-in-Identifier-clause-reads : goal.returns-in-Identifier-clause-reads
returns-in-Identifier-clause-reads g c =
    let inner = within c.args.grammar.now.depth in
    let names = c.args.grammar.now.maker.names.now in
    let kind : t.Kind = t.identifier (name_seen names c.in-Identifier.name) in
    let at : kind_at 0 c.args.tokens.now.input ≡ Some kind = search rules in
    reads_by (grown_seen names) (spec.update inner) (spec.update_by inner (Some kind)) _ _ _ _ (update_is inner _ _ kind c.take_token.ensures.taken at) c.local_update.ensures.reads

pub returns-in-InstanceVariable-clause-reads : goal.returns-in-InstanceVariable-clause-reads
returns-in-InstanceVariable-clause-reads g c =
    let inner = within c.args.grammar.now.depth in
    let names = c.args.grammar.now.maker.names.now in
    let kind : t.Kind = t.instance_variable (name_seen names c.in-InstanceVariable.name) in
    let at : kind_at 0 c.args.tokens.now.input ≡ Some kind = search rules in
    reads_by (grown_seen names) (spec.update inner) (spec.update_by inner (Some kind)) _ _ _ _ (update_is inner _ _ kind c.take_token.ensures.taken at) c.updated.ensures.reads

pub returns-in-ClassVariable-clause-reads : goal.returns-in-ClassVariable-clause-reads
returns-in-ClassVariable-clause-reads g c =
    let inner = within c.args.grammar.now.depth in
    let names = c.args.grammar.now.maker.names.now in
    let kind : t.Kind = t.class_variable (name_seen names c.in-ClassVariable.name) in
    let at : kind_at 0 c.args.tokens.now.input ≡ Some kind = search rules in
    reads_by (grown_seen names) (spec.update inner) (spec.update_by inner (Some kind)) _ _ _ _ (update_is inner _ _ kind c.take_token.ensures.taken at) c.updated-in-ClassVariable.ensures.reads
