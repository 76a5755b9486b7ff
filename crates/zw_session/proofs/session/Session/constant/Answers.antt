use Rattle.std.proofs.Common.{ap, subst, ◌∙◌}
use Rattle.std.specs.Option.{IfSome}
use Rattle.zw_heap.specs.Heap.{sizes_of}
use Rattle.zw_heap.specs.Sound.{IsIn}
use Rattle.zw_consts.specs.Table.{tables_of, value_at}
use Rattle.zw_session.specs.SessionSeen.{session_seen}
use Rattle.zw_session.specs.Stores.{Stores}
use Rattle.zw_session.proofs.ConstantLemmas.{constant-asked, constant-in, there-is}
use Rattle.zw_session.proofs.session.Session.constant.Goals as goal

pub returns-clause-held : goal.returns-clause-held
returns-clause-held c =
    subst (λ (s : Stores). IfSome c.get.result (IsIn (sizes_of s.heap))) c.self.view_is
    (constant-in (session_seen c.self.inside) c.self.invariant c.args.of.0 c.args.name.0 c.get.result c.get.ensures)

pub returns-clause-asks : goal.returns-clause-asks
returns-clause-asks c = λ go k J p stands here.
    let m = there-is c.args.self.now.heap.modules c.args.of.0 c.requires in
    constant-asked J c.args.self.now p here c.args.of.0 m.0 m.1 c.args.name.0 go k c.get.result
    (c.get.ensures ∙ ap (λ (s : Stores). value_at c.args.of.0 c.args.name.0 (tables_of s.constants)) c.self.view_is)
