use Rattle.std.proofs.Common.{ap, sym, subst, ◌∙◌}
use Rattle.zw_def.specs.Names.{texts_of}
use Rattle.zw_map.specs.BootSeen.{AreBootNamed, boot_seen, is_own}
use Rattle.zw_view.proofs.ViewLemmas.{leads_seen}
use Rattle.zw_view.proofs.view.View.leads.Goals as goal

pub returns : goal.returns
returns c layout tree setting is =
    let names = c.args.self.now.names in
    c.is_module.ensures names c.are_distinct.ensures (subst (AreBootNamed names) (sym c.deref.ensures.value) c.requires.view.boot) c.requires.path
    ∙ ap (λ rows. is_own (boot_seen names rows (texts_of names c.args.path.now))) c.deref.ensures.value
    ∙ leads_seen names c.args.self.now.boot.items setting c.args.path.now is.boot
