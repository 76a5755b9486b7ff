use Rattle.std.proofs.Common.{◌∙◌, sym}
use Rattle.zw_names.proofs.CPathLemmas.{others_named}
use Rattle.zw_names.proofs.path.CPath.text.Goals as goal

pub push_names-requires : goal.push_names-requires
push_names-requires c =
    others_named c.args.names.now c.self.inside.names.items c.args.self.now c.in-Some.first.now c.in-Some.others.now c.self.view_is (sym c.as_slice.ensures.value ∙ c.in-Some.ensures.cases.0) c.requires
