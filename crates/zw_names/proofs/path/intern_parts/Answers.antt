use Rattle.std.proofs.Common.{◌≡◌, ◌∷◌, ◌∙◌, ap}
use Rattle.zw_def.specs.ConstantPath.{parts_of}
use Rattle.zw_names.specs.Path.{parts_left}
use Rattle.zw_names.proofs.CPathLemmas.{part_read}
use Rattle.zw_def.proofs.NameLemmas.{OnlyGrows-trans}
use Rattle.zw_names.proofs.path.intern_parts.Goals as goal

pub loop-left-preserved : goal.loop-left-preserved
loop-left-preserved c =
    let part = c.first_part.result.0.now in
    let more = parts_left c.first_part.result.1 in
    let left : parts_left c.loop-left.left ≡ part ∷ more = ap parts_left c.in-Some.is ∙ c.first_part.ensures.part in
    let read = part_read c.loop-left.names c.intern.new.self c.loop-left.path.items c.push.new.self.items c.in_ok-intern.field-0 part (parts_of c.args.text.now) (parts_left c.loop-left.left) more
    c.in_ok-intern.ensures.grows c.in_ok-intern.ensures.named c.in_ok-push.ensures.items left c.loop-left.invariant.0 c.loop-left.invariant.1 in
    (read.0, read.1, OnlyGrows-trans c.args.names.now c.loop-left.names c.intern.new.self c.loop-left.invariant.2 c.in_ok-intern.ensures.grows)
