use Rattle.std.specs.String.{string_bytes}
use Rattle.zw_names.proofs.CPathLemmas.{number_named, name_pushed}
use Rattle.zw_names.proofs.path.push_names.Goals as goal

pub text-requires : goal.text-requires
text-requires c = number_named c.args.names.now c.args.path.now c.loop-name.name-index _ c.requires c.loop-name-test.true

pub loop-name-preserved : goal.loop-name-preserved
loop-name-preserved c =
    name_pushed c.args.names.now c.args.path.now c.loop-name.name-index _ (string_bytes c.args.text.now) (string_bytes c.loop-name.text) (string_bytes c.push_str.new.self) (string_bytes c.push_str-in-loop-name.new.self) c.text.result.now c.loop-name-test.true c.text.ensures c.loop-name.invariant c.in_ok-push_str.ensures.bytes c.in_ok-push_str-2.ensures.bytes
