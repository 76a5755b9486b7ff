use Rattle.std.proofs.Common.{rules, ◌≤◌, length}
use Rattle.zw_compound.proofs.KnownLemmas.{known_texts, known_within}
use Rattle.zw_compound.proofs.known.params_known.Goals as goal

pub returns-clause-told : goal.returns-clause-told
returns-clause-told c =
    let past : length c.args.params.now.optional.items ≤ c.optional.optional-index = search (rules, c.optional-test.false) in
    known_texts c.args.maker.now.names.now c.args.params.now _ _ c.optional.invariant past

pub returns-clause-named : goal.returns-clause-named
returns-clause-named c =
    let past : length c.args.params.now.optional.items ≤ c.optional.optional-index = search (rules, c.optional-test.false) in
    known_within c.args.maker.now.names.now c.args.params.now _ _ c.optional.invariant past c.requires
