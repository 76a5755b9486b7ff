use Rattle.std.proofs.Common.{rules, ◌≡◌, true}
use Rattle.zw_def_syntax.specs.Input.{is_sign_of, kind_is}
use Rattle.zw_grammar.proofs.UpdateLemmas.{after_learn}
use Rattle.zw_grammar.proofs.update.local_update.Goals as goal

pub updated-requires : goal.updated-requires
updated-requires g c κs =
    let sign : kind_is (is_sign_of "+= -= *= /= %= ||= &&=") 0 c.learn.new.self.input ≡ true = after_learn _ _ _ _ _ c.in_ok-learn.ensures.reads c.requires.sign in
    search (rules, sign)
