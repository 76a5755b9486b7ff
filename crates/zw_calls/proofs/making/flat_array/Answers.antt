use Rattle.std.proofs.Common.{◌≤◌, ap, ◌∙◌, length, arith, rules}
use Rattle.zw_def_world.specs.Act.{Act}
use Rattle.zw_def_world.specs.Making.{max_items}
use Rattle.zw_calls.proofs.MakingLemmas.{flat-makes}
use Rattle.zw_calls.proofs.making.flat_array.Goals as goal

pub returns-then-not-tick-clause-performs : goal.returns-then-not-tick-clause-performs
returns-then-not-tick-clause-performs c = λ names.
    let few : length c.args.items.now ≤ max_items = omega arith in
    record {
      told = λ s I p fit agrees left. ap (λ (a : Act). a p) (flat-makes I c.args.items.now c.requires.flat few) ∙ search rules;
      held = tt;
      done = tt;
    }

pub returns-clause-performs : goal.returns-clause-performs
returns-clause-performs c = λ names.
    let few : length c.args.items.now ≤ max_items = omega arith in
    record {
      told = λ s I p fit agrees left.
          let value = c.in_ok-new_array.ensures.told I names fit in
          ap (λ (a : Act). a p) (flat-makes I c.args.items.now c.requires.flat few) ∙ search rules;
      held = c.in_ok-new_array.ensures.held;
      done = tt;
    }
