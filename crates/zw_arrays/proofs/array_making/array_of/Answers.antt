use Rattle.std.proofs.Common.{◌≤◌, ap, ◌∙◌, length, arith, rules}
use Rattle.zw_def_world.specs.Act.{Act}
use Rattle.zw_def_world.specs.Making.{max_items}
use Rattle.zw_arrays.proofs.ItemLemmas.{items-make}
use Rattle.zw_arrays.proofs.array_making.array_of.Goals as goal

pub returns-then-not-tick-clause-performs : goal.returns-then-not-tick-clause-performs
returns-then-not-tick-clause-performs c = λ names.
    let few : length c.args.items.now ≤ max_items = omega arith in
    record {
      told = λ s I p fit agrees left.
          ap (λ (a : Act). a p) (items-make I names c.args.heap.now fit c.is_sound.ensures.sound c.args.items.now c.requires.items few) ∙ search rules;
      held = tt;
      done = tt;
    }

pub returns-clause-performs : goal.returns-clause-performs
returns-clause-performs c = λ names.
    let few : length c.args.items.now ≤ max_items = omega arith in
    record {
      told = λ s I p fit agrees left.
          let value = c.in_ok-new_array.ensures.told I names fit in
          let before = c.in_ok-new_array.ensures.adds.adds I names fit in
          ap (λ (a : Act). a p) (items-make I names c.args.heap.now before c.is_sound.ensures.sound c.args.items.now c.requires.items few) ∙ search rules;
      held = c.in_ok-new_array.ensures.held;
      done = tt;
    }
