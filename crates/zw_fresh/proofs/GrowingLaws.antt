-- No module that is there is lost.
use Rattle.std.specs.Prelude.{◌≡◌, Bool, true, false, Option, Some, None, if◌then◌else◌}
use Rattle.std.specs.Option.{option_map}
use Rattle.std.proofs.Common.{refl, subst}
use Rattle.zw_def_world.specs.Id.{Id, Records, id_eq, changed_at, with_record}
use Rattle.zw_def_world.specs.Value.{module_at}
use Rattle.zw_def_world.specs.Record.{with_constant}
use Rattle.zw_def_world.specs.World.{without_home, fresh}
use Rattle.zw_def_world.proofs.EvolutionLaws.{Evolution}
use Rattle.zw_fresh.specs.Alike.{IsThere, NoneLost}
use Rattle.zw_fresh.proofs.NameLemmas.{id_eq_is}

pub map_there : {A : Type 0} (g : A → A) (o : Option A) → IsThere o → IsThere (option_map g o)
map_there g None h = absurd h
map_there g (Some x) h = tt

pub changed_there : {A : Type 0} (i : Id) (g : A → A) (records : Records A) (j : Id) → IsThere (records j)
    → IsThere (changed_at i g records j)
changed_there {A} i g records j h = at (id_eq j i) (id_eq_is j i)
  where
    at : (b : Bool) → (b ≡ true → j ≡ i) → IsThere (if b then option_map g (records i) else records j)
    at true e = map_there g (records i) (subst (λ k. IsThere (records k)) (e refl) h)
    at false e = h

pub made_there : {A : Type 0} (i : Id) (x : A) (records : Records A) (j : Id) → IsThere (records j)
    → IsThere (with_record i x records j)
made_there {A} i x records j h = at (id_eq j i)
  where
    at : (b : Bool) → IsThere (if b then Some x else records j)
    at true = tt
    at false = h

abbrev pub growing : Evolution
growing = record {
  relation = λ p q. NoneLost p.world q.world;
  none = λ p i h. h;
  both = λ p q r f g i h. g i (f i h);
  module_changed = λ p i g j h. changed_there i g p.world.modules j h;
  object_changed = λ p i g j h. h;
  object_made = λ p o j h. h;
  module_made = λ p i n m j h. changed_there i (with_constant n (module_at (fresh p.world)))
      (with_record (fresh p.world) m p.world.modules) j (made_there (fresh p.world) m p.world.modules j h);
  state_set = λ p q s j h. h;
  load_begun = λ p q j h. h;
  load_entered = λ p q j h. h;
  load_left = λ p j h. h;
  load_settled = λ p q i j h. h;
  load_taken_back = λ p q j h. map_there (without_home q) (p.world.modules j) h;
  met = λ p h n j there. there;
  in_other_frame = λ p f j h. h;
  spent = λ p n j h. h;
  written = λ p t j h. h;
}
