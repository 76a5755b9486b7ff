-- A session stays sound, and tells what it told, where its heap grows.
use Rattle.std.proofs.Common.{◌≡◌, ℕ, ◌<◌, ◌≤◌, List, [], ◌∷◌, ◌++◌, get_or, length, slice_get, Option, Some, None, refl, ap, sym, subst, ◌∙◌, arith}
use Rattle.std.specs.List.{All}
use Rattle.std.specs.Option.{option_map}
use Rattle.zw_code.specs.declared.code.Code.{Code}
use Rattle.zw_consts.specs.Table.{Table, tables_of}
use Rattle.zw_heap.specs.Heap.{Held, changed_at, sizes_of}
use Rattle.zw_heap.specs.Place.{Place, one_more}
use Rattle.zw_heap.specs.Sound.{EntryIn, Stays}
use Rattle.zw_heap.specs.Telling.{OnlyAdds}
use Rattle.zw_heap.specs.declared.value.ModuleId.{ModuleId}
use Rattle.zw_heap.specs.declared.value.Value.{Value}
use Rattle.zw_methods.specs.Methods.{Methods}
use Rattle.zw_session.specs.Sense.{Sense, Stands}
use Rattle.zw_session.specs.Sound.{IsSound, CodeIn}
use Rattle.zw_session.specs.Step.{Keeps}
use Rattle.zw_session.specs.Stores.{Stores}
use Rattle.zw_session.proofs.ListLemmas.{changed-here}

-- the place where records are made is outside of loads as long as it is the same
pub outside-counted : (h : Held) → option_map (λ (p : Place). p.load) (slice_get h.places h.here) ≡ Some None
    → option_map (λ (p : Place). p.load) (slice_get (changed_at h.here one_more h.places) h.here) ≡ Some None
outside-counted h outside = ap (option_map (λ (p : Place). p.load)) (changed-here one_more h.places h.here) ∙ by (slice_get h.places h.here) ∙ outside
  where
    by : (o : Option Place) → option_map (λ (p : Place). p.load) (option_map one_more o) ≡ option_map (λ (p : Place). p.load) o
    by None = refl
    by (Some p) = refl

module _ (s : Stores) (g : Held) where
  pub Sound-heap : IsSound s → g.names ≡ s.heap.names → option_map (λ (p : Place). p.load) (slice_get g.places g.here) ≡ Some None → Stays s.heap g → length s.heap.modules ≤ length g.modules → IsSound (record s { heap = g })
  Sound-heap sound names outside stays more = record {
    named = names ∙ sound.named;
    outside = outside;
    constants_in = λ n k d lt. let e = sound.constants_in n k d lt in (subst (λ count. (get_or (tables_of s.constants n) k d).0 < count) (sym names) e.0, stays (get_or (tables_of s.constants n) k d).1 e.1);
    constants_few = λ n past. sound.constants_few n (omega (arith, past, more));
    methods_in = sound.methods_in;
    methods_few = λ singleton n past. sound.methods_few singleton n (omega (arith, past, more));
    bodies_in = λ k d lt. let c = sound.bodies_in k d lt in record { named = c.named; scopes_in = λ i e within. let below = c.scopes_in i e within in omega (arith, below, more) };
  }

  module _ (cs : List (Table Value)) (me : Methods) where
    pub keeps-grown : OnlyAdds s.heap g → Stays s.heap g → Keeps s (record s { heap = g; constants = cs; methods = me })
    keeps-grown adds stays = record {
      adds = λ J stands. record { fits = adds J.telling J.names stands.fits; begins = stands.begins; codes_told = stands.codes_told };
      stays = stays;
      names = omega arith;
    }
