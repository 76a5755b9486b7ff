-- Places, when one more record is made.
use Rattle.std.proofs.Common.{◌≡◌, ℕ, ◌+◌, ◌<◌, ◌≤◌, ◌⊎◌, inl, inr, List, [], ◌∷◌, ◌++◌, length, slice_get, Some, ap, sym, ◌∙◌, subst, arith, map}
use Rattle.std.specs.Option.{option_map, option_map_or}
use Rattle.std.specs.List.{All}
use Rattle.std.proofs.Math.ListN.{set}
use Rattle.std.proofs.Math.Seq.{map-set_same}
use Rattle.std.proofs.lemmas.Bool.{cases_lt}
use Rattle.std.proofs.lemmas.List.{length-set, length-append, get_or-set_other}
use Rattle.std.proofs.lemmas.List.Elements.{All-set, All-weaker}
use Rattle.std.proofs.lemmas.Option.{slice_get_within, get_or_from_slice_get, slice_get-get_or, slice_get-map, slice_get_past}
use Rattle.zw_heap.specs.Place.{Place, Made, key_of, one_more, count_at}
use Rattle.zw_heap.specs.Sound.{Differ, IsCounted, AreMade}
use Rattle.zw_heap.proofs.ListLemmas.{All-at, All-pushed, Differ-pushed, slice_get-some, slice_get-set}
use Rattle.zw_lemmas.proofs.PlaceLemmas.{slice_get-front}

module _ (places : List Place) (here : ℕ) (p : Place) (at : slice_get places here ≡ Some p) where
  abbrev pub more : List Place
  more = set places here (one_more p)

  within : here < length places
  within = slice_get_within places here p at

  count_here : count_at places here ≡ p.count
  count_here = ap (λ o. option_map_or (λ (q : Place). q.count) o 0) at

  count_more : count_at more here ≡ p.count + 1
  count_more = ap (λ o. option_map_or (λ (q : Place). q.count) o 0) (slice_get-set places here (one_more p) within)

  slice_get-other : (n : ℕ) → (n ≡ here → ⊥) → slice_get more n ≡ slice_get places n
  slice_get-other n other = by (cases_lt n (length places))
    where
      same : length more ≡ length places
      same = length-set places here (one_more p)

      by : (n < length places) ⊎ (length places ≤ n) → slice_get more n ≡ slice_get places n
      by (inl lt) = slice_get-get_or more n p (omega (arith, lt, same)) ∙ ap Some (get_or-set_other places here n (one_more p) p other) ∙ sym (slice_get-get_or places n p lt)
      by (inr le) = slice_get_past more n (omega (arith, le, same)) ∙ sym (slice_get_past places n le)

  pub count_grows : (n : ℕ) → count_at places n ≤ count_at more n
  count_grows n = by (cases_lt n here) (cases_lt here n)
    where
      other : (n ≡ here → ⊥) → count_at places n ≤ count_at more n
      other ne = let e = ap (λ o. option_map_or (λ (q : Place). q.count) o 0) (slice_get-other n ne) in omega (arith, e)

      by : (n < here) ⊎ (here ≤ n) → (here < n) ⊎ (n ≤ here) → count_at places n ≤ count_at more n
      by (inl lt) h = other (λ e. omega (arith, e, lt))
      by (inr le) (inl lt) = other (λ e. omega (arith, e, lt))
      by (inr le) (inr ge) =
          let e : n ≡ here = omega (arith, le, ge) in
          subst (λ k. count_at places k ≤ count_at more k) (sym e) (omega (arith, count_here, count_more))

  pub counted_more : (xs : List Made) → All (IsCounted places) xs → All (IsCounted more) xs
  counted_more xs all = All-weaker (IsCounted places) (IsCounted more) (λ x lt. let le = count_grows x.place in omega (arith, lt, le)) xs all

  abbrev pub fresh : Made
  fresh = record { place = here; count = p.count }

  pub fresh_counted : IsCounted more fresh
  fresh_counted = omega (arith, count_more)

  pub fresh_differs : (xs : List Made) → All (IsCounted places) xs → (i : ℕ) → slice_get xs i ≡ Some fresh → ⊥
  fresh_differs xs all i e = let lt = All-at (IsCounted places) xs i fresh all e in omega (arith, lt, count_here)

  pub keys_more : map key_of more ≡ map key_of places
  keys_more = map-set_same key_of places here (one_more p) p (ap key_of (sym (get_or_from_slice_get places here p p at)))

  pub setups_more : (n : ℕ) → option_map (λ q. q.setup) (slice_get more n) ≡ option_map (λ q. q.setup) (slice_get places n)
  setups_more n = sym (slice_get-map (λ q. q.setup) more n) ∙ ap (λ ss. slice_get ss n) setups ∙ slice_get-map (λ q. q.setup) places n
    where
      setups : map (λ (q : Place). q.setup) more ≡ map (λ (q : Place). q.setup) places
      setups = map-set_same (λ (q : Place). q.setup) places here (one_more p) p (ap (λ (q : Place). q.setup) (sym (get_or_from_slice_get places here p p at)))

  pub key_more : (n : ℕ) → option_map key_of (slice_get more n) ≡ option_map key_of (slice_get places n)
  key_more n = sym (slice_get-map key_of more n) ∙ ap (λ ks. slice_get ks n) keys_more ∙ slice_get-map key_of places n

  module _ (ms os : List Made) (setups : ℕ) (a : AreMade ms os places here setups) where
    begun_more : All (λ (q : Place). q.setup ≤ setups) more
    begun_more = All-set (λ (q : Place). q.setup ≤ setups) places here (one_more p) (All-at (λ (q : Place). q.setup ≤ setups) places here p a.begun at) a.begun

    few_more : (n : ℕ) → n ≡ length ms + length os + 1 → All (λ (q : Place). q.count ≤ n) more
    few_more n e =
        All-set (λ (q : Place). q.count ≤ n) places here (one_more p)
        (let le = All-at (λ (q : Place). q.count ≤ length ms + length os) places here p a.few at in omega (arith, le, e))
        (All-weaker (λ (q : Place). q.count ≤ length ms + length os) (λ (q : Place). q.count ≤ n) (λ q le. omega (arith, le, e)) places a.few)

    pub AreMade-object : AreMade ms (os ++ fresh ∷ []) more here setups
    AreMade-object = record {
      modules_counted = counted_more ms a.modules_counted;
      objects_counted = All-pushed (IsCounted more) os fresh (counted_more os a.objects_counted) fresh_counted;
      modules_differ = a.modules_differ;
      objects_differ = Differ-pushed os fresh a.objects_differ (fresh_differs os a.objects_counted);
      places_differ = subst Differ (sym keys_more) a.places_differ;
      begun = begun_more;
      few = few_more (length ms + length (os ++ fresh ∷ [])) (let e = length-append os (fresh ∷ []) in omega (arith, e));
      setups_few = let e = length-set places here (one_more p) in let lt = a.setups_few in omega (arith, e, lt);
      here_now = setups_more here ∙ a.here_now;
      core = a.core;
      main = slice_get-front os (fresh ∷ []) 0 _ a.main;
      boot_place = key_more 0 ∙ a.boot_place;
    }

    pub AreMade-module : AreMade (ms ++ fresh ∷ []) os more here setups
    AreMade-module = record {
      modules_counted = All-pushed (IsCounted more) ms fresh (counted_more ms a.modules_counted) fresh_counted;
      objects_counted = counted_more os a.objects_counted;
      modules_differ = Differ-pushed ms fresh a.modules_differ (fresh_differs ms a.modules_counted);
      objects_differ = a.objects_differ;
      places_differ = subst Differ (sym keys_more) a.places_differ;
      begun = begun_more;
      few = few_more (length (ms ++ fresh ∷ []) + length os) (let e = length-append ms (fresh ∷ []) in omega (arith, e));
      setups_few = let e = length-set places here (one_more p) in let lt = a.setups_few in omega (arith, e, lt);
      here_now = setups_more here ∙ a.here_now;
      core = λ n lt. slice_get-front ms (fresh ∷ []) n _ (a.core n lt);
      main = a.main;
      boot_place = key_more 0 ∙ a.boot_place;
    }

-- records are made at a place that is there
pub here_within : (ms os : List Made) (places : List Place) (here setups : ℕ) → AreMade ms os places here setups → here < length places
here_within ms os places here setups a =
    let some = slice_get-some (λ (p : Place). p.setup) (slice_get places here) setups a.here_now in
    slice_get_within places here some.0 some.1
