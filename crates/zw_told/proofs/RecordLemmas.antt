-- Records by names hold and change what the records by numbers do that they tell.
use Rattle.std.proofs.Common.{◌≡◌, Bool, true, false, ℕ, zero, suc, ◌<◌, Option, Some, None, cond, nat_eq, refl, ap, sym, ◌∙◌, arith}
use Rattle.std.specs.Option.{option_map}
use Rattle.std.proofs.lemmas.Bool.{eqb-true, eq-eqb}
use Rattle.zw_def_world.specs.Id.{Id, id_eq, held_at, with_record, changed_at, each_changed}
use Rattle.zw_def_world.specs.Missing.{bind}
use Rattle.zw_told.specs.Record.{number_of, records_by}
use Rattle.zw_told.proofs.NameLemmas.{id_eq-same, id_eq-self, ids_told}

earlier_than : (n count : ℕ) → n < suc count → nat_eq n count ≡ false → n < count
earlier_than n count lt apart = by (λ same. let y : true ≡ false = sym (eq-eqb n count same) ∙ apart in absurd (cc))
  where
    by : (n ≡ count → ⊥) → n < count
    by differs = omega (arith, lt, differs)

same_found : (m n : ℕ) → Some m ≡ Some n → m ≡ n
same_found m n is = cc

module _ (ids : ℕ → Id) (differ : (m n : ℕ) → ids m ≡ ids n → m ≡ n) where
  pub number_of-told : (count n : ℕ) → n < count → number_of ids count (ids n) ≡ Some n
  number_of-told zero n lt = absurd (omega (arith, lt))
  number_of-told (suc count) n lt =
      ap (λ b. cond b (Some count) (number_of ids count (ids n))) (ids_told ids differ n count)
      ∙ by (nat_eq n count) refl (λ apart. number_of-told count n (earlier_than n count lt apart))
    where
      by : (b : Bool) → nat_eq n count ≡ b → (nat_eq n count ≡ false → number_of ids count (ids n) ≡ Some n) → cond b (Some count) (number_of ids count (ids n)) ≡ Some n
      by true is later = ap Some (sym (eqb-true n count is))
      by false is later = later is

  pub number_of-name : (count n : ℕ) (i : Id) → number_of ids count i ≡ Some n → (ids n ≡ i) × (n < count)
  number_of-name zero n i is = absurd (cc)
  number_of-name (suc count) n i is = by (id_eq i (ids count)) refl is (λ found. number_of-name count n i found)
    where
      by : (b : Bool) → id_eq i (ids count) ≡ b → cond b (Some count) (number_of ids count i) ≡ Some n → (number_of ids count i ≡ Some n → (ids n ≡ i) × (n < count)) → (ids n ≡ i) × (n < suc count)
      by true same found earlier =
          let at = same_found count n found in
          (ap ids (sym at) ∙ sym (id_eq-same i (ids count) same), omega (arith, at))
      by false apart found earlier = let before = earlier found in (before.0, omega (arith, before.1))

  module _ {A : Type 0} where
    -- the record of a name is that of its number
    pub record-told : (count n : ℕ) (f : ℕ → Option A) → n < count → records_by ids count f (ids n) ≡ f n
    record-told count n f lt = ap (λ o. bind o f) (number_of-told count n lt)

    -- one record is another, and the others are the same
    module _ (count n : ℕ) (f g : ℕ → Option A) (lt : n < count) (held : Option A) (here : g n ≡ held) (apart : (m : ℕ) → nat_eq m n ≡ false → g m ≡ f m) where
      found_apart : (i : Id) (o : Option ℕ) → number_of ids count i ≡ o → id_eq i (ids n) ≡ false → bind o g ≡ bind o f
      found_apart i None is differs = refl
      found_apart i (Some m) is differs = apart m (by (nat_eq m n) refl)
        where
          by : (b : Bool) → nat_eq m n ≡ b → nat_eq m n ≡ false
          by true same = let y : true ≡ false = sym (id_eq-self i) ∙ ap (id_eq i) (sym (number_of-name count m i is).0 ∙ ap ids (eqb-true m n same)) ∙ differs in absurd (cc)
          by false same = same

      held_at-told : (i : Id) → records_by ids count g i ≡ held_at (ids n) held (records_by ids count f) i
      held_at-told i = by (id_eq i (ids n)) refl
        where
          by : (b : Bool) → id_eq i (ids n) ≡ b → records_by ids count g i ≡ cond b held (records_by ids count f i)
          by true same = ap (records_by ids count g) (id_eq-same i (ids n) same) ∙ record-told count n g lt ∙ here
          by false differs = found_apart i (number_of ids count i) refl differs

      pub held-told : records_by ids count g ≡ held_at (ids n) held (records_by ids count f)
      held-told = λ k i. held_at-told i k

    -- a record is changed
    pub changed-told : (count n : ℕ) (f g : ℕ → Option A) (h : A → A) → n < count → g n ≡ option_map h (f n) → ((m : ℕ) → nat_eq m n ≡ false → g m ≡ f m) → records_by ids count g ≡ changed_at (ids n) h (records_by ids count f)
    changed-told count n f g h lt here apart =
        held-told count n f g lt (option_map h (f n)) here apart
        ∙ ap (λ o. held_at (ids n) (option_map h o) (records_by ids count f)) (sym (record-told count n f lt))

    -- each record is changed
    pub each-told : (count : ℕ) (f : ℕ → Option A) (h : A → A) → records_by ids count (λ n. option_map h (f n)) ≡ each_changed h (records_by ids count f)
    each-told count f h = λ k i. at (number_of ids count i) k
      where
        at : (o : Option ℕ) → bind o (λ n. option_map h (f n)) ≡ option_map h (bind o f)
        at None = refl
        at (Some n) = refl

    -- one more record is made
    pub made-told : (count : ℕ) (f g : ℕ → Option A) (x : A) → g count ≡ Some x → ((m : ℕ) → m < count → g m ≡ f m) → records_by ids (suc count) g ≡ with_record (ids count) x (records_by ids count f)
    made-told count f g x here before = λ k i. at i k
      where
        earlier : (i : Id) (o : Option ℕ) → number_of ids count i ≡ o → bind o g ≡ bind o f
        earlier i None is = refl
        earlier i (Some m) is = before m (number_of-name count m i is).1

        by : (i : Id) (b : Bool) → bind (cond b (Some count) (number_of ids count i)) g ≡ cond b (Some x) (records_by ids count f i)
        by i true = here
        by i false = earlier i (number_of ids count i) refl

        at : (i : Id) → records_by ids (suc count) g i ≡ with_record (ids count) x (records_by ids count f) i
        at i = by i (id_eq i (ids count))
