-- What a world says of values where it agrees with a heap.
use Rattle.std.proofs.Common.{◌≡◌, Bool, true, false, ◌&&◌, ◌==◌, ℕ, List, [], ◌∷◌, length, map, cond, nat_le, slice_get, Option, Some, None, Decides, refl, sym, ap, ◌∙◌, arith}
use Rattle.std.specs.Option.{option_map}
use Rattle.std.specs.Cmp.Lexicographic.{pointwise_decides}
use Rattle.std.proofs.lemmas.Bool.{eqb-true, eq-eqb, lt-leb}
use Rattle.std.proofs.lemmas.Bool.Decides.{same_from_decides}
use Rattle.std.proofs.lemmas.Slice.Eq.{bytes_eq-Decides}
use Rattle.std.proofs.Math.Bool.{and-false}
use Rattle.zw_def.specs.Text.{Text}
use Rattle.zw_def.specs.ConstantPath.{ConstantPath}
use Rattle.zw_def_world.specs.Act.{Act, End, Point, gave, lost, ends, gives, read, reading, in_object}
use Rattle.zw_def_world.specs.Ancestor.{class_of, makes_exceptions}
use Rattle.zw_def_world.specs.Argument.{takes, modules}
use Rattle.zw_def_world.specs.Fault.{wrong_number}
use Rattle.zw_def_world.specs.Id.{Id, id_eq, same_load}
use Rattle.zw_def_world.specs.Inspect.{built_in, message_of, object_built_in, object_text}
use Rattle.zw_def_world.specs.Making.{makes_text}
use Rattle.zw_def_world.specs.Missing.{bind}
use Rattle.zw_def_world.specs.Site.{first, kinds_tested, on_module, tested, yes_or_no}
use Rattle.zw_def_world.specs.Value as told
use Rattle.zw_def_world.specs.Value.{as_module}
use Rattle.zw_def_world.specs.World.{World, is_frozen}
use Rattle.zw_heap.specs.Heap.{Held, is_frozen_in}
use Rattle.zw_heap.specs.ModuleRecord.{Module}
use Rattle.zw_heap.specs.ObjectRecord.{Object}
use Rattle.zw_heap.specs.Telling.{Telling, Fits, Agrees, tell, told_object}
use Rattle.zw_heap.specs.declared.value.ModuleId.{ModuleId}
use Rattle.zw_heap.specs.declared.value.Value.{Value}
use Rattle.zw_heap.specs.declared.value.Value.TheVariants as v
use Rattle.zw_prims.specs.Passes.{Pass}

-- ---- the names of records

both : (a b : Bool) → (a && b) ≡ true → (a ≡ true) × (b ≡ true)
both true b e = (refl, e)
both false b e = absurd (cc)

same_load-Decides : (a b : Option ConstantPath) → Decides (same_load a b) (a ≡ b)
same_load-Decides None None = (λ e. refl, λ e. refl)
same_load-Decides None (Some q) = (λ e. absurd (cc), λ e. absurd (cc))
same_load-Decides (Some p) None = (λ e. absurd (cc), λ e. absurd (cc))
same_load-Decides (Some p) (Some q) =
    let names = pointwise_decides bytes_eq-Decides p q in
    (λ e. ap Some (names.0 e), λ e. names.1 (cc e))

id_eq-Decides : (i j : Id) → Decides (id_eq i j) (i ≡ j)
id_eq-Decides i j = (there, λ e. ap (id_eq i) (sym e) ∙ self i)
  where
    there : id_eq i j ≡ true → i ≡ j
    there e =
        let outer = both (i.count == j.count && i.setup == j.setup) (same_load i.load j.load) e in
        let inner = both (i.count == j.count) (i.setup == j.setup) outer.0 in
        let count = eqb-true i.count j.count inner.0 in
        let setup = eqb-true i.setup j.setup inner.1 in
        let load = (same_load-Decides i.load j.load).0 outer.1 in
        λ k. record { setup = setup k; load = load k; count = count k }

    self : (i : Id) → id_eq i i ≡ true
    self i = λ k. eq-eqb i.count i.count refl k && eq-eqb i.setup i.setup refl k && (same_load-Decides i.load i.load).1 refl k

-- names that differ for numbers that do
pub ids-same : (ids : ℕ → Id) → ((m n : ℕ) → ids m ≡ ids n → m ≡ n) → (m n : ℕ) → id_eq (ids m) (ids n) ≡ (m == n)
ids-same ids apart m n =
    same_from_decides (id_eq (ids m) (ids n)) (m == n) (id_eq-Decides (ids m) (ids n))
    (λ e. ap ids (eqb-true m n e), λ e. eq-eqb m n (apart m n e))

-- ---- what records say

pub mapped : {A B : Type 0} (f : A → B) (o : Option A) (y : B) → option_map f o ≡ Some y → (x : A) × (o ≡ Some x) × (f x ≡ y)
mapped f None y e = absurd (cc)
mapped f (Some x) y e = (x, refl, cc)

pub frozen-told : (I : Telling) (h : Held) (w : World) (x : Value) (b : Bool) → Agrees I h w → is_frozen_in h x ≡ Some b → is_frozen w (tell I x) ≡ Some b
frozen-told I h w (v.Object o) b agrees e =
    let at = mapped (λ (r : Object). r.is_frozen) (slice_get h.objects o.0) b e in
    ap (option_map (λ r. r.is_frozen)) (agrees.objects o.0 at.0 at.1) ∙ ap Some at.2
frozen-told I h w (v.Module m) b agrees e =
    let at = mapped (λ (r : Module). r.is_frozen) (slice_get h.modules m.0) b e in
    let known = agrees.modules m.0 at.0 at.1 in
    ap (option_map (λ r. r.is_frozen)) known.1 ∙ ap Some (known.2.is_frozen ∙ at.2)
frozen-told I h w v.Nil b agrees e = e
frozen-told I h w v.True b agrees e = e
frozen-told I h w v.False b agrees e = e
frozen-told I h w (v.Int z) b agrees e = e
frozen-told I h w (v.Text t) b agrees e = e
frozen-told I h w (v.Sym n) b agrees e = e
frozen-told I h w (v.Array a) b agrees e = e

-- ---- instances

pub instance-told : (I : Telling) (w : World) (x : told.Value) (of : ℕ) (class : Value) (m : ModuleId) (id : Id) → class_of w x ≡ Some (I.module_id of) → class ≡ v.Module m → as_module (tell I class) ≡ Some id → option_map (λ i. id_eq i id) (class_of w x) ≡ Some (of == m.0)
instance-told I w x of class m id known is at =
    let same : Some (I.module_id m.0) ≡ Some id = sym (ap (λ c. as_module (tell I c)) is) ∙ at in
    let its : I.module_id m.0 ≡ id = cc same in
    ap (option_map (λ i. id_eq i id)) known ∙ ap (λ j. Some (id_eq (I.module_id of) j)) (sym its) ∙ ap Some (ids-same I.module_id I.modules_differ of m.0)

pub instance-of : (h : Held) (I : Telling) (p : Point) (x : told.Value) (vs : List told.Value) (b : Bool) (id : Id) → as_module (first vs) ≡ Some id → option_map (λ i. id_eq i id) (class_of p.world x) ≡ Some b → on_module (first vs) (λ i. reading (λ w. class_of w x) (λ class. yes_or_no (id_eq class i))) p ≡ yes_or_no b p
instance-of h I p x vs b id is at =
    let class = mapped (λ i. id_eq i id) (class_of p.world x) b at in
    ap (λ o. read o (λ i. reading (λ w. class_of w x) (λ c. yes_or_no (id_eq c i))) p) is
    ∙ ap (λ o. read o (λ c. yes_or_no (id_eq c id)) p) class.1 ∙ ap (λ a. yes_or_no a p) class.2

-- the argument of a method that takes a class or module is one
module _ (h : Held) (names : List Text) (x : Value) (I : Telling) (p : Point) (fit : Fits I names h) (agrees : Agrees I h p.world) where
  never : gives told.nil p ≡ ends lost p → ⊥
  never e = let z : gave told.nil ≡ lost = ap (λ (end : End). end.flow) e in absurd (cc)

  abbrev after : List Value → Act → End
  after ys act = tested (takes (modules ∷ [])) (tell I x) (map (tell I) ys) act p

  too_many : (y z : Value) (ys : List Value) (act : Act) → after (y ∷ z ∷ ys) act ≡ wrong_number (length (map (tell I) (y ∷ z ∷ ys))) 1 1 false p
  too_many y z ys act =
      let vs = map (tell I) (y ∷ z ∷ ys) in
      let n = length vs in
      let tests = kinds_tested false (tell I x) None (modules ∷ []) vs act in
      ap (λ b. cond (nat_le 1 n && b) tests (wrong_number n 1 1 false) p) (lt-leb n 1 (omega arith))
      ∙ ap (λ b. cond b tests (wrong_number n 1 1 false) p) (and-false (nat_le 1 n))

  pub module_first : (xs : List Value) → Pass h names (takes (modules ∷ [])) x xs → (id : Id) × (as_module (first (map (tell I) xs)) ≡ Some id)
  module_first xs pass = by xs (sym (pass (gives told.nil) I p fit agrees)) (pass (ends lost) I p fit agrees)
    where
      by : (ys : List Value) → gives told.nil p ≡ after ys (gives told.nil) → after ys (ends lost) ≡ ends lost p → (id : Id) × (as_module (first (map (tell I) ys)) ≡ Some id)
      by [] a b = absurd (never (a ∙ b))
      by (v.Module m ∷ []) a b = (I.module_id m.0, refl)
      by (v.Nil ∷ []) a b = absurd (never (a ∙ b))
      by (v.True ∷ []) a b = absurd (never (a ∙ b))
      by (v.False ∷ []) a b = absurd (never (a ∙ b))
      by (v.Int z ∷ []) a b = absurd (never (a ∙ b))
      by (v.Text t ∷ []) a b = absurd (never (a ∙ b))
      by (v.Sym n ∷ []) a b = absurd (never (a ∙ b))
      by (v.Array r ∷ []) a b = absurd (never (a ∙ b))
      by (v.Object o ∷ []) a b = absurd (never (a ∙ b))
      by (y ∷ z ∷ ys) a b = absurd (never (a ∙ too_many y z ys (gives told.nil) ∙ sym (too_many y z ys (ends lost)) ∙ b))

-- ---- exceptions

-- the built-in text of an exception is its message
pub message-told : (I : Telling) (h : Held) (p : Point) (n : ℕ) (o : Object) → Agrees I h p.world → slice_get h.objects n ≡ Some o → makes_exceptions p.world (I.module_id o.class.0) ≡ Some true → in_object (I.object_id n) (λ r. reading (λ w. message_of w r) makes_text) p ≡ reading (λ w. built_in w (told.object_at (I.object_id n))) makes_text p
message-told I h p n o agrees at excepts =
    let there = agrees.objects n o at in
    let r = told_object I o in
    ap (λ a. read a (λ k. reading (λ w. message_of w k) makes_text) p) there
    ∙ sym (ap (λ a. read (bind a (object_built_in p.world (I.object_id n))) makes_text p) there
    ∙ ap (λ a. read (bind a (λ b. cond b (message_of p.world r) (object_text p.world (I.object_id n) r))) makes_text p) excepts)
