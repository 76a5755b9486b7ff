use Rattle.std.proofs.Common.{◌≡◌, ℕ, ◌<◌, List, [], ◌∷◌, length, Some, None, refl, ap, sym, ◌∙◌, arith}
use Rattle.std.proofs.lemmas.Option.{slice_get-get_or, slice_get_past}
use Rattle.zw_def_world.specs.Primitive.{Primitive, primitives, primitive_at}
use Rattle.zw_heap.proofs.prim.PrimId.at.Goals as goal

there : (ps : List Primitive) (n : ℕ) → ps ≡ primitives → n < 116 → primitive_at n ≡ None → ⊥
there [] n same lt e = let z : 0 ≡ 116 = ap (λ (qs : List Primitive). length qs) same in absurd (omega (arith, z))
there (p ∷ ps) n same lt e = let z : Some _ ≡ None = sym (slice_get-get_or primitives n p lt) ∙ e in absurd (cc)

pub returns-then-number-lt-COUNT-clause-none : goal.returns-then-number-lt-COUNT-clause-none
returns-then-number-lt-COUNT-clause-none c = (λ e. absurd (cc), λ e. absurd (there primitives c.args.number refl c.if-number-lt-COUNT.true e))

pub returns-clause-none : goal.returns-clause-none
returns-clause-none c = (λ e. slice_get_past primitives c.args.number c.if-number-lt-COUNT.false, λ e. refl)
