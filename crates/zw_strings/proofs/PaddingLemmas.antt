-- Texts that are repeated, and how many spaces a text wants.
use Rattle.std.proofs.Common.{◌≡◌, ◌*◌, ◌<◌, ◌≤◌, ℕ, zero, suc, ℤ, pos, negsuc, ◌<ℤ◌, true, [], ◌∷◌, ◌/◌, length, codes, cond, nat_lt, refl, ap, ◌∙◌, arith, div-lt_iff_lt-mul}
use Rattle.std.proofs.lemmas.Bool.{le-ltb, lt-ltb}
use Rattle.std.proofs.lemmas.Int.{ints}
use Rattle.zw_def.specs.Text.{Text}
use Rattle.zw_def_world.specs.CoreClass.{ArgumentError}
use Rattle.zw_def_world.specs.Act.{Act}
use Rattle.zw_def_world.specs.Making.{fails, makes_text, max_text, too_long}
use Rattle.zw_def_world.specs.StringRows.{repeated, times, unless_too_long}

pub repeated-empty : (n : ℕ) → repeated n [] ≡ []
repeated-empty zero = refl
repeated-empty (suc n) = repeated-empty n

pub times-negative : (z : ℤ) (t : Text) → z <ℤ pos 0 → times z t ≡ fails ArgumentError (codes "argument must be non-negative")
times-negative (pos n) t low = absurd (omega (arith, ints, low))
times-negative (negsuc n) t low = refl

pub times-long : (z : ℤ) (n : ℕ) (t : Text) → z ≡ pos n → max_text < n * length t → times z t ≡ too_long
times-long z n t is long = ap (λ y. times y t) is ∙ ap (λ b. cond b too_long (makes_text (repeated n t))) (lt-ltb max_text (n * length t) long)

pub times-made : (z : ℤ) (n : ℕ) (t : Text) → z ≡ pos n → n * length t ≤ max_text → times z t ≡ makes_text (repeated n t)
times-made z n t is few = ap (λ y. times y t) is ∙ ap (λ b. cond b too_long (makes_text (repeated n t))) (le-ltb max_text (n * length t) few)

pub unless-long : (n : ℕ) (act : Act) → nat_lt max_text n ≡ true → unless_too_long n act ≡ too_long
unless-long n act long = ap (λ b. cond b too_long act) long

pub times-nothing : (z : ℤ) (n : ℕ) (t : Text) → z ≡ pos n → length t ≡ 0 → times z t ≡ makes_text []
times-nothing z n [] is empty = times-made z n [] is (omega arith) ∙ ap makes_text (repeated-empty n)
times-nothing z n (b ∷ bs) is empty = absurd (omega (arith, empty))

pub times-over : (most size n : ℕ) → 0 < size → most / size < n → most < n * size
times-over most size n some over = (div-lt_iff_lt-mul some).0 over
