-- Tables by the numbers of names, told as tables by names.
use Rattle.std.specs.Prelude.{ℕ, List, map}
use Rattle.zw_def.specs.Text.{Text}
use Rattle.zw_def_world.specs.Table.{Table}

-- the table with each name and each element told
abbrev pub told_table : {A B : Type 0} → (ℕ → Text) → (A → B) → List (ℕ × A) → Table B
told_table name told es = map (λ e. (name e.0, told e.1)) es
