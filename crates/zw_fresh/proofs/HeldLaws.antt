-- Where the modules that tables hold are there, no record is missing at a setup.
use Rattle.std.specs.Prelude.{◌≡◌, Bool, true, false, List, [], ◌∷◌, Option, Some, None, if◌then◌else◌}
use Rattle.std.specs.Option.{option_map}
use Rattle.std.proofs.Common.{refl, sym, ◌∙◌, subst}
use Rattle.zw_def.specs.Text.{Text}
use Rattle.zw_def.specs.Tree.{Tree}
use Rattle.zw_def.specs.ConstantPath.{ConstantPath}
use Rattle.zw_def.specs.Nesting.{same_names, child}
use Rattle.zw_def.specs.Map.{Standing, undefined}
use Rattle.zw_def_world.specs.Missing.{bind}
use Rattle.zw_def_world.specs.Id.{Id}
use Rattle.zw_def_world.specs.CoreClass.{Object_class}
use Rattle.zw_def_world.specs.Value.{Value, as_module}
use Rattle.zw_def_world.specs.Table.{Table, at}
use Rattle.zw_def_world.specs.Record.{Module}
use Rattle.zw_def_world.specs.World.{World}
use Rattle.zw_def_world.specs.BootTable.{Constant, absent, named_module, other_value, if_named, constant_from, constant_of, from_module, standing_as, standing_from, standing_of}
use Rattle.zw_def_world.specs.Setup.{is_told, paths_in}
use Rattle.zw_fresh.specs.Alike.{IsThere}

-- each module that the table holds is there
abbrev pub HoldsThere : (Id → Option Module) → Table Value → Type 0
HoldsThere modules table = (n : Text) (v : Value) (j : Id) → at n table ≡ Some v → as_module v ≡ Some j → IsThere (modules j)

-- Object is there, and so is each module that a constant holds
pub record TablesHold (w : World) : Type 0 where
  pub object : IsThere (w.modules Object_class)
  pub constants : (i : Id) (m : Module) → w.modules i ≡ Some m → HoldsThere w.modules m.constants

-- boot's tables have the records that a setup over the tree reads
abbrev pub TablesTold : World → Tree → Type 0
TablesTold image tree = (told : Bool) × (is_told image (paths_in image.setting.layout tree) ≡ Some told)

-- a constant is told, and where it is a module of that very name, that is there
abbrev IsSound : World → Option Constant → Type 0
IsSound w None = ⊥
IsSound w (Some absent) = Unit {0}
IsSound w (Some (named_module j)) = IsThere (w.modules j)
IsSound w (Some other_value) = Unit {0}

module _ (w : World) (W : TablesHold w) where
  named_sound : (p : ConstantPath) (j : Id) (o : Option Module) → w.modules j ≡ o → IsThere o
      → IsSound w (option_map (λ m. if same_names m.path p then named_module j else other_value) o)
  named_sound p j None e h = absurd h
  named_sound p j (Some m) e h = at (same_names m.path p)
    where
      at : (b : Bool) → IsSound w (Some (if b then named_module j else other_value))
      at true = subst IsThere (sym e) h
      at false = tt

  from_sound : (p : ConstantPath) (v : Value) (o : Option Id) → as_module v ≡ o
      → ((j : Id) → as_module v ≡ Some j → IsThere (w.modules j)) → IsSound w (if_named w p o)
  from_sound p v None e h = tt
  from_sound p v (Some j) e h = named_sound p j (w.modules j) refl (h j e)

  held_sound : (p : ConstantPath) (o : Option Value) → ((v : Value) (j : Id) → o ≡ Some v → as_module v ≡ Some j → IsThere (w.modules j))
      → IsSound w (constant_from w p o)
  held_sound p None h = tt
  held_sound p (Some v) h = from_sound p v (as_module v) refl (λ j e. h v j refl e)

  constant_sound : (i : Id) (n : Text) → IsThere (w.modules i) → IsSound w (constant_of w i n)
  constant_sound i n there = by (w.modules i) refl there
    where
      by : (o : Option Module) → w.modules i ≡ o → IsThere o
          → IsSound w (bind o (λ m. constant_from w (child m.path n) (at n m.constants)))
      by None e h = absurd h
      by (Some m) e h = held_sound (child m.path n) (at n m.constants) (λ v j f g. W.constants i m e n v j f g)

  standing_there : (p : ConstantPath) (i : Id) → IsThere (w.modules i) → IsThere (standing_from w p i)
  standing_there [] i h = tt
  standing_there (n ∷ []) i h = by (constant_of w i n) (constant_sound i n h)
    where
      by : (o : Option Constant) → IsSound w o → IsThere (option_map standing_as o)
      by None h = absurd h
      by (Some c) h = tt
  standing_there (n ∷ o ∷ p) i h = by (standing_there (o ∷ p)) (constant_of w i n) (constant_sound i n h)
    where
      by : ((j : Id) → IsThere (w.modules j) → IsThere (standing_from w (o ∷ p) j)) → (c : Option Constant) → IsSound w c
          → IsThere (bind c (from_module undefined (standing_from w (o ∷ p))))
      by later None h = absurd h
      by later (Some absent) h = tt
      by later (Some (named_module j)) h = later j h
      by later (Some other_value) h = tt

  none_missing : (ps : List ConstantPath) → is_told w ps ≡ Some false
  none_missing [] = refl
  none_missing (p ∷ ps) = by (standing_of w p) (standing_there p Object_class W.object) ∙ none_missing ps
    where
      by : (o : Option Standing) → IsThere o
          → bind (option_map (λ standing. false) o) (λ found. if found then Some true else is_told w ps) ≡ is_told w ps
      by None h = absurd h
      by (Some s) h = refl

  pub tables_told : (tree : Tree) → TablesTold w tree
  tables_told tree = (false, none_missing (paths_in w.setting.layout tree))
