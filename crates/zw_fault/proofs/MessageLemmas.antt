-- Messages as they are written: each piece stands before all that follows it.
use Rattle.std.proofs.Common.{◌≡◌, ◌++◌, codes, ap, sym, ◌∙◌, append_assoc, Result, Ok, Err, IfOk, string_bytes, String, Global}
use Rattle.std.specs.declared.alloc.AllocError.{AllocError}
use Rattle.zw_def.specs.Text.{Text}
use Rattle.zw_def.specs.Path.{Path, path_text}
use Rattle.zw_def.specs.ConstantPath.{ConstantPath, constant_path_text}
use Rattle.zw_def.specs.Expected.{wrong_name_text}
use Rattle.zw_def_world.specs.Log.{not_defined_text}

append-four : (a b c d : Text) → a ++ b ++ c ++ d ≡ a ++ (b ++ (c ++ d))
append-four a b c d = append_assoc (a ++ b) c d ∙ append_assoc a b (c ++ d)

append-five : (a b c d e : Text) → a ++ b ++ c ++ d ++ e ≡ a ++ (b ++ (c ++ (d ++ e)))
append-five a b c d e = append_assoc (a ++ b ++ c) d e ∙ append-four a b c (d ++ e)

-- ---- a wrong name

abbrev pub wrong_name_pieces : Text → Text → Text
wrong_name_pieces name file = codes "wrong constant name " ++ (name ++ (codes " inferred from " ++ file))

pub wrong_name_text-pieces : (name : Text) (path : Path) → wrong_name_text (record { name = name; path = path }) ≡ wrong_name_pieces name (path_text path)
wrong_name_text-pieces name path = append-four (codes "wrong constant name ") name (codes " inferred from ") (path_text path)

pub wrong_name_told : (r : Result (String Global) AllocError) (name : Text) (path : Path) (file : Text) → file ≡ path_text path → IfOk r (λ text. string_bytes text ≡ wrong_name_pieces name file) → IfOk r (λ text. string_bytes text ≡ wrong_name_text (record { name = name; path = path }))
wrong_name_told (Ok text) name path file f told = told ∙ ap (wrong_name_pieces name) f ∙ sym (wrong_name_text-pieces name path)
wrong_name_told (Err e) name path file f told = told

-- ---- a file that does not define its constant

abbrev pub not_defined_pieces : Text → Text → Text
not_defined_pieces constant file =
    codes "expected file " ++ (file ++ (codes " to define constant " ++ (constant ++ codes ", but didn't")))

pub not_defined_text-pieces : (q : ConstantPath) (path : Path) → not_defined_text q path ≡ not_defined_pieces (constant_path_text q) (path_text path)
not_defined_text-pieces q path =
    append-five (codes "expected file ") (path_text path) (codes " to define constant ") (constant_path_text q) (codes ", but didn't")

pub not_defined_told : (r : Result (String Global) AllocError) (q : ConstantPath) (path : Path) (constant file : Text) → constant ≡ constant_path_text q → file ≡ path_text path → IfOk r (λ text. string_bytes text ≡ not_defined_pieces constant file) → IfOk r (λ text. string_bytes text ≡ not_defined_text q path)
not_defined_told (Ok text) q path constant file c f told =
    told ∙ ap (λ t. not_defined_pieces t file) c ∙ ap (not_defined_pieces (constant_path_text q)) f ∙ sym (not_defined_text-pieces q path)
not_defined_told (Err e) q path constant file c f told = told
