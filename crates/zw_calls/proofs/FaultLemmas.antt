-- The messages of faults as they are written: each piece stands before all that follows it.
use Prim.Native.String.{String}
use Rattle.std.proofs.Common.{◌≡◌, ℕ, ◌++◌, false, codes, Some, ap, ◌∙◌, append_assoc}
use Rattle.std.specs.Fmt.{decimal}
use Rattle.zw_def.specs.Text.{Text}
use Rattle.zw_def_world.specs.Act.{Point, read, reading}
use Rattle.zw_def_world.specs.CoreClass.{ArgumentError, TypeError}
use Rattle.zw_def_world.specs.Fault.{wrong_kind, no_comparison, wrong_number, expected_text}
use Rattle.zw_def_world.specs.Inspect.{class_name}
use Rattle.zw_def_world.specs.Making.{fails}
use Rattle.zw_def_world.specs.Value.{Value}

append-four : (a b c d : Text) → a ++ b ++ c ++ d ≡ a ++ (b ++ (c ++ d))
append-four a b c d = append_assoc (a ++ b) c d ∙ append_assoc a b (c ++ d)

append-five : (a b c d e : Text) → a ++ b ++ c ++ d ++ e ≡ a ++ (b ++ (c ++ (d ++ e)))
append-five a b c d e = append_assoc (a ++ b ++ c) d e ∙ append-four a b c (d ++ e)

-- ---- kinds

abbrev pub kind_pieces : Text → Text → Text
kind_pieces class kind = codes "wrong argument type " ++ (class ++ (codes " (expected " ++ (kind ++ codes ")")))

pub wrong_kind-told : (v : Value) (kind : String) (class : Text) (p : Point) → class_name p.world v ≡ Some class → wrong_kind v kind p ≡ fails TypeError (kind_pieces class (codes kind)) p
wrong_kind-told v kind class p e =
    ap (λ o. read o (λ (c : Text). fails TypeError (codes "wrong argument type " ++ c ++ codes " (expected " ++ codes kind ++ codes ")")) p) e
    ∙ ap (λ m. fails TypeError m p) (append-five (codes "wrong argument type ") class (codes " (expected ") (codes kind) (codes ")"))

-- ---- comparisons

abbrev pub comparison_pieces : Text → Text → Text
comparison_pieces one other = codes "comparison of " ++ (one ++ (codes " with " ++ (other ++ codes " failed")))

pub no_comparison-told : (a b : Value) (one other : Text) (p : Point) → class_name p.world a ≡ Some one → class_name p.world b ≡ Some other → no_comparison a b p ≡ fails ArgumentError (comparison_pieces one other) p
no_comparison-told a b one other p e f =
    ap (λ o. read o (λ (c : Text). reading (λ w. class_name w b) (λ (d : Text). fails ArgumentError (codes "comparison of " ++ c ++ codes " with " ++ d ++ codes " failed"))) p) e
    ∙ ap (λ o. read o (λ (d : Text). fails ArgumentError (codes "comparison of " ++ one ++ codes " with " ++ d ++ codes " failed")) p) f
    ∙ ap (λ m. fails ArgumentError m p) (append-five (codes "comparison of ") one (codes " with ") other (codes " failed"))

-- ---- numbers of arguments

abbrev pub number_pieces : Text → Text → Text
number_pieces given expected = codes "wrong number of arguments (given " ++ (given ++ (codes ", expected " ++ (expected ++ codes ")")))

pub wrong_number-pieces : (given least most : ℕ) → wrong_number given least most false ≡ fails ArgumentError (number_pieces (decimal given) (expected_text least most false))
wrong_number-pieces given least most =
    ap (λ t. fails ArgumentError (codes "wrong number of arguments " ++ t)) (append-five (codes "(given ") (decimal given) (codes ", expected ") (expected_text least most false) (codes ")"))
