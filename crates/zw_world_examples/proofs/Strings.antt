-- Methods of String and Symbol.
use Rattle.std.specs.Prelude.{[], ◌∷◌}
use mathlib.Core.Path.{refl}
use Rattle.zw_world_examples.specs.Rows.{Writes, plain_words, one_root}
use Rattle.zw_world_examples.proofs.Computing.{reading}

pub strings : Writes plain_words one_root
    []
    ("run [\"a\" + \"b\", \"ab\" * 2, \"b\" < \"a\", \"a\" <= \"a\", \"b\" > \"a\", \"a\" >= \"b\"]" ∷
    "run [\"a\" <=> \"b\", \"b\" <=> \"a\", \"a\" <=> \"a\", \"a\" <=> 1]" ∷
    "run [\"héé\".size, \"hé\".length, \"hé\".bytesize, \"\".empty?, \" \".empty?]" ∷
    "run [\"aB\".upcase, \"aB\".downcase, \"aB c\".capitalize, \"héé\".reverse]" ∷
    "run [\"abc\".include?(\"bc\"), \"abc\".start_with?(\"b\"), \"abc\".end_with?(\"bc\"), \"abc\".include?(\"\")]" ∷
    [])
    ("= [\"ab\", \"abab\", false, true, true, false]" ∷ "= [-1, 1, 0, nil]" ∷ "= [3, 2, 3, true, false]" ∷
    "= [\"AB\", \"ab\", \"Ab c\", \"ééh\"]" ∷ "= [true, false, true, true]" ∷ [])
unfolding reading
strings = refl

pub parts_of_strings : Writes plain_words one_root
    []
    ("run [\"abc\"[1], \"abc\"[-1], \"abc\"[3], \"abc\"[-4], \"abc\"[1, 5], \"abc\"[3, 1], \"abc\"[4, 1], \"abc\"[0, -1]]" ∷
    "run [\"12x\".to_i, \"-12\".to_i, \"x\".to_i, \"-\".to_i, \"+1\".to_i, \"1_0\".to_i, \" 1\".to_i]" ∷
    "run [\" \\ta\\n \".strip, \"a,b,,\".split(\",\"), \",a\".split(\",\"), \"aXbX\".split(\"X\"), \"abc\".chars]" ∷
    "run [\"a\".ljust(3), \"a\".rjust(3), \"abc\".ljust(2), \"a\".ljust(-1)]" ∷
    "run [\"abcab\".delete_prefix(\"ab\"), \"abcab\".delete_suffix(\"ab\"), \"abc\".delete_prefix(\"x\")]" ∷
    "run [:a.to_sym, :ab.size, :a <=> :b, :b <=> :a, :a <=> \"b\", \"a\".to_sym == :a]" ∷ [])
    ("= [\"b\", \"c\", nil, nil, \"bc\", \"\", nil, nil]" ∷ "= [12, -12, 0, 0, 0, 1, 0]" ∷
    "= [\"a\", [\"a\", \"b\"], [\"\", \"a\"], [\"a\", \"b\"], [\"a\", \"b\", \"c\"]]" ∷
    "= [\"a  \", \"  a\", \"abc\", \"a\"]" ∷ "= [\"cab\", \"abc\", \"abc\"]" ∷ "= [:a, 2, -1, 1, nil, true]" ∷
    [])
unfolding reading
parts_of_strings = refl

pub what_strings_refuse : Writes plain_words one_root
    []
    ("run \"a\".split(\"\")" ∷ "run \"a\" * -1" ∷ "run \"9223372036854775808\".to_i" ∷ "run \"a\" + 1" ∷
    "run \"a\" < 1" ∷ "run \"a\"[\"b\"]" ∷ "run \"a\"[]" ∷ [])
    ("! ArgumentError: empty separator" ∷ "! ArgumentError: argument must be non-negative" ∷
    "! RangeError: integer out of range" ∷ "! TypeError: wrong argument type Integer (expected String)" ∷
    "! ArgumentError: comparison of String with Integer failed" ∷
    "! TypeError: wrong argument type String (expected Integer)" ∷
    "! SyntaxError: line 1: malformed or nested too deep" ∷ [])
unfolding reading
what_strings_refuse = refl
