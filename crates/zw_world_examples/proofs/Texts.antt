-- Texts of values.
use Rattle.std.specs.Prelude.{[], ◌∷◌}
use mathlib.Core.Path.{refl}
use Rattle.zw_world_examples.specs.Rows.{Writes, plain_words, one_root}
use Rattle.zw_world_examples.proofs.Computing.{reading}

pub symbols_are_bare_where_they_are_one_token : Writes plain_words one_root
    []
    ("run [\"a\".to_sym, \"a=\".to_sym, \"a?\".to_sym, \"if\".to_sym, \"A\".to_sym]" ∷
    "run [\"a b\".to_sym, \"a \".to_sym, \"a#b\".to_sym, \"\".to_sym, \"1\".to_sym, \"A?\".to_sym]" ∷ [])
    ("= [:a, :a=, :a?, :if, :A]" ∷ "= [:\"a b\", :\"a \", :\"a#b\", :\"\", :\"1\", :\"A?\"]" ∷ [])
unfolding reading
symbols_are_bare_where_they_are_one_token = refl

pub control_characters_and_quotes_are_written_out : Writes plain_words one_root
    []
    ("run \"\\u{1}\\u{7f}\\n\\t\\r\"" ∷ "run '#{' + '#$' + '#@' + '#a'" ∷ "run raise \"a\\\\b\\nc\\u{1}\"" ∷
    "run [\"a\\nb\", :a, nil, true, -5]" ∷ [])
    ("= \"\\u{1}\\u{7f}\\n\\t\\r\"" ∷ "= \"\\#{\\#$\\#@#a\"" ∷ "! RuntimeError: a\\\\b\\nc\\u{1}" ∷
    "= [\"a\\nb\", :a, nil, true, -5]" ∷ [])
unfolding reading
control_characters_and_quotes_are_written_out = refl

pub objects_and_exceptions_are_told_by_their_classes : Writes plain_words one_root
    []
    ("run [Object.new, self, StandardError.new(\"x\"), StandardError.new(\"\"), StandardError.new]" ∷
    "run Zeitwerk::NameError" ∷ "run [[], [1, [2]]]" ∷ [])
    ("= [#<Object>, main, #<StandardError: x>, StandardError, #<StandardError: StandardError>]" ∷
    "= Zeitwerk::NameError" ∷ "= [[], [1, [2]]]" ∷ [])
unfolding reading
objects_and_exceptions_are_told_by_their_classes = refl

pub puts_splits_its_texts_into_lines : Writes plain_words one_root
    []
    ("run puts \"a\\nb\\n\", nil, [1, \"x\"], :s" ∷ "run puts" ∷ "run puts \"a\\n\\n\"" ∷ "run puts \"\"" ∷ [])
    ("> a" ∷ "> b" ∷ "> " ∷ "> [1, \"x\"]" ∷ "> s" ∷ "= nil" ∷ "> " ∷ "= nil" ∷ "> a" ∷ "> " ∷ "= nil" ∷ "> " ∷
    "= nil" ∷ [])
unfolding reading
puts_splits_its_texts_into_lines = refl

pub to_s_is_called_on_objects_and_modules : Writes plain_words one_root
    []
    ("run class P; def to_s; \"p\"; end; end" ∷ "run class Q; private; def to_s; \"q\"; end; end" ∷
    "run class R; def to_s; 1; end; end" ∷ "run \"#{P.new}-#{nil}-#{:a}-#{[nil, \"x\"]}-#{P}-#{1}\"" ∷
    "run \"#{Q.new}#{R.new}\"" ∷ "run puts P.new, R.new" ∷ "run [P.new].join" ∷ "run P.new.inspect" ∷ [])
    ("= :to_s" ∷ "= :to_s" ∷ "= :to_s" ∷ "= \"p--a-[nil, \\\"x\\\"]-P-1\"" ∷ "= \"q#<R>\"" ∷ "> p" ∷ "> #<R>" ∷
    "= nil" ∷ "= \"#<P>\"" ∷ "= \"#<P>\"" ∷ [])
unfolding reading
to_s_is_called_on_objects_and_modules = refl
