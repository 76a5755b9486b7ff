-- The stream of commands and what is refused in it.
use Rattle.std.specs.Prelude.{[], ◌∷◌, codes}
use mathlib.Core.Path.{refl}
use Rattle.zw_world_examples.specs.Rows.{Answers, Writes, plain_words, one_root, booting, without_reloading, file}
use Rattle.zw_world_examples.proofs.Computing.{reading}

pub no_command_writes_nothing : Writes plain_words one_root
    []
    []
    []
unfolding reading
no_command_writes_nothing = refl

pub refused_commands : Writes plain_words (without_reloading one_root)
    (file "m/user.rb" ("class User; end" ∷ []) ∷ [])
    ("put m/user.rb/x.rb 0" ∷ "del m/none.rb" ∷ "put zw.toml 0" ∷ "put a.txt 0" ∷ "frob" ∷ "put m/b.rb x" ∷
    "reload" ∷ "put m/b.rb 2" ∷ "1" ∷ [])
    ("? in the way" ∷ "? missing" ∷ "? fixed" ∷ "? not a Ruby path" ∷ "? unknown command" ∷ "? bad argument" ∷
    "! Zeitwerk::ReloadingDisabledError: reloading is not enabled" ∷ "? input ended" ∷ [])
unfolding reading
refused_commands = refl

pub names_and_methods_that_are_absent : Writes plain_words one_root
    (file "m/user.rb" ("class User" ∷ "def self.size" ∷ "40" ∷ "end" ∷ "end" ∷ []) ∷ [])
    ("run User.size" ∷ "run 7" ∷ "run User" ∷ "run User.age" ∷ "run Car" ∷ "map" ∷ [])
    ("= 40" ∷ "= 7" ∷ "= User" ∷ "! NoMethodError: undefined method 'age' for class User" ∷
    "! NameError: uninitialized constant Car" ∷ "- User file m/user.rb" ∷ [])
unfolding reading
names_and_methods_that_are_absent = refl

pub lines_that_do_not_come : Writes plain_words one_root
    []
    ("put m/x.rb 1000000" ∷ [])
    ("? input ended" ∷ [])
unfolding reading
lines_that_do_not_come = refl

pub a_line_that_is_no_text : Answers 0 plain_words one_root [] (codes "run ÿ\n") ("? not UTF-8" ∷ [])
unfolding reading
a_line_that_is_no_text = refl

pub lines_that_are_skipped_and_words_that_are_unknown : Writes plain_words one_root
    []
    ("" ∷ "  \t" ∷ "# run 1" ∷ "run" ∷ "run 1\r" ∷ "\r" ∷ "Run 1" ∷ " run 1" ∷ "run\t1" ∷ "map x" ∷ "reload x" ∷
    "map " ∷ "check y" ∷ "eager z" ∷ "end x" ∷ "runs 0" ∷ "runs 10001" ∷ "runs x" ∷ "runs" ∷ "end" ∷ "run 2" ∷
    [])
    ("= nil" ∷ "= 1" ∷ "? unknown command" ∷ "? unknown command" ∷ "? unknown command" ∷ "? bad argument" ∷
    "? bad argument" ∷ "? bad argument" ∷ "? bad argument" ∷ "? bad argument" ∷ "? bad argument" ∷
    "? bad argument" ∷ "? bad argument" ∷ "? bad argument" ∷ [])
unfolding reading
lines_that_are_skipped_and_words_that_are_unknown = refl

pub edits_that_are_refused : Writes plain_words (booting "boot.rb" one_root)
    (file "boot.rb" [] ∷ file "m/user.rb" ("class User; end" ∷ []) ∷ file "m/x.rb/y.rb" ("1" ∷ []) ∷ [])
    ("put m/.a.rb 0" ∷ "put ../a.rb 0" ∷ "put /a.rb 0" ∷ "put m//a.rb 0" ∷ "put m/a.rb -1" ∷
    "put m/a.rb 1000001" ∷ "put m/a.rb" ∷ "put m 0" ∷ "put m/user.rb/b.rb 0" ∷ "put m/x.rb 0" ∷
    "put zw.toml 0" ∷ "put boot.rb 0" ∷ "del m/none.rb" ∷ "del m/x.rb" ∷ "del zw.toml" ∷ "del m/a.txt" ∷
    "del .." ∷ "put m/a.rb 01" ∷ "1" ∷ "del m/a.rb" ∷ "del m/a.rb" ∷ [])
    ("! Zeitwerk::NameError: wrong constant name X.rb inferred from m/x.rb" ∷ "? not a Ruby path" ∷
    "? bad argument" ∷ "? bad argument" ∷ "? bad argument" ∷ "? bad argument" ∷ "? bad argument" ∷
    "? bad argument" ∷ "? not a Ruby path" ∷ "? in the way" ∷ "? in the way" ∷ "? fixed" ∷ "? fixed" ∷
    "? missing" ∷ "? missing" ∷ "? fixed" ∷ "? not a Ruby path" ∷ "? bad argument" ∷ "ok" ∷ "ok" ∷
    "? missing" ∷ [])
unfolding reading
edits_that_are_refused = refl

pub a_file_is_put_in_place_of_another : Writes plain_words one_root
    (file "m/a.rb" ("class A; def self.x; 1; end; end" ∷ []) ∷ [])
    ("put m/a.rb 2" ∷ "class A; def self.x; 2; end" ∷ "end" ∷ "run A.x" ∷ "reload" ∷ "run A.x" ∷
    "put m/a.rb 0" ∷ "reload" ∷ "run A" ∷ "put m/b c.rb 1" ∷ "1" ∷ "expect m/b c.rb" ∷ [])
    ("ok" ∷ "= 1" ∷ "reloaded" ∷ "= 2" ∷ "ok" ∷ "reloaded" ∷
    "! Zeitwerk::NameError: expected file m/a.rb to define constant A, but didn't" ∷ "ok" ∷ "- none" ∷ [])
unfolding reading
a_file_is_put_in_place_of_another = refl

pub lines_of_runs_are_joined : Writes plain_words one_root
    []
    ("runs 2" ∷ "1" ∷ "2" ∷ "runs 3" ∷ "\"a" ∷ "b\"\r" ∷ "" ∷ "runs 1" ∷ "1 +" ∷ "runs 2" ∷ "1" ∷ [])
    ("= 2" ∷ "= \"a\\nb\"" ∷ "! SyntaxError: line 1: malformed or nested too deep" ∷ "? input ended" ∷ [])
unfolding reading
lines_of_runs_are_joined = refl

pub names_are_expected_of_visible_files : Writes plain_words one_root
    (file "m/a.rb" [] ∷ file "m/z/1x/a.rb" [] ∷ file "m/x/1a.rb" [] ∷ file "m/a_b/c_d.rb" [] ∷
    file "m/fOO.rb" [] ∷ file "m/_a__b.rb" [] ∷ file "m/z/é.rb" [] ∷ [])
    ("expect m/a.rb" ∷ "expect m/none.rb" ∷ "expect n/a.rb" ∷ "expect m/z/1x/a.rb" ∷ "expect m/x/1a.rb" ∷
    "expect m/a_b/c_d.rb" ∷ "expect m/fOO.rb" ∷ "expect m/_a__b.rb" ∷ "expect m/z/é.rb" ∷ "expect" ∷ [])
    ("- A" ∷ "- none" ∷ "- none" ∷ "! Zeitwerk::NameError: wrong constant name 1x inferred from m/z/1x" ∷
    "! Zeitwerk::NameError: wrong constant name 1a inferred from m/x/1a.rb" ∷ "- AB::CD" ∷ "- Foo" ∷ "- AB" ∷
    "! Zeitwerk::NameError: wrong constant name é inferred from m/z/é.rb" ∷ "? bad argument" ∷ [])
unfolding reading
names_are_expected_of_visible_files = refl

pub reloading_may_be_disabled : Writes plain_words (without_reloading one_root)
    (file "m/a.rb" [] ∷ [])
    ("put m/b.rb 0" ∷ "reload" ∷ "map" ∷ [])
    ("ok" ∷ "! Zeitwerk::ReloadingDisabledError: reloading is not enabled" ∷ "- A file m/a.rb" ∷ [])
unfolding reading
reloading_may_be_disabled = refl
