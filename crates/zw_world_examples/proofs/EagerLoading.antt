-- Eager loading.
use Rattle.std.specs.Prelude.{[], ◌∷◌}
use mathlib.Core.Path.{refl}
use Rattle.zw_world_examples.specs.Rows.{Writes, plain_words, with_log, with_step_lines, with_eager, one_root, with_roots, root, ignoring, not_eager, eager_by_itself, file}
use Rattle.zw_world_examples.proofs.Computing.{reading}

pub a_tree_of_models_and_controllers : Writes plain_words
    (ignoring ("lib/tasks" ∷ []) (with_roots (root "app/models" ∷ root "app/models/concerns" ∷ root "app/controllers" ∷ root "lib" ∷ [])))
    (file "app/models/application_record.rb" ("class ApplicationRecord; end" ∷ []) ∷
    file "app/models/concerns/taggable.rb" ("module Taggable" ∷ "def tags; [\"a\", \"b\"]; end" ∷ "end" ∷ []) ∷
    file "app/controllers/posts_controller.rb" ("class PostsController" ∷ "def index" ∷ "post = Post.new" ∷ "post.tags.join(\",\") + \" of #{Post::LIMIT}\"" ∷ "end" ∷ "end" ∷ []) ∷
    file "lib/tasks/clean.rb" ("nonsense(" ∷ []) ∷
    file "app/models/post.rb" ("# frozen_string_literal: true\r" ∷ "class Post < ApplicationRecord\r" ∷ "include Taggable\r" ∷ "LIMIT = 3\r" ∷ "end\r" ∷ []) ∷
    [])
    ("eager" ∷ "map" ∷ "run PostsController.new.index" ∷ "put app/models/concerns/taggable.rb 3" ∷
    "module Taggable" ∷ "def tags; [\"c\"]; end" ∷ "end" ∷ "run PostsController.new.index" ∷ "reload" ∷
    "run PostsController.new.index" ∷ [])
    ("ok" ∷ "- ApplicationRecord file app/models/application_record.rb" ∷ "- Post file app/models/post.rb" ∷
    "- PostsController file app/controllers/posts_controller.rb" ∷
    "- Taggable file app/models/concerns/taggable.rb" ∷ "= \"a,b of 3\"" ∷ "ok" ∷ "= \"a,b of 3\"" ∷
    "reloaded" ∷ "= \"c of 3\"" ∷ [])
unfolding reading
a_tree_of_models_and_controllers = refl

pub a_pattern_leaves_a_file_out : Writes plain_words (not_eager ("m/slow.rb" ∷ []) one_root)
    (file "m/slow.rb" ("class Slow; end" ∷ []) ∷ [])
    ("eager" ∷ "run Object.autoload?(:Slow)" ∷ "load m/slow.rb" ∷ "run Object.autoload?(:Slow)" ∷
    "eager_dir x" ∷ "eager_ns Slow" ∷ [])
    ("ok" ∷ "= \"m/slow.rb\"" ∷ "ok" ∷ "= nil" ∷ "! Zeitwerk::Error: x is not managed" ∷ "ok" ∷ [])
unfolding reading
a_pattern_leaves_a_file_out = refl

pub eager_loading_after_setup_is_a_phase : Writes (with_eager (with_step_lines plain_words)) one_root
    (file "m/a.rb" ("class A" ∷ "def self.n" ∷ "B.n + 1" ∷ "end" ∷ "end" ∷ []) ∷
    file "m/b.rb" ("class B" ∷ "def self.n" ∷ "1" ∷ "end" ∷ "end" ∷ []) ∷ [])
    ("run A.n" ∷ "check" ∷ [])
    ("# 0" ∷ "# 6" ∷ "= 2" ∷ "# 7" ∷ "- calm" ∷ [])
unfolding reading
eager_loading_after_setup_is_a_phase = refl

pub a_directory_is_loaded_eagerly : Writes (with_log (with_step_lines plain_words)) one_root
    (file "m/a.rb" ("class A; end" ∷ []) ∷ file "m/x/b.rb" ("class X::B; end" ∷ []) ∷
    file "m/x/c.rb" ("class X::C; end" ∷ []) ∷ [])
    ("eager_dir m/x" ∷ "eager_dir m/x" ∷ "eager_dir m/y" ∷ "run Object.autoload?(:A)" ∷ [])
    (". autoload A" ∷ ". autoload X" ∷ "# 0" ∷ ". autoload X::B" ∷ ". autoload X::C" ∷ ". autovivified X" ∷
    ". loaded X::B from m/x/b.rb" ∷ ". loaded X::C from m/x/c.rb" ∷ "ok" ∷ "# 7" ∷ "ok" ∷ "# 0" ∷
    "! Zeitwerk::Error: m/y is not managed" ∷ "= \"m/a.rb\"" ∷ "# 3" ∷ [])
unfolding reading
a_directory_is_loaded_eagerly = refl

pub a_namespace_is_loaded_eagerly : Writes plain_words one_root
    (file "m/a.rb" ("class A; end" ∷ []) ∷ file "m/x/b.rb" ("class X::B; end" ∷ []) ∷
    file "m/x/c.rb" ("class X::C; end" ∷ []) ∷ [])
    ("eager_ns X::B" ∷ "run Object.const_get(:X).autoload?(:C)" ∷ "eager_ns Nope" ∷ "eager_ns Object" ∷
    "run Object.autoload?(:A)" ∷ [])
    ("ok" ∷ "= \"m/x/c.rb\"" ∷ "ok" ∷ "ok" ∷ "= nil" ∷ [])
unfolding reading
a_namespace_is_loaded_eagerly = refl

pub a_file_is_loaded_with_its_namespaces : Writes (with_step_lines plain_words)
    (with_roots (root "m" ∷ root "n" ∷ []))
    (file "m/a.rb" ("class A; end" ∷ []) ∷ file "m/x/b.rb" ("class X::B; end" ∷ []) ∷
    file "m/x/c.rb" ("class X::C; end" ∷ []) ∷ file "n/a.rb" ("class A; end" ∷ []) ∷
    file "m/z/1x/y.rb" ("1" ∷ []) ∷ file "m/object.rb" ("1" ∷ []) ∷ [])
    ("load m/x/b.rb" ∷ "load m/x/b.rb" ∷ "load m/none.rb" ∷ "load n/a.rb" ∷ "load m/z/1x/y.rb" ∷
    "load m/object.rb" ∷ [])
    ("# 0" ∷ "ok" ∷ "# 4" ∷ "ok" ∷ "# 0" ∷ "! Zeitwerk::Error: m/none.rb is not managed" ∷
    "! Zeitwerk::Error: n/a.rb is shadowed" ∷
    "! Zeitwerk::NameError: wrong constant name 1x inferred from m/z/1x" ∷ "# 0" ∷
    "! Zeitwerk::Error: m/object.rb is shadowed" ∷ [])
unfolding reading
a_file_is_loaded_with_its_namespaces = refl

pub the_first_end_stops_eager_loading : Writes plain_words one_root
    (file "m/a.rb" ("class A; end" ∷ []) ∷ file "m/b.rb" ("class B; raise \"b\"; end" ∷ []) ∷
    file "m/c.rb" ("class C; end" ∷ []) ∷ [])
    ("eager" ∷ "run Object.autoload?(:C)" ∷ "run Object.autoload?(:A)" ∷ [])
    ("! RuntimeError: b" ∷ "= \"m/c.rb\"" ∷ "= nil" ∷ [])
unfolding reading
the_first_end_stops_eager_loading = refl

pub beginnings_of_keys_are_loaded_too : Writes plain_words (not_eager ("m/x.rb" ∷ "m/d" ∷ []) one_root)
    (file "m/x.rb" ("class X; end" ∷ []) ∷ file "m/x/y.rb" ("class X::Y; end" ∷ []) ∷
    file "m/d/e.rb" ("class D::E; end" ∷ []) ∷ [])
    ("eager" ∷ "run [Object.autoload?(:X), Object.autoload?(:D)]" ∷ "run X.autoload?(:Y)" ∷ "eager_ns D" ∷
    "run Object.autoload?(:D)" ∷ [])
    ("ok" ∷ "= [nil, \"m/d\"]" ∷ "= nil" ∷ "ok" ∷ "= \"m/d\"" ∷ [])
unfolding reading
beginnings_of_keys_are_loaded_too = refl

pub what_is_set_or_gone_is_skipped : Writes plain_words one_root
    (file "m/a.rb" ("raise \"no\"" ∷ []) ∷ file "m/b.rb" ("1" ∷ []) ∷ [])
    ("run A = 1" ∷ "run begin; B; rescue NameError; 2; end" ∷ "eager" ∷ "run A" ∷ [])
    ("= 1" ∷ "= 2" ∷ "ok" ∷ "= 1" ∷ [])
unfolding reading
what_is_set_or_gone_is_skipped = refl

pub keys_of_a_module_without_that_home_are_skipped : Writes plain_words one_root
    (file "m/x/b.rb" ("raise \"no\"" ∷ []) ∷ [])
    ("run X = 1" ∷ "eager" ∷ "run X" ∷ [])
    ("= 1" ∷ "ok" ∷ "= 1" ∷ [])
unfolding reading
keys_of_a_module_without_that_home_are_skipped = refl

pub eager_loading_after_setup_tells_its_end : Writes (with_step_lines plain_words) (eager_by_itself one_root)
    (file "m/a.rb" ("class A; raise \"a\"; end" ∷ []) ∷ [])
    ("run 1" ∷ "reload" ∷ [])
    ("# 0" ∷ "! RuntimeError: a" ∷ "# 4" ∷ "= 1" ∷ "# 1" ∷ "# 0" ∷ "reloaded" ∷ "# 0" ∷ "! RuntimeError: a" ∷
    "# 4" ∷ [])
unfolding reading
eager_loading_after_setup_tells_its_end = refl

pub a_word_asks_for_eager_loading : Writes (with_eager plain_words) one_root
    (file "m/a.rb" ("puts \"a\"" ∷ "class A; end" ∷ []) ∷ [])
    ("run 1" ∷ [])
    ("> a" ∷ "= 1" ∷ [])
unfolding reading
a_word_asks_for_eager_loading = refl

pub a_down_session_loads_nothing : Writes (with_eager plain_words) one_root
    (file "m/a.rb" ("puts \"a\"" ∷ []) ∷ file "m/1b.rb" ("1" ∷ []) ∷ [])
    ("map" ∷ [])
    ("! Zeitwerk::NameError: wrong constant name 1b inferred from m/1b.rb" ∷ "- A file m/a.rb" ∷ [])
unfolding reading
a_down_session_loads_nothing = refl
