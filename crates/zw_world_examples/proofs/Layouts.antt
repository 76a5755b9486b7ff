-- Roots, patterns, names and shadowed files.
use Rattle.std.specs.Prelude.{[], ◌∷◌, codes}
use mathlib.Core.Path.{refl}
use Rattle.zw_world_examples.specs.Rows.{Ends, Writes, plain_words, with_log, one_root, with_roots, root, root_in, ignoring, collapsing, inflecting, override, of_gem, booting, without_reloading, file}
use Rattle.zw_world_examples.proofs.Computing.{reading}

pub the_first_root_wins_and_a_reload_finds_the_next : Writes plain_words (with_roots (root "m" ∷ root "n" ∷ []))
    (file "m/user.rb" ("class User; def self.of; \"m\"; end; end" ∷ []) ∷
    file "n/user.rb" ("class User; def self.of; \"n\"; end; end" ∷ []) ∷ [])
    ("shadows" ∷ "run User.of" ∷ "del m/user.rb" ∷ "run User.of" ∷ "reload" ∷ "run User.of" ∷ "shadows" ∷ [])
    ("- n/user.rb shadowed by m/user.rb" ∷ "= \"m\"" ∷ "ok" ∷ "= \"m\"" ∷ "reloaded" ∷ "= \"n\"" ∷ [])
unfolding reading
the_first_root_wins_and_a_reload_finds_the_next = refl

pub a_nested_root_is_no_namespace : Writes plain_words
    (with_roots (root "app/models" ∷ root "app/models/concerns" ∷ []))
    (file "app/models/concerns/taggable.rb" ("module Taggable; end" ∷ []) ∷
    file "app/models/post.rb" ("class Post; include Taggable; end" ∷ []) ∷ [])
    ("map" ∷ "run Post.ancestors" ∷ "run Concerns" ∷ [])
    ("- Post file app/models/post.rb" ∷ "- Taggable file app/models/concerns/taggable.rb" ∷
    "= [Post, Taggable, Object, Kernel]" ∷ "! NameError: uninitialized constant Concerns" ∷ [])
unfolding reading
a_nested_root_is_no_namespace = refl

pub collapsed_directories_and_overrides : Writes plain_words
    (inflecting (override "xml" "XML" ∷ override "html_parser" "HTMLParser" ∷ []) (collapsing ("m/booking/actions" ∷ []) one_root))
    (file "m/booking/actions/create.rb" ("1" ∷ []) ∷ file "m/xml.rb" ("1" ∷ []) ∷
    file "m/bar_xml.rb" ("1" ∷ []) ∷ file "m/html_parser.rb" ("1" ∷ []) ∷ [])
    ("expect m/booking/actions/create.rb" ∷ "expect m/xml.rb" ∷ "expect m/bar_xml.rb" ∷
    "expect m/html_parser.rb" ∷ [])
    ("- Booking::Create" ∷ "- XML" ∷ "- BarXml" ∷ "- HTMLParser" ∷ [])
unfolding reading
collapsed_directories_and_overrides = refl

pub a_root_has_a_namespace_of_boot : Writes plain_words
    (booting "boot.rb" (with_roots (root_in "n" (codes "App" ∷ []) ∷ [])))
    (file "boot.rb" ("module App; end" ∷ []) ∷ file "n/job.rb" ("class App::Job; end" ∷ []) ∷ [])
    ("run App::Job" ∷ [])
    ("= App::Job" ∷ [])
unfolding reading
a_root_has_a_namespace_of_boot = refl

pub a_namespace_that_boot_lacks_is_refused : Ends 3 plain_words
    (booting "boot.rb" (with_roots (root_in "n" (codes "Nope" ∷ []) ∷ [])))
    (file "boot.rb" ("module App; end" ∷ []) ∷ file "n/job.rb" ("class App::Job; end" ∷ []) ∷ [])
    ("run App::Job" ∷ [])
    ("config: namespace Nope" ∷ [])
unfolding reading
a_namespace_that_boot_lacks_is_refused = refl

pub the_version_of_a_gem : Writes plain_words (of_gem "lib/my_gem.rb" [] (with_roots (root "lib" ∷ [])))
    (file "lib/my_gem.rb" ("1" ∷ []) ∷ file "lib/my_gem/version.rb" ("1" ∷ []) ∷
    file "lib/my_gem/x/version.rb" ("1" ∷ []) ∷ [])
    ("expect lib/my_gem.rb" ∷ "expect lib/my_gem/version.rb" ∷ "expect lib/my_gem/x/version.rb" ∷
    "expect lib/none.rb" ∷ [])
    ("- MyGem" ∷ "- MyGem::VERSION" ∷ "- MyGem::X::Version" ∷ "- none" ∷ [])
unfolding reading
the_version_of_a_gem = refl

pub ignored_files_and_shadowed_ones : Writes plain_words
    (ignoring ("m/a/**" ∷ []) (with_roots (root "m" ∷ root "n" ∷ [])))
    (file "m/a/x.rb" ("1" ∷ []) ∷ file "m/b.rb" ("1" ∷ []) ∷ file "n/b.rb" ("1" ∷ []) ∷
    file "n/integer.rb" ("1" ∷ []) ∷ [])
    ("map" ∷ "shadows" ∷ "expect m/a/x.rb" ∷ [])
    ("- B file m/b.rb" ∷ "- n/b.rb shadowed by m/b.rb" ∷ "- n/integer.rb ignored, Integer is already defined" ∷
    "- none" ∷ [])
unfolding reading
ignored_files_and_shadowed_ones = refl

pub patterns_ignore_and_collapse : Writes plain_words
    (collapsing ("m/t" ∷ "**/e" ∷ "m" ∷ []) (ignoring ("m/a/**" ∷ "m/q*" ∷ []) one_root))
    (file "m/a/b/x.rb" [] ∷ file "m/t/u.rb" [] ∷ file "m/t/v/w.rb" [] ∷ file "m/c/d.rb" [] ∷
    file "m/c/e/f.rb" [] ∷ [])
    ("map" ∷ "expect m/a/b/x.rb" ∷ "expect m/t/u.rb" ∷ "expect m/t/v/w.rb" ∷ "expect m/c/d.rb" ∷
    "expect m/c/e/f.rb" ∷ [])
    ("- C dir" ∷ "- C::D file m/c/d.rb" ∷ "- C::F file m/c/e/f.rb" ∷ "- U file m/t/u.rb" ∷ "- V dir" ∷
    "- V::W file m/t/v/w.rb" ∷ "- none" ∷ "- U" ∷ "- V::W" ∷ "- C::D" ∷ "- C::F" ∷ [])
unfolding reading
patterns_ignore_and_collapse = refl

pub what_boot_defines_is_left_out : Writes plain_words (booting "boot.rb" one_root)
    (file "boot.rb" ("module App; N = 1; end" ∷ []) ∷ file "m/app.rb" [] ∷
    file "m/app/x.rb" ("class App::X; end" ∷ []) ∷ file "m/app/x/y.rb" [] ∷ file "m/app/n.rb" [] ∷
    file "m/app/n/z.rb" [] ∷ file "m/kernel.rb" [] ∷ file "m/object/a.rb" [] ∷ [])
    ("map" ∷ "shadows" ∷ "run App::X" ∷ "run Object::A" ∷ [])
    ("- App::X file m/app/x.rb" ∷ "- App::X::Y file m/app/x/y.rb" ∷
    "- m/app/n/z.rb ignored, App::N is already defined" ∷ "- m/app/n.rb ignored, App::N is already defined" ∷
    "- m/app.rb ignored, App is already defined" ∷ "- m/kernel.rb ignored, Kernel is already defined" ∷
    "- m/object/a.rb ignored, Object is already defined" ∷ "= App::X" ∷
    "! NameError: uninitialized constant A" ∷ [])
unfolding reading
what_boot_defines_is_left_out = refl

pub another_name_for_a_module_of_boot_is_no_namespace : Writes plain_words (booting "boot.rb" one_root)
    (file "boot.rb" ("module App; end" ∷ "B = App" ∷ []) ∷ file "m/b/x.rb" [] ∷ [])
    ("map" ∷ "shadows" ∷ [])
    ("- m/b/x.rb ignored, B is already defined" ∷ [])
unfolding reading
another_name_for_a_module_of_boot_is_no_namespace = refl

pub the_first_root_comes_first_and_then_the_path : Writes plain_words (with_roots (root "n" ∷ root "m" ∷ []))
    (file "m/a/c.rb" [] ∷ file "n/a/b.rb" [] ∷ file "n/a/c.rb" [] ∷ file "n/x.rb" [] ∷ file "m/x/t.rb" [] ∷ [])
    ("map" ∷ "shadows" ∷ "run Object.autoload?(:A)" ∷ "run Object.autoload?(:X)" ∷ [])
    ("- A dir" ∷ "- A::B file n/a/b.rb" ∷ "- A::C file n/a/c.rb" ∷ "- X file n/x.rb" ∷ "- X::T file m/x/t.rb" ∷
    "- m/a/c.rb shadowed by n/a/c.rb" ∷ "= \"n/a\"" ∷ "= \"n/x.rb\"" ∷ [])
unfolding reading
the_first_root_comes_first_and_then_the_path = refl

pub the_first_wrong_name_is_told : Writes plain_words (with_roots (root "n" ∷ root "m" ∷ []))
    (file "m/a/1.rb" [] ∷ file "n/a/2/x.rb" [] ∷ file "n/a/3.rb" [] ∷ file "n/b/1.rb" [] ∷
    file "n/b/1x/y.rb" [] ∷ [])
    ("run A" ∷ "run B" ∷ [])
    ("! Zeitwerk::NameError: wrong constant name 2 inferred from n/a/2" ∷
    "! Zeitwerk::NameError: wrong constant name 1 inferred from n/b/1.rb" ∷ [])
unfolding reading
the_first_wrong_name_is_told = refl

pub overrides_are_of_whole_bases : Writes plain_words (inflecting (override "xml" "XML" ∷ []) one_root)
    (file "m/xml.rb" [] ∷ file "m/xml/xml_x.rb" [] ∷ file "m/XML.rb" [] ∷ [])
    ("expect m/xml.rb" ∷ "expect m/xml/xml_x.rb" ∷ "expect m/XML.rb" ∷ [])
    ("- XML" ∷ "- XML::XmlX" ∷ "- Xml" ∷ [])
unfolding reading
overrides_are_of_whole_bases = refl

pub a_gem_has_one_version_file : Writes plain_words
    (without_reloading (of_gem "lib/g.rb" (override "version" "Version" ∷ []) (with_roots (root "lib" ∷ []))))
    (file "lib/g.rb" [] ∷ file "lib/g/version.rb" [] ∷ file "lib/g/x/version.rb" [] ∷ file "lib/version.rb" [] ∷
    file "lib/g/y_z.rb" [] ∷ [])
    ("expect lib/g/version.rb" ∷ "expect lib/g/x/version.rb" ∷ "expect lib/version.rb" ∷ "expect lib/g/y_z.rb" ∷
    [])
    ("- G::VERSION" ∷ "- G::X::Version" ∷ "- Version" ∷ "- G::YZ" ∷ [])
unfolding reading
a_gem_has_one_version_file = refl

pub a_root_below_a_root_has_its_own_namespace : Writes plain_words
    (booting "boot.rb" (with_roots (root "m" ∷ root_in "m/c" (codes "App" ∷ []) ∷ [])))
    (file "boot.rb" ("module App; end" ∷ []) ∷ file "m/c/x.rb" ("class App::X; end" ∷ []) ∷ file "m/d/z.rb" [] ∷
    [])
    ("map" ∷ "run App::X" ∷ "run [Object.autoload?(:C), Object.const_defined?(:Y)]" ∷ [])
    ("- App::X file m/c/x.rb" ∷ "- D dir" ∷ "- D::Z file m/d/z.rb" ∷ "= App::X" ∷ "= [nil, false]" ∷ [])
unfolding reading
a_root_below_a_root_has_its_own_namespace = refl

pub namespaces_of_setup_are_gone_through_in_order : Writes (with_log plain_words)
    (booting "boot.rb" (with_roots (root_in "n" (codes "App" ∷ []) ∷ root "m" ∷ [])))
    (file "boot.rb" ("module App; end" ∷ []) ∷ file "n/job.rb" ("class App::Job; end" ∷ []) ∷ file "m/z.rb" [] ∷
    file "m/a.rb" [] ∷ [])
    ("run App::Job" ∷ [])
    (". autoload A" ∷ ". autoload Z" ∷ ". autoload App::Job" ∷ ". loaded App::Job from n/job.rb" ∷
    "= App::Job" ∷ [])
unfolding reading
namespaces_of_setup_are_gone_through_in_order = refl

pub a_directory_of_boots_module_is_opened_at_setup : Writes (with_log plain_words) (booting "boot.rb" one_root)
    (file "boot.rb" ("module App; end" ∷ []) ∷ file "m/app/job.rb" ("class App::Job; end" ∷ []) ∷ [])
    ("run App::Job" ∷ [])
    (". autoload App::Job" ∷ ". loaded App::Job from m/app/job.rb" ∷ "= App::Job" ∷ [])
unfolding reading
a_directory_of_boots_module_is_opened_at_setup = refl

pub a_namespace_that_is_a_value_is_refused : Ends 3 plain_words
    (without_reloading (with_roots (root_in "m" (codes "Object" ∷ codes "A" ∷ []) ∷ [])))
    []
    ("run 1" ∷ [])
    ("config: namespace Object::A" ∷ [])
unfolding reading
a_namespace_that_is_a_value_is_refused = refl

pub a_directory_above_a_nested_root_alone_does_not_count : Writes plain_words
    (without_reloading (with_roots (root "m" ∷ root "m/x/y" ∷ [])))
    (file "m/x/y/z.rb" [] ∷ [])
    ("map" ∷ "run X" ∷ [])
    ("- Z file m/x/y/z.rb" ∷ "! NameError: uninitialized constant X" ∷ [])
unfolding reading
a_directory_above_a_nested_root_alone_does_not_count = refl
