-- Straight sessions.
use Rattle.std.specs.Prelude.{◌≡◌, true, false}
use mathlib.Core.Path.{refl}
use Rattle.zw_world_examples.specs.Rows.{is_straight_over}
use Rattle.zw_world_examples.proofs.Computing.{reading}

pub files_without_such_methods : is_straight_over "" "class A; attr_reader :size; def x; y; end; end" ≡ true
unfolding reading
files_without_such_methods = refl

pub a_file_that_defines_freeze : is_straight_over "" "class A; def freeze; 1; end; end" ≡ false
unfolding reading
a_file_that_defines_freeze = refl

pub a_file_that_defines_a_reader_named_freeze : is_straight_over "" "class A; attr_reader :size, :freeze; end" ≡ false
unfolding reading
a_file_that_defines_a_reader_named_freeze = refl

pub a_writer_named_freeze_is_another_name : is_straight_over "" "class A; attr_writer :freeze; end" ≡ true
unfolding reading
a_writer_named_freeze_is_another_name = refl

pub boot_that_calls_freeze_outside_of_methods : is_straight_over "class A; end; A.freeze" "class B; end" ≡ true
unfolding reading
boot_that_calls_freeze_outside_of_methods = refl

pub a_method_of_boot_that_calls_freeze : is_straight_over "class A; def x(y = z.freeze); y; end; end" "class B; end" ≡ false
unfolding reading
a_method_of_boot_that_calls_freeze = refl
