-- Variables that commands name, and plain commands.
use Rattle.std.specs.Prelude.{◌≡◌, true, false, [], ◌∷◌, codes}
use mathlib.Core.Path.{refl}
use Rattle.zw_def_session.specs.Naming.{names_variable, is_plain_command}
use Rattle.zw_world_examples.proofs.Computing.{reading}

pub a_bare_name_is_named : names_variable (codes "x + 1") (codes "x") ≡ true
unfolding reading
a_bare_name_is_named = refl

pub a_target_is_named : names_variable (codes "x = 1") (codes "x") ≡ true
unfolding reading
a_target_is_named = refl

pub a_rescued_name_is_named : names_variable (codes "begin; 1; rescue => x; 2; end") (codes "x") ≡ true
unfolding reading
a_rescued_name_is_named = refl

pub a_name_in_a_body_is_not_named : names_variable (codes "class A; x; def f; x; end; end") (codes "x") ≡ false
unfolding reading
a_name_in_a_body_is_not_named = refl

pub a_method_is_not_named : names_variable (codes "self.x; x(1)") (codes "x") ≡ false
unfolding reading
a_method_is_not_named = refl

pub a_text_that_is_no_program_names_its_identifiers : names_variable (codes "self.x +") (codes "x") ≡ true
unfolding reading
a_text_that_is_no_program_names_its_identifiers = refl

pub a_plain_command : is_plain_command (codes "y" ∷ []) (codes "x = A.f(1)") ≡ true
unfolding reading
a_plain_command = refl

pub a_command_that_names_an_older_variable : is_plain_command (codes "y" ∷ []) (codes "A.f(y)") ≡ false
unfolding reading
a_command_that_names_an_older_variable = refl

pub a_command_that_sets_a_constant : is_plain_command [] (codes "X = 1") ≡ false
unfolding reading
a_command_that_sets_a_constant = refl
