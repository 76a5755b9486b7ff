-- The names of the core classes (ISO/IEC 30170, 15.2; Zeitwerk README, "Errors"), and of `main`.
use Rattle.std.specs.Prelude.{ℕ, Bool, List, [], ◌∷◌}
use Rattle.zw_def_world.specs.Id.{Id, boot_id, id_eq}
use Rattle.zw_def_world.specs.Value.{Value, object_at}

abbrev pub Object_class : Id
Object_class = boot_id 0

abbrev pub Kernel : Id
Kernel = boot_id 1

abbrev pub Module_class : Id
Module_class = boot_id 2

abbrev pub Class : Id
Class = boot_id 3

abbrev pub NilClass : Id
NilClass = boot_id 4

abbrev pub TrueClass : Id
TrueClass = boot_id 5

abbrev pub FalseClass : Id
FalseClass = boot_id 6

abbrev pub Integer : Id
Integer = boot_id 7

abbrev pub String_class : Id
String_class = boot_id 8

abbrev pub Symbol_class : Id
Symbol_class = boot_id 9

abbrev pub Array : Id
Array = boot_id 10

abbrev pub Exception : Id
Exception = boot_id 11

abbrev pub Zeitwerk : Id
Zeitwerk = boot_id 12

abbrev pub ScriptError : Id
ScriptError = boot_id 13

abbrev pub StandardError : Id
StandardError = boot_id 14

abbrev pub SyntaxError : Id
SyntaxError = boot_id 15

abbrev pub LoadError : Id
LoadError = boot_id 16

abbrev pub ArgumentError : Id
ArgumentError = boot_id 17

abbrev pub IndexError : Id
IndexError = boot_id 18

abbrev pub NameError : Id
NameError = boot_id 19

abbrev pub RangeError : Id
RangeError = boot_id 20

abbrev pub RuntimeError : Id
RuntimeError = boot_id 21

abbrev pub TypeError : Id
TypeError = boot_id 22

abbrev pub ZeroDivisionError : Id
ZeroDivisionError = boot_id 23

abbrev pub NoMethodError : Id
NoMethodError = boot_id 24

abbrev pub FrozenError : Id
FrozenError = boot_id 25

abbrev pub ZeitwerkError : Id
ZeitwerkError = boot_id 26

abbrev pub ReloadingDisabledError : Id
ReloadingDisabledError = boot_id 27

abbrev pub SetupRequired : Id
SetupRequired = boot_id 28

abbrev pub ZeitwerkNameError : Id
ZeitwerkNameError = boot_id 29

-- the object `main` comes behind the core classes
abbrev pub core_count : ℕ
core_count = 30

abbrev pub main_id : Id
main_id = boot_id core_count

abbrev pub main : Value
main = object_at main_id

abbrev pub is_main : Id → Bool
is_main i = id_eq i main_id

-- these classes and those below them have no `new`
abbrev pub classes_without_new : List Id
classes_without_new =
    Module_class ∷ Class ∷ NilClass ∷ TrueClass ∷ FalseClass ∷ Integer ∷ String_class ∷ Symbol_class ∷ Array ∷ []
