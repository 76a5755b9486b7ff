-- The class files that can be read so far: a class whose methods each answer an integer.
--     class NAME, then any number of: def self.x, INT, end; then end
-- Each stands on a line of its own, after any blanks, and each line ends with LF.
use Rattle.std.specs.Prelude.{ℕ, ℤ, pos, Bool, false, List, [], ◌∷◌, Option, Some, None, ◌&&◌, ◌||◌, ◌==◌, not, nat_le, nat_lt, length, take, drop, ◌-◌, ◌++◌, if◌then◌else◌, codes, map}
use Rattle.std.specs.List.{list_all, list_any}
use Rattle.std.specs.Option.{option_and_then, option_map}
use Rattle.std.specs.Str.{bytes_eq}
use Rattle.std.specs.Str.Parse.{digits_value}
use Rattle.zw_def.specs.Text.{Text, pieces, after_prefix, is_digit, is_lower, is_upper, is_plain_word}

-- ---- words

abbrev pub is_class_byte : ℕ → Bool
is_class_byte b = is_upper b || is_lower b || is_digit b || b == 95

abbrev pub is_class_word : Text → Bool
is_class_word [] = false
is_class_word (b ∷ bs) = is_upper b && list_all is_class_byte bs

-- the core classes and modules
unfoldable pub core_names : Text
core_names =
    codes "ArgumentError Array Class Exception FalseClass FrozenError IndexError Integer Kernel " ++
    (codes "LoadError Module NameError NilClass NoMethodError Object RangeError RuntimeError ScriptError " ++
    codes "StandardError String Symbol SyntaxError TrueClass TypeError Zeitwerk ZeroDivisionError")

abbrev pub is_core : Text → Bool
is_core name = list_any (bytes_eq name) (pieces 32 core_names)

-- the two words in capitals that no constant may have (ISO/IEC 30170, 8.7.2, keywords)
abbrev pub is_keyword : Text → Bool
is_keyword word = bytes_eq word (codes "BEGIN") || bytes_eq word (codes "END")

abbrev pub is_class_name : Text → Bool
is_class_name word = is_class_word word && not (is_core word || is_keyword word)

-- the keywords, the words that are outside the profile, and the methods that every class has
unfoldable pub reserved_method_names : Text
reserved_method_names =
    codes "alias ancestors and attr_accessor attr_reader attr_writer begin break case class const_get " ++
    (codes "def do else elsif end ensure extend false for freeze if in include initialize inspect module " ++
    (codes "name new next nil not or private private_class_method public puts raise redo rescue retry " ++
    codes "return self super superclass then to_s true undef unless until when while yield"))

abbrev pub is_method_name : Text → Bool
is_method_name word = is_plain_word word && not (list_any (bytes_eq word) (pieces 32 reserved_method_names))

-- digits without a leading zero, but for `0` itself (ISO/IEC 30170, 8.7.6.2)
abbrev pub is_numeral : Text → Bool
is_numeral [] = false
is_numeral (d ∷ []) = is_digit d
is_numeral (d ∷ e ∷ ds) = is_digit d && not (d == 48) && list_all is_digit (e ∷ ds)

-- the integers of 64 bits, one of them the sign, end before it
abbrev pub integer_end : ℕ
integer_end = 9223372036854775808

-- the integer of a word, where it is a numeral of at most 64 bits with its sign
abbrev pub integer_of : Text → Option ℤ
integer_of word =
    if is_numeral word && nat_lt (digits_value 10 word) integer_end then Some (pos (digits_value 10 word)) else None

-- ---- lines

abbrev pub is_blank : ℕ → Bool
is_blank b = b == 32 || b == 9

-- a line without the blanks before it
abbrev pub unindented : Text → Text
unindented [] = []
unindented (b ∷ bs) = if is_blank b then unindented bs else b ∷ bs

pub record Method : Type 0 where
  pub name : Text
  pub value : ℤ

pub record ClassFile : Type 0 where
  pub name : Text
  pub methods : List Method

abbrev pub method_by : Text → Text → ℤ → Option Method
method_by name last value =
    if is_method_name name && bytes_eq last (codes "end") then Some (record { name = name; value = value }) else None

-- `def self.x`, INT, `end`
abbrev pub method_of : Text → Text → Text → Option Method
method_of head value last =
    option_and_then (λ name. option_and_then (method_by name last) (integer_of value))
    (after_prefix (codes "def self.") head)

-- the methods, and the last `end`
abbrev pub methods_of : List Text → Option (List Method)
methods_of [] = None
methods_of (line ∷ []) = if bytes_eq line (codes "end") then Some [] else None
methods_of (line ∷ next ∷ []) = None
methods_of (head ∷ value ∷ last ∷ more) =
    option_and_then (λ method. option_map (λ methods. method ∷ methods) (methods_of more)) (method_of head value last)

abbrev pub class_by : Text → Option (List Method) → Option ClassFile
class_by name methods = option_map (λ ms. record { name = name; methods = ms }) methods

abbrev pub class_of_lines : List Text → Option ClassFile
class_of_lines [] = None
class_of_lines (line ∷ lines) =
    option_and_then (λ name. if is_class_name name then class_by name (methods_of lines) else None)
    (after_prefix (codes "class ") line)

-- what stands before the last LF, where the text ends with one
abbrev pub before_last_line_end : Text → Option Text
before_last_line_end text =
    if nat_le 1 (length text) && bytes_eq (drop (length text - 1) text) (codes "\n")
    then Some (take (length text - 1) text) else None

-- the class file that a text is, if it is one
abbrev pub class_file : Text → Option ClassFile
class_file text = option_and_then (λ body. class_of_lines (map unindented (pieces 10 body))) (before_last_line_end text)
