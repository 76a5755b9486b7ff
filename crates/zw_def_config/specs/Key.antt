-- The keys of a table: those that are known, and the least one that is not.
use Rattle.std.specs.Prelude.{Bool, not, List, [], ◌∷◌, ◌++◌, codes, filter, is_some, Option, Some, None, Ok, Err, if◌then◌else◌}
use Rattle.std.specs.Option.{option_map_or}
use Rattle.std.specs.Ordering.{nat_cmp, is_lt}
use Rattle.std.specs.Cmp.Lexicographic.{slice_cmp}
use Rattle.toml.specs.Data.{Data, Members, no_members, member, get_member}
use Rattle.zw_def.specs.Text.{Text, is_among}
use Rattle.zw_def_config.specs.Fault.{Reading, ◌>>=◌, unknown_key}
use Rattle.zw_def_config.specs.Value.{table_in}

-- the value at a key
abbrev pub at : Text → Members → Option Data
at key table = get_member key table

abbrev pub keys_of : Members → List Text
keys_of no_members = []
keys_of (member key value more) = key ∷ keys_of more

-- ---- byte order

abbrev pub is_less : Text → Text → Bool
is_less a b = is_lt (slice_cmp nat_cmp a b)

abbrev pub lesser : Text → Text → Text
lesser a b = if is_less b a then b else a

-- the least of some texts in byte order, if there is one
abbrev pub least : List Text → Option Text
least [] = None
least (text ∷ texts) = Some (option_map_or (lesser text) (least texts) text)

-- ---- keys that are not known

abbrev pub unknown_keys : List Text → Members → List Text
unknown_keys known table = filter (λ key. not (is_among known key)) (keys_of table)

-- whether the table has no other keys
abbrev pub has_only : List Text → Members → Bool
has_only known table = not (is_some (least (unknown_keys known table)))

-- the table, unless it has a key that is not known; of these the least is told, behind the name of what the table is in
abbrev pub only_known : Text → List Text → Members → Reading Members
only_known prefix known table =
    option_map_or (λ key. Err (unknown_key (prefix ++ key))) (least (unknown_keys known table)) (Ok table)

-- an element of an array of tables with these keys
abbrev pub fields_in : Text → List Text → Data → Reading Members
fields_in key known value = table_in key value >>= only_known (key ++ codes ".") known
