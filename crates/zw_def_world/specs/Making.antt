-- What is made: exceptions, texts, arrays and integers, with their limits and costs (both are this project's own).
use Rattle.std.specs.Prelude.{ℕ, ℤ, pos, negsuc, ◌+◌, ◌/◌, ◌^◌, Bool, false, max, nat_lt, List, [], codes, length, Some, if◌then◌else◌}
use Rattle.zw_def.specs.Text.{Text}
use Rattle.zw_def_world.specs.Id.{Id}
use Rattle.zw_def_world.specs.CoreClass.{RangeError}
use Rattle.zw_def_world.specs.Value.{Value, Values, nil, int, text, array, no_values, value_then, array_of}
use Rattle.zw_def_world.specs.Record.{Object}
use Rattle.zw_def_world.specs.World.{with_object, fresh}
use Rattle.zw_def_world.specs.Act.{Act, ends, gives, raised, in_world, changing, ◌>>◌, paid}

-- ---- exceptions

abbrev pub exception : Id → Text → Object
exception class message = record { class = class; variables = []; is_frozen = false; message = Some message }

-- ends with a new exception
abbrev pub raises : Id → Text → Act
raises class message = in_world fresh (λ i. changing (with_object (exception class message)) nil >> ends (raised i))

-- ---- limits

abbrev pub max_text : ℕ
max_text = 1048576

abbrev pub max_items : ℕ
max_items = 65536

abbrev pub max_nesting : ℕ
max_nesting = 100

abbrev pub too_long : Act
too_long = raises RangeError (codes "text too long")

-- an exception of a class, with a message; one that is too long is told as a fault of its own
abbrev pub fails : Id → Text → Act
fails class message = if nat_lt max_text (length message) then too_long else raises class message

abbrev pub pays_text : Text → Act
pays_text t = paid (length t / 64) (gives (text t))

-- a text that is made
abbrev pub makes_text : Text → Act
makes_text t = if nat_lt max_text (length t) then too_long else pays_text t

abbrev mutual
  pub nesting : Value → ℕ
  nesting (array vs) = nesting_of 1 vs
  nesting v = 0

  pub nesting_of : ℕ → Values → ℕ
  nesting_of n no_values = n
  nesting_of n (value_then v vs) = nesting_of (max n (nesting v + 1)) vs

abbrev pub pays_array : List Value → Act
pays_array vs = paid (length vs) (gives (array (array_of vs)))

-- an array that is made
abbrev pub makes_array : List Value → Act
makes_array vs =
    if nat_lt max_items (length vs) then raises RangeError (codes "array too long")
    else if nat_lt max_nesting (nesting_of 1 (array_of vs)) then raises RangeError (codes "array nested too deep")
    else pays_array vs

abbrev pub fits : ℤ → Bool
fits (pos n) = nat_lt n (2 ^ 63)
fits (negsuc n) = nat_lt n (2 ^ 63)

abbrev pub makes_integer : ℤ → Act
makes_integer z = if fits z then gives (int z) else raises RangeError (codes "integer out of range")
