-- What the code tells of an expected path.
use Rattle.std.specs.Prelude.{◌≡◌, ℕ, List, Option, Some, option_map, Result, Ok, Err, MatchResult, string_bytes}
use Rattle.std.specs.List.{All}
use Rattle.zw_base.specs.declared.fault.Fault.{Fault}
use Rattle.zw_base.specs.Fault.{IfReason}
use Rattle.zw_def.specs.Text.{Text}
use Rattle.zw_def.specs.Path.{Path}
use Rattle.zw_def.specs.Names.{AreNamed, texts_of}
use Rattle.zw_def.specs.Expected as defined
use Rattle.zw_inflect.specs.declared.layout.Layout.{Layout}
use Rattle.zw_layout.specs.declared.expected.WrongName.{WrongName}

abbrev pub wrong_seen : WrongName → defined.WrongName
wrong_seen wrong = record { name = string_bytes wrong.name; path = wrong.path }

-- the fault is the wrong name, in a path that is told; want of memory says nothing
abbrev pub Tells : Fault WrongName → defined.Expected → Type 0
Tells fault told = IfReason fault (λ wrong. told ≡ Err (wrong_seen wrong))

-- the names have the texts that are told
abbrev pub Expects : List Text → Result (List ℕ) (Fault WrongName) → defined.Expected → Type 0
Expects names result told = MatchResult result (λ p. told ≡ Ok (texts_of names p)) (λ fault. Tells fault told)

-- these names do, where no fault is told
abbrev pub Extends : {X : Type 0} → List Text → List ℕ → Result X (Fault WrongName) → defined.Expected → Type 0
Extends names p result told = MatchResult result (λ x. told ≡ Ok (texts_of names p)) (λ fault. Tells fault told)

-- a path that stands below no root is expected to define nothing
abbrev pub ExpectsAny : List Text → Result (Option (List ℕ)) (Fault WrongName) → Option defined.Expected → Type 0
ExpectsAny names result told =
    MatchResult result (λ o. told ≡ option_map (λ p. Ok (texts_of names p)) o)
    (λ fault. IfReason fault (λ wrong. told ≡ Some (Err (wrong_seen wrong))))

-- the names of the namespaces are among these
abbrev pub AreNamespacesNamed : List Text → Layout → Type 0
AreNamespacesNamed names layout = All (λ root. AreNamed names root.namespace) layout.roots.items

-- what the fault says of the name that the inflector made at a path
abbrev pub IsWrongAt : Fault WrongName → Text → Path → Type 0
IsWrongAt fault name path = IfReason fault (λ wrong. wrong_seen wrong ≡ record { name = name; path = path })
