-- Names and paths in the world of a session, and the faults that tell them.
use Rattle.std.proofs.Common.{◌≡◌, ℕ, ◌<◌, List, [], ◌∷◌, ◌++◌, codes, length, map, slice_get, Option, Some, None, refl, ap, sym, ◌∙◌}
use Rattle.std.specs.List.{All}
use Rattle.std.specs.Option.{option_map, unwrap_or}
use Rattle.std.proofs.lemmas.List.{append_assoc, map-append}
use Rattle.zw_lemmas.proofs.ListLemmas.{map-same}
use Rattle.zw_def.specs.ConstantPath.{constant_path_text}
use Rattle.zw_def.specs.Names.{AreNamed, text_of, texts_of}
use Rattle.zw_def.specs.Nesting.{child}
use Rattle.zw_def.specs.Text.{Text}
use Rattle.zw_def_world.specs.Act.{Act, Point}
use Rattle.zw_def_world.specs.CoreClass.{NameError}
use Rattle.zw_def_world.specs.Fault.{no_constant}
use Rattle.zw_def_world.specs.Inspect.{module_text}
use Rattle.zw_def_world.specs.Making.{fails}
use Rattle.zw_def_world.specs.Record as told
use Rattle.zw_def_world.specs.Variable.{no_class_variable}
use Rattle.zw_heap.specs.ModuleRecord.{Module}
use Rattle.zw_session.specs.Sense.{Sense, Stands, world_of}
use Rattle.zw_session.specs.Stores.{Stores}
use Rattle.zw_session.proofs.ActLemmas.{in_module-found, stays-here}
use Rattle.zw_session.proofs.ConstantLemmas.{there-is}
use Rattle.zw_session.proofs.VariableLemmas.{mapped-from}
use Rattle.zw_session.proofs.WorldLemmas.{Fits-front}

-- a message, as its pieces are written one after another
abbrev pub missed-text : Text → Text → Text
missed-text name path = codes "uninitialized class variable @@" ++ (name ++ (codes " in " ++ path))

module _ (J : Sense) (s : Stores) (stands : Stands J s) where
  name-told : (n : ℕ) (t : Text) → slice_get s.names n ≡ Some t → J.telling.name n ≡ t
  name-told n t at = (Fits-front J.telling s.heap s.names stands.begins.0 J.names stands.begins.1 stands.fits).names_told n t at

  pub names-told : (ns : List ℕ) → AreNamed s.names ns → map J.telling.name ns ≡ texts_of s.names ns
  names-told ns named = map-same J.telling.name (text_of s.names) (λ n. n < length s.names) ns text named
    where
      text : (n : ℕ) → n < length s.names → J.telling.name n ≡ text_of s.names n
      text n lt = let at = there-is s.names n lt in name-told n at.0 at.1 ∙ sym (ap (λ o. unwrap_or o []) at.1)

  module _ (p : Point) (here : p.world ≡ world_of J s) (n : ℕ) (path : List ℕ) (named : AreNamed s.names path) (is : option_map (λ (m : Module). m.path) (slice_get s.heap.modules n) ≡ Some path) where
    abbrev found : (m : Module) × (slice_get s.heap.modules n ≡ Some m) × (m.path ≡ path)
    found = mapped-from (λ (m : Module). m.path) (slice_get s.heap.modules n) path is

    abbrev stood : Point
    stood = record p { world = world_of J s }

    pub class_variable-missed : (x : ℕ) (name message : Text) → slice_get s.names x ≡ Some name
        → message ≡ missed-text name (constant_path_text (texts_of s.names path))
        → no_class_variable (J.telling.name x) (J.telling.module_id n) p ≡ fails NameError message stood
    class_variable-missed x name message at told =
        ap (no_class_variable (J.telling.name x) (J.telling.module_id n)) (sym (stays-here J s p here))
        ∙ in_module-found J s stood refl n found.0 (λ m. fails NameError (start ++ J.telling.name x ++ codes " in " ++ module_text m)) found.1
        ∙ ap (λ t. fails NameError t stood)
        (ap (λ t. start ++ t ++ codes " in " ++ constant_path_text (map J.telling.name found.0.path)) (name-told x name at)
        ∙ ap (λ ns. start ++ name ++ codes " in " ++ constant_path_text (map J.telling.name ns)) found.2
        ∙ ap (λ ts. start ++ name ++ codes " in " ++ constant_path_text ts) (names-told path named)
        ∙ append_assoc (start ++ name) (codes " in ") (constant_path_text (texts_of s.names path))
        ∙ append_assoc start name (codes " in " ++ constant_path_text (texts_of s.names path))
        ∙ sym told)
      where
        start : Text
        start = codes "uninitialized class variable @@"

    pub constant-missed : (x : ℕ) (message : Text) → AreNamed s.names (path ++ x ∷ [])
        → message ≡ codes "uninitialized constant " ++ constant_path_text (texts_of s.names (path ++ x ∷ []))
        → no_constant (J.telling.module_id n) (J.telling.name x) p ≡ fails NameError message stood
    constant-missed x message longer told =
        ap (no_constant (J.telling.module_id n) (J.telling.name x)) (sym (stays-here J s p here))
        ∙ in_module-found J s stood refl n found.0 (λ m. fails NameError (start ++ constant_path_text (child m.path (J.telling.name x)))) found.1
        ∙ ap (λ t. fails NameError t stood)
        (ap (λ ns. start ++ constant_path_text (child (map J.telling.name ns) (J.telling.name x))) found.2
        ∙ ap (λ ts. start ++ constant_path_text ts) (sym (map-append J.telling.name path (x ∷ [])) ∙ names-told (path ++ x ∷ []) longer)
        ∙ sym told)
      where
        start : Text
        start = codes "uninitialized constant "
