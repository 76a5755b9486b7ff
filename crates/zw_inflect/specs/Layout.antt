-- What a layout of the code stands for. Its names are told by a list of texts.
use Rattle.std.specs.Prelude.{List, map}
use Rattle.zw_def.specs.Text.{Text}
use Rattle.zw_def.specs.Names.{texts_of}
use Rattle.zw_def.specs.Layout as defined
use Rattle.zw_inflect.specs.declared.layout.Root.{Root}
use Rattle.zw_inflect.specs.declared.layout.Layout.{Layout}
use Rattle.zw_inflect.specs.Inflector.{inflector_seen}

abbrev pub root_seen : List Text → Root → defined.Root
root_seen names root = record { path = root.path; namespace = texts_of names root.namespace }

abbrev pub layout_seen : List Text → Layout → defined.Layout
layout_seen names layout = record {
  roots = map (root_seen names) layout.roots.items;
  ignore = layout.ignore.items;
  collapse = layout.collapse.items;
  no_eager = layout.no_eager.items;
  inflector = inflector_seen layout.inflector;
}
