-- What the fields of a staged tree stand for.
use Rattle.std.specs.Prelude.{List}
use Rattle.zw_def.specs.Path.{Path}
use Rattle.zw_def.specs.Tree.{Tree}
use Rattle.zw_tree.specs.Stage.{Stage}

abbrev pub stage_of : List Path → Tree → Tree → List Path → Stage
stage_of fixed staged mounted touched =
    record { fixed = fixed; staged = staged; mounted = mounted; touched = touched }
