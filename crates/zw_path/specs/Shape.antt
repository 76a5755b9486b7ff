-- What every path keeps.
use Rattle.std.specs.Prelude.{◌≡◌, ◌<◌, true, length}
use Rattle.std.specs.List.{list_all}
use Rattle.zw_def.specs.Path.{Path, is_component}

pub record IsPath (path : Path) : Type 0 where
  pub nonempty : 0 < length path
  pub whole : list_all is_component path ≡ true
