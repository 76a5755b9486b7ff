-- All keys in their order.
use Rattle.std.proofs.Common.{◌≡◌, Bool, List, codes, Option, Ok, refl}
use Rattle.toml.specs.Data.{Members}
use Rattle.zw_def.specs.Path.{Path}
use Rattle.zw_def.specs.Layout as defined
use Rattle.zw_def_world.specs.Callback.{Callback}
use Rattle.zw_def_config.specs.Callback.{callbacks}
use Rattle.zw_def_config.specs.Configuration.{layout, flag, boot_file, settings}

module _ (path : Path) (table : Members) (l : defined.Layout) (reloading eager : Bool) (boot : Option Path) (cs : List Callback)
    (a : layout table ≡ Ok l) (b : flag (codes "reloading") table ≡ Ok reloading) (c : flag (codes "eager") table ≡ Ok eager)
    (d : boot_file table ≡ Ok boot) (e : callbacks table ≡ Ok cs) where
  pub settings_read : settings path table ≡ Ok (record { path = path; layout = l; callbacks = cs; reloading = reloading; eager = eager; boot = boot })
  unfolding settings
  settings_read = rw (a, b, c, d, e) refl
