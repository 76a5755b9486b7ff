-- How calls are written, as the definition tells it.
use Rattle.zw_def_world.specs.Call as told
use Rattle.zw_def_world.specs.Fault.{no_method, no_variable}
use Rattle.zw_ops.specs.declared.written.Written.{Written}
use Rattle.zw_ops.specs.declared.written.Written.TheVariants as w
use Rattle.zw_ops.specs.declared.written.Absent.{Absent}
use Rattle.zw_ops.specs.declared.written.Absent.TheVariants as a

abbrev pub written_seen : Written → told.Written
written_seen w.Unwritten = told.unwritten
written_seen w.AsSelf = told.written_self
written_seen w.Other = told.written_other

abbrev pub absent_seen : Absent → told.Absent
absent_seen a.Method = no_method
absent_seen a.Variable = no_variable
