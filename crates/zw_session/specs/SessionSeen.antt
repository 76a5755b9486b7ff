-- What a session of the code holds.
use Rattle.zw_session.specs.declared.session.Session.TheInside.{Inside}
use Rattle.zw_session.specs.Stores.{Stores}

abbrev pub session_seen : Inside → Stores
session_seen s = record {
  names = s.names;
  heap = s.heap;
  constants = s.constants;
  methods = s.methods;
  bodies = s.bodies.items;
}
