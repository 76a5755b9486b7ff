-- What stands around a node, as the definitions have it.
use Rattle.zw_def_syntax.specs.Places as d
use Rattle.zw_places.specs.declared.place.Place.{Place}

abbrev pub place_seen : Place → d.Place
place_seen p = record { in_method = p.in_method; in_loop = p.in_loop; in_class = p.in_class }
