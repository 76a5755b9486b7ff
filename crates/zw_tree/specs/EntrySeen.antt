-- The code's entries that are handed out.
use Rattle.zw_tree.specs.Entries.{Listed}
use Rattle.zw_tree.specs.declared.entry.Entry.{Entry}

abbrev pub entry_seen : Entry → Listed
entry_seen e = record { name = e.name.now; is_dir = e.is_dir }
