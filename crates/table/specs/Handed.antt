-- The table that a call is lent, as the definitions see it: its slices as lists.
use Rattle.std.specs.Prelude.{◌≡◌}
use Rattle.table.specs.Table.{Table, table_of}
use Rattle.table.specs.declared.Table.{Table as Read}
use Rattle.table.specs.declared.TableMut.{TableMut as Written}

-- a table that is only read
abbrev pub table_seen : Read → Table
table_seen t = table_of t.cost.now t.way.now t.waiting.now

-- a table that is written, before the call or after it
abbrev pub table_held : Written → Table
table_held t = table_of t.cost.now t.way.now t.waiting.now

-- A call writes to the slices that it was lent, and puts no others in their place: so who lent them learns what they hold now.
abbrev pub SameSlices : Written → Written → Type 0
SameSlices t u =
    (u.cost.ghost_name ≡ t.cost.ghost_name) × (u.way.ghost_name ≡ t.way.ghost_name) × (u.waiting.ghost_name ≡ t.waiting.ghost_name)
