-- Tables in memory.
use Rattle.pc_table.specs.declared.table.RegionTable.{RegionTable}
use Rattle.pc_table.specs.Table.{Table, table_regions}

-- the table that a table in memory is
abbrev pub table_of : RegionTable → Table
table_of table = record { regions = table_regions table.regions; loops = table.loops; arrays = table.arrays }
