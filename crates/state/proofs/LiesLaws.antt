-- Each table lies in a good array: what a call on a table asks.
use Prim.Native.Nat.{ℕ}
use mathlib.Core.List.{List}
use Rattle.tables.specs.Rows.{Lies}
use Rattle.state.specs.Cells.{imports, uses, records, namespaces, lazies, forces, modules, externals, table, table_of, Good}

module _ {t : List ℕ} (g : Good t) where
  pub lies-imports : Lies (table_of imports) t
  lies-imports = g.lies imports

  pub lies-uses : Lies (table_of uses) t
  lies-uses = g.lies uses

  pub lies-records : Lies (table_of records) t
  lies-records = g.lies records

  pub lies-namespaces : Lies (table_of namespaces) t
  lies-namespaces = g.lies namespaces

  pub lies-lazies : Lies (table_of lazies) t
  lies-lazies = g.lies lazies

  pub lies-forces : Lies (table_of forces) t
  lies-forces = g.lies forces

  pub lies-modules : Lies (table_of modules) t
  lies-modules = g.lies modules

  pub lies-externals : Lies (table_of externals) t
  lies-externals = g.lies externals

  pub lies-table : Lies (table_of table) t
  lies-table = g.lies table

pub ruleset lies = (lies-imports, lies-uses, lies-records, lies-namespaces, lies-lazies, lies-forces, lies-modules, lies-externals, lies-table)
