-- Names in a list, and the places of each.
use Rattle.std.specs.Prelude.{◌≡◌, ◌↔◌, ℕ, List, Contains, map, slice_index}
use Rattle.std.specs.List.Sorted.{IsStrictlySortedBy}
use Rattle.cs_value.specs.declared.catalog.TableDef.{TableDef}
use Rattle.cs_order.specs.Groups.{places_of}
use Rattle.cs_order.specs.Order.{Keys, by_bytes, key_at}

-- the name at the first of some places
abbrev pub name_first : Keys → List ℕ → List ℕ
name_first names places = key_at names (slice_index places 0)

-- each name once, in the order of the bytes, and the places of each
pub record AreGrouped (names once : Keys) (places : List (List ℕ)) : Type 0 where
  pub rising : IsStrictlySortedBy by_bytes once
  pub complete : (name : List ℕ) → Contains names name ↔ Contains once name
  pub each : places ≡ map (places_of names) once

abbrev pub table_name : TableDef → List ℕ
table_name table = table.name
