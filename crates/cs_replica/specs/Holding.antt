-- What a replica holds (profile of this project).
use Rattle.std.specs.Prelude.{List}
use Rattle.cs_value.specs.declared.catalog.TableDef.{TableDef}
use Rattle.cs_store.specs.Contents.{Contents}
use Rattle.cs_store.specs.declared.store.RowStore.{Ghosts}
use Rattle.cs_pending.specs.View.{View}
use Rattle.cs_pending.specs.position.Shows.{ShowsAt, ShowsSomeAt}
use Rattle.cs_pending.specs.declared.position.position.Position.{Position}

-- a store, the tables that are synced as they are now, and where the replica stands
pub record Holding (S : Type 0) : Type 0 where
  pub store : S
  pub catalog : List TableDef
  pub position : Position

-- its store shows these rows and these pending changes, at its position
abbrev pub Shows : {S : Type 0} → (S → Contents) → Holding S → View → Type 0
Shows contents held view = ShowsAt held.catalog (contents held.store) held.position view

-- where the store is honest, it shows a replica at the position
abbrev pub ShowsWhereHonest : {S : Type 0} → Ghosts S → Holding S → Type 0
ShowsWhereHonest g held = g.honest held.store → ShowsSomeAt held.catalog held.position (g.contents held.store)
