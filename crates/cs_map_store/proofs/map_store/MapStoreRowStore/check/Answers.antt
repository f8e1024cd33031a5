use Rattle.std.proofs.Common.{◌≡◌, ℕ, Bool, IsTrue, false, ◌&&◌, List, Some, subst, sym}
use Rattle.std.specs.FinMap.{get}
use Rattle.std.specs.Prelude.{◌↔◌}
use Rattle.cs_value.specs.declared.catalog.TableDef.{TableDef}
use Rattle.cs_store.specs.Contents.{StorePlace}
use Rattle.cs_store.specs.Whole.{AtTable, IsWhole, StoresChange, StoresRow}
use Rattle.cs_map_store.specs.Slots.{InMemory}
use Rattle.cs_map_store.proofs.Checks.{not_whole, whole_is}
use Rattle.cs_map_store.proofs.map_store.MapStoreRowStore.check.Goals as goal

pub returns-in_default-clause-checked : goal.returns-in_default-clause-checked
returns-in_default-clause-checked c = λ _.
    let was = c.self.inside in
    subst (λ (store : InMemory). IsTrue false ↔ IsWhole c.args.catalog.now store.held) c.self.view_is
    (not_whole c.decoding.ensures.in_order c.args.catalog.now was.shelves.rows was.shelves.pending was.slots.entries was.log.items (rw c.in_default.is at c.in_ok-present.ensures))

pub returns-clause-checked : goal.returns-clause-checked
returns-clause-checked c = λ _.
    let opening = c.args.catalog.now in
    let was = c.self.inside in
    let a = c.in_ok-rows.rows in
    let b = c.in_ok-pending.pending in
    subst (λ (whole : Bool). IsTrue whole ↔ IsWhole opening c.args.self.now.held) (sym c.both_hold.ensures)
    (subst (λ (store : InMemory). IsTrue (a && b) ↔ IsWhole opening store.held) c.self.view_is
    (whole_is c.decoding.ensures.in_order opening was.shelves.rows was.shelves.pending was.slots.entries was.log.items c.decoding.ensures.one c.tables.ensures.tables c.self.invariant.names c.in-Some.present a b
    (rw c.in-Some.is at c.in_ok-present.ensures)
    (subst (λ (t : List TableDef). IsTrue a ↔ ((place : StorePlace) (body : List ℕ) → get was.shelves.rows place ≡ Some body → AtTable StoresRow t place body)) c.catalog-catalog.ensures c.in_ok-rows.ensures)
    (subst (λ (t : List TableDef). IsTrue b ↔ ((place : StorePlace) (body : List ℕ) → get was.shelves.pending place ≡ Some body → AtTable StoresChange t place body)) c.catalog-catalog.ensures c.in_ok-pending.ensures)))
