-- A world in memory, and the names of its tables.
use Rattle.std.proofs.Common.{◌≡◌, ◌∙◌, ℕ, zero, suc, Bool, true, false, List, [], ◌∷◌, if◌then◌else◌, map, take, length, refl, ap, sym, subst}
use Rattle.std.specs.Prelude.{Some, slice_get}
use Rattle.std.specs.Str.{bytes_eq}
use Rattle.cs_map_store.specs.Slots.{InMemory, in_map_store}
use Rattle.cs_normal.specs.State.{State}
use Rattle.cs_pending.specs.rows.Rows.{AreRowsOf}
use Rattle.cs_store.specs.declared.log.body.Body.{Body}
use Rattle.cs_store.specs.declared.log.body.Body.TheVariants.{Changes, Widen}
use Rattle.cs_store.specs.declared.log.entry.LogEntry.{LogEntry}
use Rattle.cs_store.specs.declared.log.entry.TheConstants.{MAX_ENTRIES}
use Rattle.cs_store.specs.log.Log.{catalog_after, catalog_at, catalog_next, catalog_of, state_of}
use Rattle.cs_value.specs.declared.catalog.TableDef.{TableDef}
use Rattle.cs_value.specs.declared.value.Value.{Value}
use Rattle.cs_widening.specs.Widening.{up_to, widened_table}
use Rattle.cs_world.specs.Holding.{AreHonest, Holding}
use Rattle.cs_world.specs.Reads.{AreRowsIn}
use Rattle.cs_world.specs.Sound.{IsSound}
use Rattle.cs_world.specs.World.{IsMember, Member, World}

-- memory is honest
pub all_honest : (held : Holding InMemory) → AreHonest in_map_store held
all_honest held = record { hub = tt; replicas = λ r one e. tt }

-- ---- a table keeps its place and its name where it gets more columns

either_name : (test : Bool) (wide table : TableDef) → wide.name ≡ table.name → (if test then wide else table).name ≡ table.name
either_name true wide table same = same
either_name false wide table same = refl

-- the table at this place is named so
abbrev IsNamedAt : List TableDef → ℕ → List ℕ → Type 0
IsNamedAt tables at name = (def : TableDef) × (slice_get tables at ≡ Some def) × (def.name ≡ name)

named_wide : (name : List ℕ) (width : ℕ) (tables : List TableDef) (at : ℕ) (table : TableDef) → slice_get tables at ≡ Some table
    → IsNamedAt (map (widened_table name width) tables) at table.name
named_wide name width [] at table there = absurd (cc)
named_wide name width (first ∷ tables) zero table there =
    let same : first ≡ table = cc in (
      widened_table name width first,
      refl,
      either_name (bytes_eq first.name name) (record first { key_marks = up_to width false first.key_marks }) first refl ∙ ap (λ (t : TableDef). t.name) same,
    )
named_wide name width (first ∷ tables) (suc at) table there = named_wide name width tables at table there

named_after : (tables : List TableDef) (body : Body) (at : ℕ) (table : TableDef) → slice_get tables at ≡ Some table → IsNamedAt (catalog_after tables body) at table.name
named_after tables (Changes changes) at table there = (table, there, refl)
named_after tables (Widen name width) at table there = named_wide name width tables at table there

named_of : (log : List LogEntry) (tables : List TableDef) (at : ℕ) (table : TableDef) → slice_get tables at ≡ Some table → IsNamedAt (catalog_of tables log) at table.name
named_of [] tables at table there = (table, there, refl)
named_of (entry ∷ log) tables at table there =
    let one = named_after tables entry.body at table there in
    let more = named_of log (catalog_next tables entry) at one.0 one.1 in
    (more.0, more.1, more.2 ∙ one.2)

-- so the rows at a place are those of the name that the hub opened with
rows_named : (opening : List TableDef) (log : List LogEntry) (version : ℕ) (state : State) (at : ℕ) (rows : List (List ℕ × List Value))
    → AreRowsIn (catalog_at opening log version) state at rows
    → (def : TableDef) → slice_get opening at ≡ Some def → AreRowsOf (state def.name) rows
rows_named opening log version state at rows are def there =
    let now = named_of (take version log) opening at def there in
    subst (λ (n : List ℕ). AreRowsOf (state n) rows) now.2 (are.there now.0 now.1)

-- the rows of a replica of a sound world, and those of its hub
pub replica_rows : (world : World) (member : Member) (r : ℕ) (state : State) (at : ℕ) (rows : List (List ℕ × List Value)) → IsSound MAX_ENTRIES world → IsMember world r member
    → state ≡ member.view.tables → AreRowsIn member.tables member.view.tables at rows
    → (def : TableDef) → slice_get world.tables at ≡ Some def → AreRowsOf (state def.name) rows
replica_rows world member r state at rows sound is same are def there =
    let own = subst (λ (ts : List TableDef). AreRowsIn ts member.view.tables at rows) (sound.placed r member is).tables are in
    subst (λ (s : State). AreRowsOf (s def.name) rows) (sym same) (rows_named world.tables world.log member.position.version member.view.tables at rows own def there)

pub newest_rows : (world : World) (state : State) (at : ℕ) (rows : List (List ℕ × List Value)) → state ≡ state_of world.log
    → AreRowsIn (catalog_at world.tables world.log (length world.log)) (state_of world.log) at rows
    → (def : TableDef) → slice_get world.tables at ≡ Some def → AreRowsOf (state def.name) rows
newest_rows world state at rows same are def there =
    subst (λ (s : State). AreRowsOf (s def.name) rows) (sym same) (rows_named world.tables world.log (length world.log) (state_of world.log) at rows are def there)
