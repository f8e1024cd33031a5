-- What the code holds on its way: no definition that a public clause cites.
use Rattle.std.specs.Prelude.{◌≡◌, ◌≢◌, ◌⊎◌, ℕ, Bool, true, false, is_some, List, [], ◌∷◌, ◌++◌, map, Option, Some, None, Contains}
use Rattle.std.specs.FinMap.{len}
use Rattle.std.specs.List.{AllByRecursion}
use Rattle.cs_value.specs.Key.{Place}
use Rattle.cs_value.specs.declared.catalog.TableDef.{TableDef}
use Rattle.cs_change.specs.Action.{action, after}
use Rattle.cs_normal.specs.keyed.Changes.{IsEntry}
use Rattle.cs_normal.specs.Normal.{change_of}
use Rattle.cs_normal.specs.State.{State, AreSame, IsStateOf}
use Rattle.cs_normal.specs.declared.normal.TableChanges.{TableChanges}
use Rattle.cs_conflict.specs.Conflict.{kind, answered}
use Rattle.cs_conflict.specs.Wishes.{IsLawfulWish, resolution_of}
use Rattle.cs_conflict.specs.declared.clash.Clash.{Clash}
use Rattle.cs_conflict.specs.declared.wish.Wish.{Wish}
use Rattle.cs_conflict.specs.declared.wish.Wish.TheVariants.{Stop}
use Rattle.cs_apply.specs.NormalTasks.{AreElsewhere, HaveOwnPlaces}
use Rattle.cs_tasks.specs.Tasks.{Task}
use Rattle.cs_store.specs.Contents.{Contents}
use Rattle.cs_store.specs.declared.batch.Batch.{Batch}
use Rattle.cs_store.specs.declared.names.MetaName.TheVariants.{Catalog, Flight, Version}
use Rattle.cs_wire.specs.Numbers.{eight_bytes}
use Rattle.cs_pending.specs.Settling.{IsWithin, Settles}
use Rattle.cs_pending.specs.View.{View, direct_net, middle}
use Rattle.cs_pending.specs.declared.settling.Settling.{Settling}
use Rattle.cs_pending.specs.position.Shows.{ShowsAt, base, flown}
use Rattle.cs_pending.specs.position.Values.{ValuePart, catalog_bytes, value_part}
use Rattle.cs_pending.specs.declared.position.position.Position.{Position}
use Rattle.cs_exchange.specs.taking.Takes.{IsClashOf, TakeAll, brought}
use Rattle.cs_exchange.specs.declared.taking.site.Site.{Site}
use Rattle.cs_padding.specs.Pending.{widened_view}
use Rattle.cs_widening.specs.Widening.{widened_tables}
pub use Rattle.cs_apply.specs.placement.Places.{ArePlaced, IsPlaced, task_of}

-- ---- what is pending at a place

-- at a place of a table, what is pending is the net change from the row before it to the own one, not indirect
abbrev pub IsDirectAt : List TableDef → View → List ℕ → List ℕ → Type 0
IsDirectAt tables view name key =
    (table : TableDef) → Contains tables table → table.name ≡ name
    → view.pending name key ≡ direct_net table (middle view name key) (view.tables name key)

-- the place has the row and the pending change that it had
pub record IsStill (view end : View) (name key : List ℕ) : Type 0 where
  pub row : end.tables name key ≡ view.tables name key
  pub pending : end.pending name key ≡ view.pending name key

-- ---- what is under way becomes pending

-- at the places to come stands what stood there
pub record IsFoldReady (tables : List TableDef) (flight : Option (List TableChanges)) (seen : View) (ts : List Task) (view : View) : Type 0 where
  pub log : IsStateOf tables (base flight seen)
  pub own : IsStateOf tables seen.tables
  pub same : AreSame seen.tables view.tables
  pub apart : HaveOwnPlaces ts
  pub stand : AllByRecursion (λ (t : Task). middle view t.name t.key ≡ middle seen t.name t.key) ts

-- the rows are what they were, and at these places what is pending leads from the log's rows
pub record IsFolded (tables : List TableDef) (flight : Option (List TableChanges)) (seen : View) (ts : List Task) (view end : View) : Type 0 where
  pub same : AreSame seen.tables end.tables
  pub there : AllByRecursion (λ (t : Task). middle end t.name t.key ≡ base flight seen t.name t.key) ts
  pub direct : AllByRecursion (λ (t : Task). IsDirectAt tables end t.name t.key) ts
  pub elsewhere : (name key : List ℕ) → AreElsewhere (name, key) ts → IsStill view end name key

-- the same of all that is under way: what is pending leads from the log's rows everywhere
pub record IsFlightFolded (tables : List TableDef) (flight : Option (List TableChanges)) (seen end : View) : Type 0 where
  pub same : AreSame seen.tables end.tables
  pub log : AreSame (base flight seen) (middle end)
  pub direct : (name key : List ℕ) → is_some (change_of name key (flown flight)) ≡ true → IsDirectAt tables end name key
  pub still : (name key : List ℕ) → is_some (change_of name key (flown flight)) ≡ false → IsStill seen end name key

-- ---- the places of the entry

abbrev pub site_task : Site → Task
site_task site = task_of site.at

abbrev pub AreSitesPlaced : List TableDef → List Site → Type 0
AreSitesPlaced tables sites = AllByRecursion (λ (site : Site). IsPlaced tables site.at) sites

-- the log's row and the own one stand there
pub record IsOn (log own : State) (site : Site) : Type 0 where
  pub log_is : site.before.base ≡ log site.at.table.now.name site.at.key.now
  pub own_is : site.before.mine ≡ own site.at.table.now.name site.at.key.now

abbrev pub AreOn : State → State → List Site → Type 0
AreOn log own sites = AllByRecursion (IsOn log own) sites

-- a change isn't defined on the log's row
unfoldable pub HasBad : State → List Task → Type 0
HasBad log [] = ⊥
HasBad log (t ∷ ts) = (after (action t.change) (log t.name t.key) ≡ None) ⊎ HasBad log ts

-- all changes are defined, or one isn't
abbrev pub IsSurveyed : Bool → Type 0 → Type 0 → Type 0
IsSurveyed true good bad = good
IsSurveyed false good bad = bad

-- where something is found, this is said of it; else that
abbrev pub IsFound : {A : Type 0} → Option A → (A → Type 0) → Type 0 → Type 0
IsFound None good bad = bad
IsFound (Some found) good bad = good found

-- ---- one place of the entry

-- the picker was shown the clash of the change, and this was its lawful wish
abbrev pub IsAsked : {P : Type 0} → (P → Clash → Wish → P → Type 0) → Task → Place → Place → P → Wish → P → Type 0
IsAsked picks task log own p wish q =
    (clash : Clash) × IsClashOf task log own clash × picks p clash wish q
    × IsLawfulWish wish clash.conflict.kind clash.covers

-- what the change leaves of the own row: it is made where it doesn't conflict, and else as the picker wishes
abbrev pub LeavesOwn : {P : Type 0} → (P → Clash → Wish → P → Type 0) → Task → Place → Place → P → Place → P → Type 0
LeavesOwn picks task log own p merged q =
    ((kind (action task.change) own ≡ None) × (after (action task.change) own ≡ Some merged) × (q ≡ p))
    ⊎ ((wish : Wish) × (wish ≢ Stop) × IsAsked picks task log own p wish q
    × (answered (resolution_of wish) (action task.change) own ≡ Some merged))

-- the places of the entry may be merged: each has its row here and on the log, and stands as it stood
pub record IsReady (tables : List TableDef) (log own : State) (sites : List Site) (view : View) : Type 0 where
  pub placed : AreSitesPlaced tables sites
  pub on : AreOn log own sites
  pub apart : HaveOwnPlaces (map site_task sites)
  pub entries : AllByRecursion (λ (t : Task). IsEntry t.marks (t.key, t.change)) (map site_task sites)
  pub log_state : IsStateOf tables log
  pub own_state : IsStateOf tables own
  pub stand : AllByRecursion (λ (t : Task). (view.tables t.name t.key ≡ own t.name t.key) × (middle view t.name t.key ≡ log t.name t.key)) (map site_task sites)

-- they were merged
pub record IsDecided {P : Type 0} (picks : P → Clash → Wish → P → Type 0) (tables : List TableDef) (log own : State) (ts : List Task) (view : View) (p : P) (end : View) (q : P) : Type 0 where
  pub takes : TakeAll picks log own (middle end) end.tables ts p q
  pub theirs : AllByRecursion (λ (t : Task). after (action t.change) (log t.name t.key) ≡ Some (middle end t.name t.key)) ts
  pub direct : AllByRecursion (λ (t : Task). IsDirectAt tables end t.name t.key) ts
  pub elsewhere : (name key : List ℕ) → AreElsewhere (name, key) ts → IsStill view end name key

-- ---- the commit

-- the values where a version is the next and nothing is under way
abbrev pub next_values : ℕ → List ValuePart
next_values version = (Version, Some (eight_bytes version)) ∷ (Flight, None) ∷ []

-- the gathered edits of places and these values are written, and no log
pub record WritesAll (settling : Settling) (edits : List ValuePart) (batch : Batch) : Type 0 where
  pub rows : batch.rows ≡ settling.rows
  pub pending : batch.pending ≡ settling.pending
  pub values : map value_part batch.meta.items ≡ edits
  pub log : batch.log ≡ None

-- where the gathered edits lead to a view, the contents show it at this version
abbrev pub IsCommitted : List TableDef → Position → ℕ → Settling → Contents → Contents → Type 0
IsCommitted tables position next settling old new =
    (seen end : View) → ShowsAt tables old position seen → Settles tables old position.pending settling end
    → ShowsAt tables new (brought position next (len new.pending)) end × (settling.count ≡ len new.pending)

-- ---- a table that gets more columns

-- the edits lead to the view in which what was under way is pending, with the new columns
abbrev pub IsWideSettling : List TableDef → Position → List ℕ → ℕ → Contents → View → Settling → Type 0
IsWideSettling tables position name width contents seen settling =
    (folded : View) × IsFlightFolded tables position.flight seen folded
    × IsWithin (widened_tables name width tables) settling
    × Settles (widened_tables name width tables) contents position.pending settling (widened_view name width folded)

-- the values where a version is the next, nothing is under way, and these are the tables
abbrev pub wider_values : ℕ → List TableDef → List ValuePart
wider_values version tables = next_values version ++ (Catalog, Some (catalog_bytes tables)) ∷ []

-- where the gathered edits lead to a view by other tables, the contents show it by them at this version
abbrev pub IsCommittedWider : List TableDef → List TableDef → Position → ℕ → Settling → Contents → Contents → Type 0
IsCommittedWider tables others position next settling old new =
    (seen end : View) → ShowsAt tables old position seen → IsWithin others settling → Settles others old position.pending settling end
    → ShowsAt others new (brought position next (len new.pending)) end × (settling.count ≡ len new.pending)
