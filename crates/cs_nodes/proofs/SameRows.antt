-- Nodes that meet show the same rows.
use Rattle.std.proofs.Common.{◌≡◌, ◌≤◌, ℕ, List, length, min, take, sym, ap, subst, ◌∙◌, arith}
use Rattle.std.proofs.lemmas.List.{take-take}
use Rattle.std.specs.Prelude.{Contains}
use Rattle.cs_value.specs.declared.catalog.TableDef.{TableDef}
use Rattle.cs_store.specs.log.Log.{catalog_at, catalog_of}
use Rattle.cs_store.specs.declared.log.entry.LogEntry.{LogEntry}
use Rattle.cs_store.specs.Contents.{Contents}
use Rattle.cs_pending.specs.View.{View}
use Rattle.cs_pending.specs.position.Shows.{ShowsAt}
use Rattle.cs_pending.specs.declared.position.position.Position.{Position}
use Rattle.cs_exchange.specs.taking.Laws.{OneLogRows}
use Rattle.cs_nodes.specs.following.Laws.{EqualWhereMet}
use Rattle.cs_nodes.specs.following.Pushes.{IsAtRest}
use Rattle.cs_nodes.specs.following.Standing.{StandsIn}

-- `first` and `second` are what each is known to show, where it stands on what its pass knows
pub same_rows : EqualWhereMet → OneLogRows → (tables others : List TableDef) → tables ≡ others → (known more : List LogEntry) (both : ℕ) (contents held : Contents) (position other : Position) (view first seen second : View)
    → take both known ≡ take both more → both ≡ min (length known) (length more) → position.version ≤ length known → other.version ≤ length more → position.version ≡ other.version
    → IsAtRest position → IsAtRest other
    → ShowsAt tables contents position view → ShowsAt tables contents position first → StandsIn tables known position first
    → ShowsAt others held other seen → ShowsAt others held other second → StandsIn others more other second
    → (table : TableDef) (key : List ℕ) → Contains tables table → view.tables table.name key ≡ seen.tables table.name key
same_rows law one tables others same known more both contents held position other view first seen second alike shorter within along version rest stays shows firsts stands sees seconds stood table key inside =
    let sees' = subst (λ (t : List TableDef). ShowsAt t held other seen) (sym same) sees in
    let seconds' = subst (λ (t : List TableDef). ShowsAt t held other second) (sym same) seconds in
    let stood' = subst (λ (t : List TableDef). StandsIn t more other second) (sym same) stood in
    let less : position.version ≤ both = omega (arith, shorter, within, along, version) in
    sym ((one tables contents position view first shows firsts).1 table.name key)
    ∙ law tables known more both contents held position other first second alike less version rest stays firsts seconds' stands stood' table key inside
    ∙ sym ((one tables held other second seen seconds' sees').1 table.name key)

-- and those that began with the same tables have the same
pub same_tables : (opening tables others : List TableDef) (known more : List LogEntry) (both version other : ℕ)
    → take both known ≡ take both more → both ≡ min (length known) (length more) → version ≤ length known → other ≤ length more → version ≡ other
    → tables ≡ catalog_at opening known version → others ≡ catalog_at opening more other → tables ≡ others
same_tables opening tables others known more both version other alike shorter within along same is are =
    let less : version ≤ both = omega (arith, shorter, within, along, same) in
    is ∙ ap (λ (l : List LogEntry). catalog_of opening l)
    (sym (take-take version both known less) ∙ ap (λ (l : List LogEntry). take version l) alike ∙ take-take version both more less)
    ∙ ap (λ (n : ℕ). catalog_at opening more n) same ∙ sym are
