-- What stands at a place, and stood there before what is pending.
use Rattle.std.specs.Prelude.{◌≡◌, ℕ, Bool, List, Option, Some, None, option_map, IfSome}
use Rattle.std.specs.Borrow.{Bor}
use Rattle.cs_value.specs.Key.{Place}
use Rattle.cs_value.specs.declared.catalog.TableDef.{TableDef}
use Rattle.cs_change.specs.Spelling.{change_spelling, FitsChange}
use Rattle.cs_change.specs.declared.change.Change.{Change}
use Rattle.cs_store.specs.Contents.{Contents}
use Rattle.cs_store.specs.States.{IsStored}
use Rattle.cs_pending.specs.View.{View, middle}
use Rattle.cs_pending.specs.Shows.{ShowsRows}
use Rattle.cs_pending.specs.declared.placing.Found.{Found}
use Rattle.cs_pending.specs.declared.placing.Standing.{Standing}

-- the bytes of a row with so many columns, or none
abbrev pub StoresSome : ℕ → Option (List ℕ) → Type 0
StoresSome columns stored = (row : Place) × IsStored columns stored row

-- the bytes of a change that its reader takes, or none
abbrev pub StoresSomeChange : List Bool → Option (List ℕ) → Type 0
StoresSomeChange marks stored =
    (change : Option Change) × (stored ≡ option_map change_spelling change) × IfSome change (FitsChange marks)

-- the body or none that was found there, or what stood there before
abbrev pub body_found : Option (Option (Bor (List ℕ))) → Option (List ℕ) → Option (List ℕ)
body_found None stood = stood
body_found (Some body) stood = option_map (λ b. b.now) body

-- of a view
pub record StandsIn (view : View) (table : TableDef) (key : List ℕ) (standing : Standing) : Type 0 where
  pub mine_is : standing.mine ≡ view.tables table.name key
  pub base_is : standing.base ≡ middle view table.name key

-- of the view that contents show
abbrev pub IsStandingAt : List TableDef → Contents → TableDef → List ℕ → Standing → Type 0
IsStandingAt tables contents table key standing =
    (view : View) → ShowsRows tables contents view → StandsIn view table key standing

-- ---- as it is found

-- what stood before: where nothing is pending, what stands there now
abbrev pub base_found : Place → Option Place → Place
base_found mine None = mine
base_found mine (Some base) = base

abbrev pub standing_of : Place → Place → Standing
standing_of mine base = record {
  mine = mine;
  base = base;
}

abbrev pub standing_found : Found → Standing
standing_found found = standing_of found.mine (base_found found.mine found.undone)
