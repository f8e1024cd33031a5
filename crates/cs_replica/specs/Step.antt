-- What a call makes of a replica as it is shown: where it stands, its rows and its pending changes (profile of this project).
use Rattle.std.specs.Prelude.{◌≡◌, ◌⊎◌, ◌≤◌, ℕ, List, [], Some, Result, Ok, Err, IsSome, length, slice_get}
use Rattle.cs_conflict.specs.declared.clash.Clash.{Clash}
use Rattle.cs_conflict.specs.declared.wish.Wish.{Wish}
use Rattle.cs_normal.specs.State.{State}
use Rattle.cs_normal.specs.declared.normal.TableChanges.{TableChanges}
use Rattle.cs_pending.specs.EditLists.{AreEdited, IsEditsFault, asked_of_edit, table_of_edit}
use Rattle.cs_pending.specs.Edits.{IsOfStore, Leads, edit as edited_view}
use Rattle.cs_pending.specs.View.{View}
use Rattle.cs_pending.specs.declared.fault.EditFault.{EditFault}
use Rattle.cs_pending.specs.declared.fault.EditsFault.{EditsFault}
use Rattle.cs_pending.specs.position.Laws.{FitsPosition}
use Rattle.cs_pending.specs.position.Shows.{ShowsAt, flown}
use Rattle.cs_pending.specs.declared.position.position.Position.{Position}
use Rattle.cs_exchange.specs.declared.pulling.fault.AnswerFault.{AnswerFault}
use Rattle.cs_exchange.specs.pushing.Pushes.{IsPushFault, IsPushMade, IsResendFault, grounded, pushed, request_of}
use Rattle.cs_exchange.specs.declared.pushing.fault.PushFault.{PushFault}
use Rattle.cs_replica.specs.Answered.{Answers}
use Rattle.cs_replica.specs.Edited.{IsEditedIn, IsSteppedIn, with_pending}
use Rattle.cs_replica.specs.Holding.{Holding, Shows}
use Rattle.cs_replica.specs.declared.told.Told.{Told}
use Rattle.cs_pending.specs.rows.Rows.{AreRowsOf}
use Rattle.cs_store.specs.Contents.{Contents}
use Rattle.cs_store.specs.declared.store.RowStore.{Ghosts}
use Rattle.cs_value.specs.Catalog.{AreTables}
use Rattle.cs_value.specs.declared.catalog.TableDef.{TableDef}
use Rattle.cs_value.specs.declared.edit.Edit.{Edit}
use Rattle.cs_value.specs.declared.value.Value.{Value}
use Rattle.cs_wire.specs.Requests.{Asked, asked_by_owned}
use Rattle.cs_wire.specs.declared.answer.Answer.{Answer}
use Rattle.cs_wire.specs.declared.request.RequestBuf.{RequestBuf}
use Rattle.cs_conflict.specs.wish_list.Wished.{IsWished}

-- a replica: its tables, where it stands, and its rows and pending changes
pub record Member : Type 0 where
  pub tables : List TableDef
  pub position : Position
  pub view : View

-- the replica, where its store shows these rows and pending changes
abbrev pub member_of : {S : Type 0} → Holding S → View → Member
member_of held view = record { tables = held.catalog; position = held.position; view = view }

-- where its store is honest, what it showed has made this step. The numbers of where it stands stay in range
pub record Turns {S : Type 0} (g : Ghosts S) (step : Member → Member → Type 0) (old new : Holding S) : Type 0 where
  pub was_honest : g.honest new.store → g.honest old.store
  pub turned : g.honest new.store → AreTables old.catalog → FitsPosition old.position → (view : View) → Shows g.contents old view
      → (next : View) × Shows g.contents new next × FitsPosition new.position × step (member_of old view) (member_of new next)

-- ---- an edit

-- the view made a step, and so many changes are pending then; or not, and this is why
abbrev pub StepsTo : {E : Type 0} → (View → View → Type 0) → (E → View → Type 0) → Result (Unit {0}) E → Member → Member → Type 0
StepsTo step refused (Ok done) before after =
    (count : ℕ) × (next : View) × (left : Contents) × (after ≡ record before { position = with_pending before.position count; view = next })
    × step before.view next × ShowsAt before.tables left (with_pending before.position count) next
StepsTo step refused (Err fault) before after = (after ≡ before) × refused fault before.view

-- contents in which an edit is made, at a position
abbrev pub IsEditedBy : List TableDef → Edit → Position → Contents → Contents → Type 0
IsEditedBy tables asked position now left = IsEditedIn tables position (table_of_edit asked) (asked_of_edit asked) now left

-- why it isn't
abbrev pub IsEditFault : List TableDef → Edit → EditFault → View → Type 0
IsEditFault tables asked fault view = IsOfStore fault ⊎ (edited_view tables (table_of_edit asked) (asked_of_edit asked) view ≡ Err fault)

abbrev pub IsEditedTo : Edit → Result (Unit {0}) EditFault → Member → Member → Type 0
IsEditedTo asked result before after =
    StepsTo (Leads (edited_view before.tables (table_of_edit asked) (asked_of_edit asked))) (IsEditFault before.tables asked) result before after

-- the same of several, one behind another
abbrev pub AreEditedBy : List TableDef → List Edit → Position → Contents → Contents → Type 0
AreEditedBy tables edits position now left = IsSteppedIn tables position (AreEdited tables edits) now left

abbrev pub AreEditedTo : List Edit → Result (Unit {0}) EditsFault → Member → Member → Type 0
AreEditedTo edits result before after =
    StepsTo (AreEdited before.tables edits) (λ fault view. IsEditsFault before.tables edits view fault) result before after

-- ---- a push

-- what was pending is under way, and this is asked for it; or not, and this is why
abbrev pub IsPushAsked : Result Asked PushFault → Member → Member → Type 0
IsPushAsked (Ok asked) before after =
    (changes : List TableChanges) × (left : Contents)
    × (after ≡ record before { position = pushed before.position changes; view = grounded before.view })
    × IsPushMade before.tables before.position before.view left changes × (asked ≡ request_of (pushed before.position changes) changes)
IsPushAsked (Err fault) before after = (after ≡ before) × IsPushFault fault before.tables before.position before.view

-- the push under way is asked for once more; or there is none, and this is why
abbrev pub IsAskedAgain : Result Asked PushFault → Position → Type 0
IsAskedAgain (Ok asked) position = IsSome position.flight × (asked ≡ request_of position (flown position.flight))
IsAskedAgain (Err fault) position = IsResendFault fault position

-- what a result asks
abbrev pub asked_in : Result RequestBuf PushFault → Result Asked PushFault
asked_in (Ok request) = Ok (asked_by_owned request)
asked_in (Err fault) = Err fault

-- the same of the request that a call gives
abbrev pub IsPushedTo : Result RequestBuf PushFault → Member → Member → Type 0
IsPushedTo result before after = IsPushAsked (asked_in result) before after

abbrev pub IsResent : Result RequestBuf PushFault → Position → Type 0
IsResent result position = IsAskedAgain (asked_in result) position

-- ---- an answer

-- the hub's answer was taken by a picker: what it makes of the replica, and what is told of that
pub record IsAnsweredTo {P : Type 0} (picks : P → Clash → Wish → P → Type 0) (answer : Answer) (p : P) (result : Result Told AnswerFault) (before after : Member) : Type 0 where
  pub left : Contents
  pub unused : P
  pub answers : Answers picks before.tables answer result before.position before.view p after.tables after.position left unused
  pub shows : ShowsAt after.tables left after.position after.view

-- and by these wishes
abbrev pub Hears : Member → Answer → List Wish → Result Told AnswerFault → Member → Type 0
Hears before answer wishes result after = IsAnsweredTo IsWished answer wishes result before after

-- ---- rows

-- these are the rows of the table with this number, each behind the bytes of its key; none past the last table
pub record AreRowsIn (tables : List TableDef) (state : State) (table : ℕ) (rows : List (List ℕ × List Value)) : Type 0 where
  pub there : (def : TableDef) → slice_get tables table ≡ Some def → AreRowsOf (state def.name) rows
  pub past : length tables ≤ table → rows ≡ []
