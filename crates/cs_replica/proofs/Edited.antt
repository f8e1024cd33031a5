-- From an edit of rows to what it makes of a replica.
use Rattle.std.proofs.Common.{◌≡◌, ℕ, List, [], ◌∷◌, refl, sym, ap, subst, ◌∙◌}
use Rattle.std.specs.FinMap.{get, len}
use Rattle.cs_value.specs.Catalog.{AreTables}
use Rattle.cs_value.specs.Key.{Place}
use Rattle.cs_value.specs.declared.catalog.TableDef.{TableDef}
use Rattle.cs_value.specs.declared.edit.Edit.{Edit}
use Rattle.cs_change.specs.Action.{action_any}
use Rattle.cs_change.specs.Net.{net}
use Rattle.cs_normal.specs.State.{AreSame, IsStateOf, MayStandAt, State}
use Rattle.cs_store.specs.Contents.{Contents, Log, Meta, name_text}
use Rattle.cs_store.specs.declared.names.MetaName.{MetaName}
use Rattle.cs_store.specs.declared.names.MetaName.TheVariants.{Id, Version, Number, Flight, Pending, Catalog}
use Rattle.cs_pending.specs.EditLists.{AreEdited, asked_of_edit, table_of_edit}
use Rattle.cs_pending.specs.Edits.{Asked, IsChangedBy, Leads, edit}
use Rattle.cs_pending.specs.Laws.{EditKeepsBefore}
use Rattle.cs_pending.specs.Shows.{IsSoundOf}
use Rattle.cs_pending.specs.View.{Changed, View, middle, undo}
use Rattle.cs_pending.specs.position.Values.{value_of}
use Rattle.cs_pending.specs.declared.position.position.Position.{Position}
use Rattle.cs_replica.specs.Edited.{IsSteppedIn, with_pending}

-- changes that are sound on rows are sound on the same rows
pub sound_same : (tables : List TableDef) (changed : Changed) (some other : State) → AreSame some other → IsSoundOf tables changed some → IsSoundOf tables changed other
sound_same tables changed some other same sound = record {
  before_state = λ n k. subst (λ (p : Place). MayStandAt tables n k (undo (action_any (changed n k)) p)) (sym (same n k)) (sound.before_state n k);
  after_state = λ n k. subst (λ (p : Place). MayStandAt tables n k p) (sym (same n k)) (sound.after_state n k);
  net_of = λ t k among. sound.net_of t k among ∙ ap (λ (p : Place). net t.key_marks (undo (action_any (changed t.name k)) p) p) (sym (same t.name k));
}

same_values : (tables : List TableDef) (position : Position) (pending : ℕ) (name : MetaName) → value_of tables position name ≡ value_of tables (with_pending position pending) name
same_values tables position pending Id = refl
same_values tables position pending Version = refl
same_values tables position pending Number = refl
same_values tables position pending Flight = refl
same_values tables position pending Pending = refl
same_values tables position pending Catalog = refl

-- a step of the rows that keeps those before what is pending
abbrev KeepsBefore : List TableDef → (View → View → Type 0) → Type 0
KeepsBefore tables step = (view next : View) → IsSoundOf tables view.pending view.tables → IsStateOf tables next.tables → step view next → AreSame (middle view) (middle next)

pub edit_keeps : EditKeepsBefore → (tables : List TableDef) → AreTables tables → (name : List ℕ) (asked : Asked) → KeepsBefore tables (Leads (edit tables name asked))
edit_keeps keeps tables are name asked view next sound state made = keeps tables name asked view next are sound state made

pub edits_keep : EditKeepsBefore → (tables : List TableDef) → AreTables tables → (edits : List Edit) → KeepsBefore tables (AreEdited tables edits)
edits_keep keeps tables are [] view next sound state is = subst (λ (v : View). AreSame (middle view) (middle v)) (sym is) (λ n k. refl)
edits_keep keeps tables are (asked ∷ edits) view end sound state (next, made, held, others) = λ n k.
    edits_keep keeps tables are edits next end held state others n k
    ∙ keeps tables (table_of_edit asked) (asked_of_edit asked) view next are sound held.after_state made n k

pub is_stepped : (tables : List TableDef) (step : View → View → Type 0) → KeepsBefore tables step → (position : Position) (old new : Contents)
    → IsChangedBy tables step old new → IsSteppedIn tables position step old new
is_stepped tables step keeps position old new (rest, changed) view shows =
    let done = changed view shows.rows in (
      done.0,
      done.1,
      record {
        rows = done.2;
        values = λ n. ap (λ (m : Meta). get m (name_text n)) rest.meta ∙ shows.values n ∙ same_values tables position (len new.pending) n;
        alone = record {
          rows = λ place elsewhere. rest.rows place elsewhere ∙ shows.alone.rows place elsewhere;
          pending = λ place elsewhere. rest.pending place elsewhere ∙ shows.alone.pending place elsewhere;
          log = ap (λ (l : Log). len l) rest.log ∙ shows.alone.log;
          names = λ text value at. shows.alone.names text value (ap (λ (m : Meta). get m text) (sym rest.meta) ∙ at);
        };
        under_way = record {
          fits = shows.under_way.fits;
          normal = shows.under_way.normal;
          size = shows.under_way.size;
          sound = sound_same tables _ _ _ (keeps view done.0 shows.rows.sound done.2.rows.rows done.1) shows.under_way.sound;
        };
        counted = refl;
        numbered = shows.numbered;
      },
    )
