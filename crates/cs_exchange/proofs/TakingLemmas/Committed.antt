-- What the commit of a taken entry leaves of what a store shows.
use Rattle.std.proofs.Common.{◌≡◌, ℕ, Bool, not, cond, List, [], ◌∷◌, Option, None, fold, map, refl, sym, ap, subst, ◌∙◌, arith}
use Rattle.std.specs.FinMap.{len}
use Rattle.cs_change.specs.Net.{net}
use Rattle.cs_normal.specs.State.{IsStateOf, MayStandAt, State}
use Rattle.cs_order.specs.Order.{same_bytes}
use Rattle.cs_pending.specs.Nets.{net_there, undo_none}
use Rattle.cs_pending.specs.Settling.{AreWithin, IsWithin}
use Rattle.cs_pending.specs.Shows.{IsSoundOf}
use Rattle.cs_pending.specs.Steps.{none_left, shows_after}
use Rattle.cs_pending.specs.View.{View, middle}
use Rattle.cs_pending.specs.declared.settling.Settling.{Settling}
use Rattle.cs_pending.specs.position.Laws.{CommitShows}
use Rattle.cs_pending.specs.position.Shows.{IsUnderWay, changes_at}
use Rattle.cs_pending.specs.position.Values.{value_of, ValuePart, value_part}
use Rattle.cs_pending.specs.declared.position.position.Position.{Position}
use Rattle.cs_store.specs.Contents.{Contents, name_text}
use Rattle.cs_store.specs.Laws.{WritesPending, WritesRows, value_after}
use Rattle.cs_store.specs.Written.{after_batch, edit_body, optional_bytes}
use Rattle.cs_store.specs.declared.batch.Batch.{Batch}
use Rattle.cs_store.specs.declared.batch.MetaEdit.{MetaEdit}
use Rattle.cs_store.specs.edits.Edits.{BodyEdit}
use Rattle.cs_store.specs.declared.names.MetaName.{MetaName}
use Rattle.cs_store.specs.declared.names.MetaName.TheVariants.{Id, Version, Number, Flight, Pending, Catalog}
use Rattle.cs_exchange.specs.taking.Steps.{IsCommitted, WritesAll, next_values}
use Rattle.cs_exchange.specs.taking.Takes.{brought}
use Rattle.cs_value.specs.Facts.{same_place-Decides}
use Rattle.cs_value.specs.Key.{Place}
use Rattle.cs_value.specs.declared.catalog.TableDef.{TableDef}

-- ---- values, by the parts of their edits

abbrev pub parts_after : List ValuePart → MetaName → Option (List ℕ) → Option (List ℕ)
parts_after [] name value = value
parts_after (part ∷ parts) name value = parts_after parts name (cond (same_bytes (name_text name) (name_text part.0)) part.1 value)

pub by_parts : (edits : List MetaEdit) (name : MetaName) (value : Option (List ℕ)) → value_after edits name value ≡ parts_after (map value_part edits) name value
by_parts [] name value = refl
by_parts (edit ∷ edits) name value = by_parts edits name (cond (same_bytes (name_text name) (name_text edit.name)) (optional_bytes edit.value) value)

next_value : (tables : List TableDef) (old : Position) (next pending : ℕ) (name : MetaName) → parts_after (next_values next) name (value_of tables old name) ≡ value_of tables (brought old next pending) name
next_value tables old next pending Id = refl
next_value tables old next pending Version = refl
next_value tables old next pending Number = refl
next_value tables old next pending Flight = refl
next_value tables old next pending Pending = refl
next_value tables old next pending Catalog = refl

-- ---- nothing under way

net_self : (marks : List Bool) (x : Place) → net marks x x ≡ None
net_self marks x = none_left (net marks x x) (net_there marks x x ∙ ap not ((same_place-Decides x x).1 refl))

sound_nothing : (tables : List TableDef) (rows : State) → IsStateOf tables rows → IsSoundOf tables (changes_at []) rows
sound_nothing tables rows is = record {
  before_state = λ n k. subst (λ (p : Place). MayStandAt tables n k p) (sym (undo_none (rows n k))) (is n k);
  after_state = is;
  net_of = λ t k among. sym (ap (λ (b : Place). net t.key_marks b (rows t.name k)) (undo_none (rows t.name k)) ∙ net_self t.key_marks (rows t.name k));
}

pub none_under_way : (tables : List TableDef) (view : View) → IsStateOf tables (middle view) → IsUnderWay tables None view
none_under_way tables view is = record {
  fits = tt;
  normal = tt;
  size = omega arith;
  sound = sound_nothing tables (middle view) is;
}

-- ---- the commit

pub committed_in : CommitShows → WritesRows → WritesPending → (tables : List TableDef) (position : Position) (next : ℕ) (settling : Settling) (contents : Contents) (batch : Batch)
    → WritesAll settling (next_values next) batch → IsWithin tables settling
    → IsCommitted tables position next settling contents (after_batch batch contents)
committed_in law rows_law pending_law tables position next settling contents batch is within seen end shows settles =
    let count : len (after_batch batch contents).pending ≡ len (fold edit_body contents.pending settling.pending) = ap (λ (es : List BodyEdit). len (fold edit_body contents.pending es)) is.pending in (
      law tables contents batch position (brought position next (len (after_batch batch contents).pending)) seen end shows
          (subst (λ (es : List BodyEdit). AreWithin tables es) (sym is.rows) within.0)
          (subst (λ (es : List BodyEdit). AreWithin tables es) (sym is.pending) within.1)
          is.log
          (λ name. by_parts batch.meta.items name (value_of tables position name)
          ∙ ap (λ (ps : List ValuePart). parts_after ps name (value_of tables position name)) is.values
          ∙ next_value tables position next (len (after_batch batch contents).pending) name)
          (shows_after tables contents batch settling is.rows is.pending rows_law pending_law position.pending end settles)
          (none_under_way tables end settles.sound.before_state)
          refl
          shows.numbered,
      settles.counted shows.counted ∙ sym count,
    )
