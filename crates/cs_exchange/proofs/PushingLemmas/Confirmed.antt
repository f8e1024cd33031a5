-- What a commit of values leaves of what a store shows; the end of a push.
use Rattle.std.proofs.Common.{◌≡◌, ◌+◌, ℕ, Bool, not, cond, List, [], ◌∷◌, Option, None, fold, map, refl, sym, ap, subst, ◌∙◌, arith}
use Rattle.std.specs.Prelude.{pos}
use Rattle.std.specs.FinMap.{get, len}
use Rattle.cs_change.specs.Net.{net}
use Rattle.cs_normal.specs.State.{IsStateOf, MayStandAt, State}
use Rattle.cs_order.specs.Order.{same_bytes}
use Rattle.cs_pending.specs.Nets.{net_there, undo_none}
use Rattle.cs_pending.specs.Settling.{AreWithin}
use Rattle.cs_pending.specs.Shows.{IsSoundOf, ShowsRows}
use Rattle.cs_pending.specs.Steps.{none_left}
use Rattle.cs_pending.specs.View.{View, before, middle}
use Rattle.cs_pending.specs.position.Laws.{CommitShows}
use Rattle.cs_pending.specs.position.Shows.{IsUnderWay, changes_at}
use Rattle.cs_pending.specs.position.Values.{value_of, ValuePart, value_part}
use Rattle.cs_pending.specs.declared.position.position.Position.{Position}
use Rattle.cs_exchange.specs.pushing.Batches.{WritesValues, confirm_values, place_part}
use Rattle.cs_exchange.specs.pushing.Pushes.{IsConfirmedIn, confirmed}
use Rattle.cs_store.specs.Contents.{Bodies, Contents, name_text}
use Rattle.cs_store.specs.Laws.{value_after}
use Rattle.cs_store.specs.Written.{after_batch, edit_body, optional_bytes}
use Rattle.cs_store.specs.declared.batch.Batch.{Batch}
use Rattle.cs_store.specs.declared.batch.MetaEdit.{MetaEdit}
use Rattle.cs_store.specs.edits.Edits.{BodyEdit}
use Rattle.cs_store.specs.declared.names.MetaName.{MetaName}
use Rattle.cs_store.specs.declared.names.MetaName.TheVariants.{Id, Version, Number, Flight, Pending, Catalog}
use Rattle.cs_value.specs.Facts.{same_place-Decides}
use Rattle.cs_value.specs.Key.{Place}
use Rattle.cs_value.specs.declared.catalog.TableDef.{TableDef}

-- ---- values, by the parts of their edits

abbrev pub parts_after : List ValuePart → MetaName → Option (List ℕ) → Option (List ℕ)
parts_after [] name value = value
parts_after (part ∷ parts) name value = parts_after parts name (cond (same_bytes (name_text name) (name_text part.0)) part.1 value)

by_parts : (edits : List MetaEdit) (name : MetaName) (value : Option (List ℕ)) → value_after edits name value ≡ parts_after (map value_part edits) name value
by_parts [] name value = refl
by_parts (edit ∷ edits) name value = by_parts edits name (cond (same_bytes (name_text name) (name_text edit.name)) (optional_bytes edit.value) value)

pub values_are : (edits : List MetaEdit) (parts : List ValuePart) (name : MetaName) (value : Option (List ℕ)) → map value_part edits ≡ parts → value_after edits name value ≡ parts_after parts name value
values_are edits parts name value is = by_parts edits name value ∙ ap (λ (ps : List ValuePart). parts_after ps name value) is

pub none_mapped : {A B : Type 0} (f : A → B) (xs : List A) → map f xs ≡ [] → xs ≡ []
none_mapped f [] e = refl
none_mapped f (x ∷ xs) e = absurd (let no = e in cc)

-- ---- the same rows and pending changes

pub shows_same : (tables : List TableDef) (old new : Contents) (view : View) → new.rows ≡ old.rows → new.pending ≡ old.pending → ShowsRows tables old view → ShowsRows tables new view
shows_same tables old new view rows pending shows = record {
  rows = record { rows = shows.rows.rows; stored = λ n t k at. ap (λ (m : Bodies). get m (pos n, k)) rows ∙ shows.rows.stored n t k at };
  pends = record { stored = λ n t k at. ap (λ (m : Bodies). get m (pos n, k)) pending ∙ shows.pends.stored n t k at; fits = shows.pends.fits };
  sound = shows.sound;
}

pub within_none : (tables : List TableDef) (edits : List BodyEdit) → edits ≡ [] → AreWithin tables edits
within_none tables edits is = subst (λ (es : List BodyEdit). AreWithin tables es) (sym is) tt

-- ---- nothing changed

pub net_self : (marks : List Bool) (x : Place) → net marks x x ≡ None
net_self marks x = none_left (net marks x x) (net_there marks x x ∙ ap not ((same_place-Decides x x).1 refl))

pub before_nothing : (rows : State) (n k : List ℕ) → before (changes_at []) rows n k ≡ rows n k
before_nothing rows n k = undo_none (rows n k)

pub sound_nothing : (tables : List TableDef) (rows : State) → IsStateOf tables rows → IsSoundOf tables (changes_at []) rows
sound_nothing tables rows is = record {
  before_state = λ n k. subst (λ (p : Place). MayStandAt tables n k p) (sym (before_nothing rows n k)) (is n k);
  after_state = is;
  net_of = λ t k among. sym (ap (λ (b : Place). net t.key_marks b (rows t.name k)) (before_nothing rows t.name k) ∙ net_self t.key_marks (rows t.name k));
}

none_under_way : (tables : List TableDef) (view : View) → IsStateOf tables (middle view) → IsUnderWay tables None view
none_under_way tables view is = record {
  fits = tt;
  normal = tt;
  size = omega arith;
  sound = sound_nothing tables (middle view) is;
}

-- ---- a push is ended

confirm_value : (tables : List TableDef) (old : Position) (name : MetaName) → parts_after (confirm_values (old.version + 1)) name (value_of tables old name) ≡ value_of tables (confirmed old) name
confirm_value tables old Id = refl
confirm_value tables old Version = refl
confirm_value tables old Number = refl
confirm_value tables old Flight = refl
confirm_value tables old Pending = refl
confirm_value tables old Catalog = refl

pub confirmed_in : CommitShows → (tables : List TableDef) (position : Position) (contents : Contents) (batch : Batch) → WritesValues [] (confirm_values (position.version + 1)) batch
    → IsConfirmedIn tables position contents (after_batch batch contents)
confirmed_in law tables position contents batch is view shows =
    let none = none_mapped place_part batch.pending is.pending in
    let rows : (after_batch batch contents).rows ≡ contents.rows = ap (λ (es : List BodyEdit). fold edit_body contents.rows es) is.rows in
    let pending : (after_batch batch contents).pending ≡ contents.pending = ap (λ (es : List BodyEdit). fold edit_body contents.pending es) none in (
      law tables contents batch position (confirmed position) view view shows (within_none tables batch.rows is.rows) (within_none tables batch.pending none) is.log
          (λ name. values_are batch.meta.items (confirm_values (position.version + 1)) name (value_of tables position name) is.values ∙ confirm_value tables position name)
          (shows_same tables contents (after_batch batch contents) view rows pending shows.rows)
          (none_under_way tables view shows.rows.sound.before_state)
          (shows.counted ∙ ap (λ (m : Bodies). len m) (sym pending))
          shows.numbered,
      λ n k. before_nothing (middle view) n k,
    )
