-- What the batch that moves a value makes of contents.
use Rattle.std.proofs.Common.{◌≡◌, ◌∙◌, ◌++◌, ℕ, List, [], ◌∷◌, Option, map, refl, ap, ap₂}
use Rattle.std.specs.Prelude.{fold, pos}
use Rattle.std.specs.FinMap.{remove}
use Rattle.cs_value.specs.declared.catalog.TableDef.{TableDef}
use Rattle.cs_change.specs.Spelling.{change_spelling}
use Rattle.cs_normal.specs.declared.normal.TableChanges.{TableChanges}
use Rattle.cs_apply.specs.NormalTasks.{keyed_tasks}
use Rattle.cs_tasks.specs.Tasks.{Task}
use Rattle.cs_store.specs.Contents.{Bodies, Contents, Log, Meta, StorePlace, name_text}
use Rattle.cs_store.specs.Written.{edit_body, edit_meta, with_body}
use Rattle.cs_store.specs.declared.batch.MetaEdit.{MetaEdit}
use Rattle.cs_store.specs.edits.Edits.{BodyEdit}
use Rattle.cs_store.specs.declared.names.MetaName.TheVariants.{Pending}
use Rattle.cs_opening.specs.moving.Moved.{moved, put_body, stored_changes}
use Rattle.cs_opening.specs.moving.Steps.{edit_parts, task_parts}

abbrev put_part : Bodies → StorePlace × Option (List ℕ) → Bodies
put_part bodies part = with_body bodies part.0 part.1

by_parts : (bodies : Bodies) (edits : List BodyEdit) → fold edit_body bodies edits ≡ fold put_part bodies (map edit_parts edits)
by_parts bodies [] = refl
by_parts bodies (edit ∷ edits) = by_parts (edit_body bodies edit) edits

abbrev stored : Task → StorePlace × List ℕ
stored task = ((pos task.table, task.key), change_spelling task.change)

by_tasks : (bodies : Bodies) (tasks : List Task) → fold put_part bodies (map task_parts tasks) ≡ fold put_body bodies (map stored tasks)
by_tasks bodies [] = refl
by_tasks bodies (task ∷ tasks) = by_tasks (put_body bodies (stored task)) tasks

unfoldable pub contents_of : Bodies → Bodies → Meta → Log → Contents
contents_of rows pending meta log = record { rows = rows; pending = pending; meta = meta; log = log }

-- edits that put the changes at their places, and one that takes the value away
pub batch_moves : (tables : List TableDef) (changes : List TableChanges) (tasks shown : List Task) (rows pending : List BodyEdit) (meta begun : List MetaEdit) (edit : MetaEdit) (contents : Contents)
    → rows ≡ [] → tasks ≡ keyed_tasks tables changes → map edit_parts pending ≡ map task_parts shown → shown ≡ tasks → meta ≡ begun ++ edit ∷ [] → begun ≡ [] → edit_meta contents.meta edit ≡ remove contents.meta (name_text Pending)
    → contents_of (fold edit_body contents.rows rows) (fold edit_body contents.pending pending) (fold edit_meta contents.meta meta) contents.log ≡ moved tables changes contents
unfolding contents_of
batch_moves tables changes tasks shown rows pending meta begun edit contents none are parts s grown b gone =
    let put : fold edit_body contents.pending pending ≡ fold put_body contents.pending (stored_changes tables changes) =
    by_parts contents.pending pending
    ∙ ap (fold put_part contents.pending) parts
    ∙ by_tasks contents.pending shown
    ∙ ap (λ (ts : List Task). fold put_body contents.pending (map stored ts)) (s ∙ are) in
    let values : fold edit_meta contents.meta meta ≡ remove contents.meta (name_text Pending) =
    ap (fold edit_meta contents.meta) grown ∙ ap (λ (es : List MetaEdit). fold edit_meta contents.meta (es ++ edit ∷ [])) b ∙ gone in
    ap (λ (es : List BodyEdit). contents_of (fold edit_body contents.rows es) (fold edit_body contents.pending pending) (fold edit_meta contents.meta meta) contents.log) none
    ∙ ap₂ (λ (p : Bodies) (m : Meta). contents_of contents.rows p m contents.log) put values
