-- The blob of a changeset as it is read is in range.
use Rattle.std.proofs.Common.{◌≡◌, ◌++◌, Bool, true, false, List, [], ◌∷◌, length, map, take, drop, Option, Some, None, refl, arith}
use Rattle.std.specs.List.{AllByRecursion}
use Rattle.cs_value.specs.declared.value.Value.{Value}
use Rattle.cs_value.specs.declared.value.Field.{Field}
use Rattle.cs_value.specs.declared.value.Field.TheVariants.{Undefined, Is}
use Rattle.cs_record.specs.Spelling.{Fits}
use Rattle.cs_change.specs.Action.{action}
use Rattle.cs_change.specs.Spelling.{marks_of, AreUpdateColumns, FitsChange, FitsGroup}
use Rattle.cs_change.specs.declared.change.Change.{Change}
use Rattle.cs_change.specs.declared.change.Change.TheVariants.{Insert, Delete, Update}
use Rattle.cs_change.specs.declared.group.Group.{Group}
use Rattle.cs_blob.specs.Records.{AreRight, row_rules, old_rules}
use Rattle.cs_conflict.specs.declared.conflict.Resolution.{Resolution}
use Rattle.cs_blob.specs.Spelling.{FitsBlob, FitsBlobEntry}
use Rattle.cs_blob.specs.declared.blob.Entry.{Entry}
use Rattle.cs_blob.specs.declared.blob.BlobGroup.{BlobGroup}
use Rattle.cs_tasks.specs.Blob.{keyed_new, entry_of, entries_of, group_if_any, blob_of}
use Rattle.cs_tasks.specs.Laws.{BlobFits}
use Rattle.cs_tasks.specs.Tasks.{tasks_at, table_of}

-- a row may stand where an INSERT put it, and where a DELETE took it
row_in_old : (marks : List Bool) (row : List Value) → length row ≡ length marks → AllByRecursion (λ v. Fits (Is v)) row → AreRight (old_rules marks) (map Is row)
row_in_old [] [] long fits = tt
row_in_old [] (v ∷ row) long fits = absurd (omega (arith, long))
row_in_old (m ∷ marks) [] long fits = absurd (omega (arith, long))
row_in_old (true ∷ marks) (v ∷ row) long fits = ((fits.0, refl), row_in_old marks row (omega (arith, long)) fits.1)
row_in_old (false ∷ marks) (v ∷ row) long fits = ((fits.0, refl), row_in_old marks row (omega (arith, long)) fits.1)

row_in_row : (marks : List Bool) (row : List Value) → length row ≡ length marks → AllByRecursion (λ v. Fits (Is v)) row → AreRight (row_rules marks) (map Is row)
row_in_row [] [] long fits = tt
row_in_row [] (v ∷ row) long fits = absurd (omega (arith, long))
row_in_row (m ∷ marks) [] long fits = absurd (omega (arith, long))
row_in_row (m ∷ marks) (v ∷ row) long fits = ((fits.0, refl), row_in_row marks row (omega (arith, long)) fits.1)

-- so may the new record of an UPDATE with its key
keyed_in_old : (marks : List Bool) (old new : List Field) → AreUpdateColumns marks old new → AllByRecursion Fits old → AllByRecursion Fits new → AreRight (old_rules marks) (keyed_new marks old new)
unfolding keyed_new
keyed_in_old [] [] [] are olds news = tt
keyed_in_old [] [] (n ∷ new) are olds news = absurd are
keyed_in_old [] (o ∷ old) new are olds news = absurd are
keyed_in_old (m ∷ marks) [] new are olds news = absurd are
keyed_in_old (m ∷ marks) (o ∷ old) [] are olds news = absurd are
keyed_in_old (true ∷ marks) (Is u ∷ old) (n ∷ new) are olds news = ((olds.0, refl), keyed_in_old marks old new are.1 olds.1 news.1)
keyed_in_old (true ∷ marks) (Undefined ∷ old) (Undefined ∷ new) are olds news = absurd are.0
keyed_in_old (true ∷ marks) (Undefined ∷ old) (Is v ∷ new) are olds news = absurd are.0
keyed_in_old (false ∷ marks) (o ∷ old) (Undefined ∷ new) are olds news = ((news.0, refl), keyed_in_old marks old new are.1 olds.1 news.1)
keyed_in_old (false ∷ marks) (o ∷ old) (Is v ∷ new) are olds news = ((news.0, refl), keyed_in_old marks old new are.1 olds.1 news.1)

entry_fits : (marks : List Bool) (answer : Resolution) (change : Change) → FitsChange marks change → FitsBlobEntry marks (entry_of marks answer (action change))
entry_fits marks answer (Insert flag new) fits = row_in_old marks new fits.0 fits.1
entry_fits marks answer (Delete flag old) fits = row_in_row marks old fits.0 fits.1
entry_fits marks answer (Update flag old new) fits = keyed_in_old marks old new fits.0 fits.1 fits.2

entries_fit : (marks : List Bool) (changes : List Change) (given : List (Option Resolution)) → AllByRecursion (FitsChange marks) changes
    → AllByRecursion (FitsBlobEntry marks) (entries_of marks changes given)
unfolding entries_of
entries_fit marks [] given fits = tt
entries_fit marks (change ∷ changes) [] fits = tt
entries_fit marks (change ∷ changes) (None ∷ given) fits = entries_fit marks changes given fits.1
entries_fit marks (change ∷ changes) (Some answer ∷ given) fits = (entry_fits marks answer change fits.0, entries_fit marks changes given fits.1)

group_fits : (group : Group) (entries : List Entry) (others : List BlobGroup) → FitsGroup group → AllByRecursion (FitsBlobEntry (marks_of group.marks)) entries → FitsBlob others
    → FitsBlob (group_if_any group entries ++ others)
group_fits group [] others fits right rest = rest
group_fits group (first ∷ entries) others fits right rest = ((fits.0, right), rest)

pub blob_fits : BlobFits
unfolding blob_of
blob_fits tables [] given fits = tt
blob_fits tables (group ∷ groups) given fits =
    let count = length (tasks_at (table_of group tables) group) in
    group_fits group (entries_of (marks_of group.marks) group.changes (take count given)) (blob_of tables groups (drop count given)) fits.0
    (entries_fit (marks_of group.marks) group.changes (take count given) fits.0.1) (blob_fits tables groups (drop count given) fits.1)
