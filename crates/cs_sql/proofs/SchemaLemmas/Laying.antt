-- What the CREATE statements make.
use Rattle.std.proofs.Common.{◌≡◌, ◌⊎◌, inl, inr, ℕ, List, [], false, None, Ok, Err, Result, OnOk, refl, sym, ap, subst, ◌∙◌}
use Rattle.std.specs.List.{AllByRecursion}
use Rattle.sqlite.specs.declared.error.Error.{Error}
use Rattle.sqlite.specs.Table.{Table}
use Rattle.sqlite.specs.Schema.{Schema}
use Rattle.sqlite.specs.Change.{created, next_tree}
use Rattle.sqlite.specs.Compile.{table_defined_by}
use Rattle.sqlite.specs.Command.TheVariants.{CreateTable}
use Rattle.sqlite.specs.Does.{Tally, lacks_sequence}
use Rattle.sqlite.specs.Effect.{Database, IsDatabase}
use Rattle.sqlite.specs.Listing.{understood}
use Rattle.sqlite.specs.State.{State, Writes, Executes, ExecutesInside}
use Rattle.sqlite.proofs.Callers.{IsPlain, command_of, statement_of, runs_as}
use Rattle.sqlite_tied.specs.Compute.{everything}
use Rattle.cs_sql.specs.declared.parts.Part.{Part}
use Rattle.cs_sql.specs.declared.parts.Part.TheVariants.{Rows, Pending, Meta, Log}
use Rattle.cs_sql.specs.schema.Schemas.{rows_table, meta_table, log_table, pending_table}
use Rattle.cs_sql.specs.schema.Making.{create_text, schema_before, schema_with, tree_with, IsAmong, Adds}

-- ---- what the texts mean

abbrev pub made_table : Part → Table
made_table Rows = rows_table
made_table Meta = meta_table
made_table Log = log_table
made_table Pending = pending_table

pub makes : (part : Part) → (command_of (understood (schema_before part) (create_text part)) ≡ CreateTable) × (table_defined_by (create_text part) ≡ Ok (made_table part))
unfolding understood everything
makes Rows = (refl, refl)
makes Meta = (refl, refl)
makes Log = (refl, refl)
makes Pending = (refl, refl)

-- what a CREATE is told by, which is the whole text
pub whole : (part : Part) → (statement_of (create_text part) (understood (schema_before part) (create_text part)) ≡ create_text part) × IsPlain (understood (schema_before part) (create_text part))
unfolding understood everything
whole Rows = (refl, (refl, refl))
whole Meta = (refl, (refl, refl))
whole Log = (refl, (refl, refl))
whole Pending = (refl, (refl, refl))

-- it leads to the next schema, and counts nothing
pub leads : (part : Part) → (created (schema_before part) (made_table part) ≡ schema_with part) × (next_tree (schema_before part) ≡ tree_with part) × (lacks_sequence (created (schema_before part) (made_table part)) ≡ false)
leads Rows = (refl, refl, refl)
leads Meta = (refl, refl, refl)
leads Log = (refl, refl, refl)
leads Pending = (refl, refl, refl)

-- ---- what they make

-- a part that gave a value did not stop on the way
went : {B E R : Type 0} {b : B} {Stops : E → Type 0} → ((stop : E) × Stops stop × (Ok b ≡ Err stop)) ⊎ R → R
went (inl stopped) = absurd (let e = stopped.2 in cc)
went (inr on) = on

pub same_value : {B E : Type 0} {a b : B} → ◌≡◌ {A = Result B E} (Ok a) (Ok b) → a ≡ b
same_value e = cc

module _ (schema : Schema) (text : List ℕ) (table : Table) (command : command_of (understood schema text) ≡ CreateTable) (defined : table_defined_by text ≡ Ok table)
    (whole : statement_of text (understood schema text) ≡ text) (plain : IsPlain (understood schema text)) (lacks : lacks_sequence (created schema table) ≡ false) where
  creates : (old new : State) (count : ℕ) → old.now.schema ≡ schema → Executes text [] old new (Ok count)
      → (new.now.schema ≡ created schema table) × (new.now.trees (next_tree schema) ≡ []) × AllByRecursion (λ t. new.now.trees t.tree ≡ old.now.trees t.tree) schema.tables × IsDatabase new.now
  creates old new count has h =
      let w = subst (λ t. Writes old new None CreateTable t [] count) whole (runs_as text [] old new schema has CreateTable command plain count h) in
      let all = went w.changed in
      let first = went all.1 in
      let made = first.1 in
      let both : Ok made.table ≡ Ok table = sym made.defined ∙ defined in
      let same : made.table ≡ table = cc in
      let is : first.0.schema ≡ created schema table = made.is ∙ ap (λ s. created s made.table) has ∙ ap (created schema) same in
      let bare : lacks_sequence first.0.schema ≡ false = ap lacks_sequence is ∙ lacks in
      let now : new.now ≡ first.0 = ap (λ (p : Tally × Database). p.1) (same_value all.2) ∙ same_value (rw bare at first.2) in (
        ap (λ (d : Database). d.schema) now ∙ is,
        ap (λ (d : Database). d.trees (next_tree schema)) now ∙ subst (λ s. first.0.trees (next_tree s) ≡ []) has made.empty,
        subst (λ (d : Database). AllByRecursion (λ t. d.trees t.tree ≡ old.now.trees t.tree) schema.tables) (sym now) (subst (λ s. AllByRecursion (λ t. first.0.trees t.tree ≡ old.now.trees t.tree) s.tables) has made.others),
        w.sound,
      )

pub adds : (part : Part) (old new : State) (r : Result ℕ Error) → IsAmong (schema_before part) old → ExecutesInside 0 (create_text part) [] old new r → OnOk r (Adds part old new)
adds part old new (Err e) was h = tt
adds part old new (Ok count) was h =
    let shows = h.1 in
    let it = creates (schema_before part) (create_text part) (made_table part) (makes part).0 (makes part).1 (whole part).0 (whole part).1 (leads part).2 old new count (was.schema_is shows.was_open) h.0 in
    record {
      was_open = shows.was_open;
      is_open = shows.is_open;
      sound = it.3;
      among = record { writes = shows.mode; schema_is = λ _. it.0 ∙ (leads part).0 };
      added = record { others = it.2; empty = subst (λ (n : ℕ). new.now.trees n ≡ []) (leads part).1 it.1 };
      committed = shows.committed_is;
    }
