-- What is shown of a replica, as the step of a line.
use Rattle.std.proofs.Common.{◌≡◌, ◌≤◌, ◌<◌, ℕ, zero, suc, Bool, true, false, List, [], ◌∷◌, Result, Ok, Err, refl, sym, ap, ◌∙◌, subst, inl, inr, length, arith}
use Rattle.std.specs.Prelude.{◌⊎◌, HoldsAt, MatchResult, Some, codes, slice_get}
use Rattle.std.specs.FinMap.{find}
use Rattle.cs_normal.specs.keyed.Changes.{key_bytes}
use Rattle.cs_order.specs.Order.{by_bytes}
use Rattle.cs_pending.specs.View.{View}
use Rattle.cs_pending.specs.rows.Rows.{AreRowsOf}
use Rattle.cs_replica.specs.Holding.{Holding, Shows as Shown_by}
use Rattle.cs_replica.specs.Step.{AreRowsIn, Member, Turns, member_of}
use Rattle.cs_store.specs.declared.fault.StoreFault.{StoreFault}
use Rattle.cs_store.specs.declared.store.RowStore.{Ghosts}
use Rattle.cs_value.specs.declared.catalog.TableDef.{TableDef}
use Rattle.cs_value.specs.declared.value.Value.{Value}
use Rattle.cs_node_lines.specs.declared.asks.look.Look.{Look}
use Rattle.cs_node_lines.specs.declared.asks.look.Look.TheVariants as look
use Rattle.cs_node_lines.specs.following.FollowStep.{LookStep, Shown, TellsRows, behind_key, has_table, row_told}
use Rattle.cs_node_lines.specs.following.Steps.{ReadsOf, Shows}
use Rattle.cs_node_lines.specs.told.Dump.{rows_text}
use Rattle.cs_node_lines.specs.working.LineStep.{ReadsNone}
use Rattle.cs_node_lines.specs.working.Steps.{Stepped}
use Rattle.cs_node_lines.specs.working.Texts.{refused_text, store_fault_text}
use Rattle.cs_node_lines.proofs.WorkingLemmas.Made.{stepped_there}

-- the table with this number and name
def_at : (name : List ℕ) (tables : List TableDef) (table : ℕ) → table < length tables → HoldsAt (λ (def : TableDef). def.name ≡ name) tables table
    → (def : TableDef) × (slice_get tables table ≡ Some def) × (def.name ≡ name)
def_at name [] table less holds = absurd (omega (arith, less))
def_at name (def ∷ tables) zero less holds = (def, refl, holds def)
def_at name (def ∷ tables) (suc at) less holds = def_at name tables at (omega (arith, less)) holds

module _ {S : Type 0} (g : Ghosts S) where
  -- ---- what was read

  read_of : {T : Type 0} (bytes : T → List ℕ) (said : List ℕ → Type 0) (shown : Type 0) (result : Result T StoreFault) (text : List ℕ) (had has : ℕ)
      → (said text → shown) → MatchResult result (λ read. text ≡ bytes read) (λ fault. text ≡ refused_text (store_fault_text fault))
      → ReadsOf had has (λ read. said (bytes read)) result → shown ⊎ ReadsNone had has text
  read_of bytes said shown (Ok read) text had has leads is reads = inl (leads (subst said (sym is) reads))
  read_of bytes said shown (Err fault) text had has leads is reads = inr (fault, reads, is)

  look_of : {T : Type 0} (bytes : T → List ℕ) (asked : Look) (said : Member → List ℕ → Type 0) (result : Result T StoreFault) (text : List ℕ) (old new : Holding S)
      → ((before : Member) → before.tables ≡ old.catalog → said before text → Shown before asked text)
      → MatchResult result (λ read. text ≡ bytes read) (λ fault. text ≡ refused_text (store_fault_text fault))
      → Shows g (λ before read. said before (bytes read)) result old new → Stepped g LookStep asked text old new
  look_of bytes asked said result text old new leads is shows = record {
    later = shows.later;
    turns = record {
      was_honest = shows.turns.was_honest;
      turned = λ h are fits view seen.
          let t = shows.turns.turned h are fits view seen in
          let before = member_of old view in
          (t.0, t.1, t.2, (t.3.0, read_of bytes (said before) (Shown before asked text) result text (g.failed old.store) (g.failed new.store) (leads before refl) is t.3.1));
    };
  }

  pub rows_told : {T : Type 0} (bytes : T → List ℕ) (name : List ℕ) (result : Result T StoreFault) (text : List ℕ) (old new : Holding S) → has_table old.catalog name ≡ true
      → MatchResult result (λ read. text ≡ bytes read) (λ fault. text ≡ refused_text (store_fault_text fault))
      → Shows g (λ before read. TellsRows true before.view.tables name (bytes read)) result old new → Stepped g LookStep (look.Rows name) text old new
  rows_told bytes name result text old new there is shows =
      look_of bytes (look.Rows name) (λ before t. TellsRows true before.view.tables name t) result text old new
      (λ before same tells. subst (λ (b : Bool). TellsRows b before.view.tables name text) (sym (ap (λ (ts : List TableDef). has_table ts name) same ∙ there)) tells) is shows

  pub row_told_of : {T : Type 0} (bytes : T → List ℕ) (name : List ℕ) (key : List Value) (result : Result T StoreFault) (text : List ℕ) (old new : Holding S) → has_table old.catalog name ≡ true
      → MatchResult result (λ read. text ≡ bytes read) (λ fault. text ≡ refused_text (store_fault_text fault))
      → Shows g (λ before read. bytes read ≡ row_told true before.view.tables name (key_bytes key)) result old new → Stepped g LookStep (look.Row name key) text old new
  row_told_of bytes name key result text old new there is shows =
      look_of bytes (look.Row name key) (λ before t. t ≡ row_told true before.view.tables name (key_bytes key)) result text old new
      (λ before same tells. tells ∙ ap (λ (b : Bool). row_told b before.view.tables name (key_bytes key)) (sym (ap (λ (ts : List TableDef). has_table ts name) same ∙ there))) is shows

  -- no table has the name
  pub no_rows : (name text : List ℕ) (held : Holding S) → has_table held.catalog name ≡ false → text ≡ refused_text (codes "NoTable") → Stepped g LookStep (look.Rows name) text held held
  no_rows name text held none is =
      stepped_there g LookStep (look.Rows name) text held
      (λ had has m same at. (refl, inl (subst (λ (b : Bool). TellsRows b m.view.tables name text) (sym (ap (λ (ts : List TableDef). has_table ts name) same ∙ none)) is)))

  pub no_row : (name text : List ℕ) (key : List Value) (held : Holding S) → has_table held.catalog name ≡ false → text ≡ refused_text (codes "NoTable") → Stepped g LookStep (look.Row name key) text held held
  no_row name text key held none is =
      stepped_there g LookStep (look.Row name key) text held
      (λ had has m same at. (refl, inl (is ∙ ap (λ (b : Bool). row_told b m.view.tables name (key_bytes key)) (sym (ap (λ (ts : List TableDef). has_table ts name) same ∙ none)))))

  -- ---- reading

  -- the rows of a table with this name, of which something is made
  pub rows_read : {T : Type 0} (name : List ℕ) (table : ℕ) (rows : List (List ℕ × List Value)) (read : T) (said : Member → T → Type 0) (old new : Holding S)
      → table < length old.catalog → HoldsAt (λ (def : TableDef). def.name ≡ name) old.catalog table
      → Turns g (λ before after. after ≡ before) old new
      → (g.honest new.store → (view : View) → Shown_by g.contents old view → AreRowsIn old.catalog view.tables table rows)
      → g.failed old.store ≤ g.failed new.store
      → ((before : Member) → AreRowsOf (before.view.tables name) rows → said before read)
      → Shows g said (Ok read) old new
  rows_read name table rows read said old new less named kept listed later so = record {
    later = later;
    turns = record {
      was_honest = kept.was_honest;
      turned = λ h are fits view shows.
          let k = kept.turned h are fits view shows in
          let def = def_at name old.catalog table less named in
          (k.0, k.1, k.2, (k.3, so (member_of old view) (subst (λ (n : List ℕ). AreRowsOf (view.tables n) rows) def.2 ((listed h view shows).there def.0 def.1))));
    };
  }

  pub row_of : (name key : List ℕ) (rows : List (List ℕ × List Value)) (text : List ℕ) (before : Member) → text ≡ rows_text name (behind_key key (find by_bytes key rows))
      → AreRowsOf (before.view.tables name) rows → text ≡ row_told true before.view.tables name key
  row_of name key rows text before is are = is ∙ ap (λ p. rows_text name (behind_key key p)) (are.found key)
