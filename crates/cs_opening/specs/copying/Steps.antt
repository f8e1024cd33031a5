-- What the code has found on its way: no definition that a public clause cites.
use Rattle.std.specs.Prelude.{◌≡◌, ◌<◌, ◌≤◌, ℕ, negsuc, Bool, true, false, List, [], ◌∷◌, Option, Some, None, if◌then◌else◌}
use Rattle.std.specs.FinMap.{empty, get}
use Rattle.cs_order.specs.Order.{same_bytes}
use Rattle.cs_store.specs.Contents.{Contents, meta_value, name_text, stored_pending, stored_tables}
use Rattle.cs_store.specs.Whole.{IsName}
use Rattle.cs_store.specs.edits.Edits.{BodyEdit}
use Rattle.cs_store.specs.declared.names.MetaName.{MetaName}
use Rattle.cs_store.specs.declared.store.StoredBody.{StoredBody}

-- ---- values

-- what is left of a value at a name, where the values of names are set one after another
abbrev pub value_read : Contents → List MetaName → MetaName → Option (List ℕ) → Option (List ℕ)
value_read contents [] name value = value
value_read contents (first ∷ names) name value =
    value_read contents names name
    (if same_bytes (name_text name) (name_text first) then meta_value contents first else value)

-- values have no names but ours
abbrev pub HasOurNames : Contents → Type 0
HasOurNames contents = (name value : List ℕ) → get contents.meta name ≡ Some value → IsName name

-- ---- tables

-- the edit that sets a listed row of the table with this number
abbrev pub edit_at : ℕ → StoredBody → BodyEdit
edit_at number row = record { table = number; key = row.key.items; body = Some row.body.items }

-- the values and the rows of the tables below this number are copied, and no change is pending there; nothing else is in the copy
pub record AreCopied (contents copy : Contents) (number : ℕ) : Type 0 where
  pub rows : (table : ℕ) (key : List ℕ) → table < number → stored_tables copy table key ≡ stored_tables contents table key
  pub later : (table : ℕ) (key : List ℕ) → number ≤ table → stored_tables copy table key ≡ None
  pub before : (table : ℕ) (key : List ℕ) → get copy.rows (negsuc table, key) ≡ None
  pub settled : (table : ℕ) (key : List ℕ) → table < number → stored_pending contents table key ≡ None
  pub pending : copy.pending ≡ empty
  pub meta : copy.meta ≡ contents.meta
  pub log : copy.log ≡ empty

-- tables from this number to that are copied, or a change is pending
abbrev pub IsCopied : Contents → Contents → Contents → ℕ → ℕ → Bool → Type 0
IsCopied contents old new from end true = AreCopied contents old from → AreCopied contents new end
IsCopied contents old new from end false = contents.pending ≡ empty → ⊥
