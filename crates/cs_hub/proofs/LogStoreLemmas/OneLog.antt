-- A store shows one log at most.
use Rattle.std.proofs.Common.{◌≡◌, ℕ, List, Option, Some, None, refl, sym, ap, ◌∙◌, option_map}
use Rattle.std.specs.Prelude.{ℤ, pos, negsuc, slice_get}
use Rattle.cs_value.specs.Catalog.{AreTables}
use Rattle.cs_value.specs.declared.catalog.TableDef.{TableDef}
use Rattle.cs_store.specs.log.Laws.{OneBody, OneStoredLog, stored_entry}
use Rattle.cs_store.specs.log.Stored.{IsEntryOf}
use Rattle.cs_store.specs.declared.log.body.Body.{Body}
use Rattle.cs_store.specs.declared.log.entry.LogEntry.{LogEntry}
use Rattle.cs_store.specs.Contents.{LogItem}
use Rattle.cs_hub.specs.log_store.Laws.{OneLog}
use Rattle.cs_hub.specs.log_store.Shows.{item_of_entry}

made : ℕ → ℕ → Body → LogEntry
made origin number body = record { origin = origin; number = number; body = body }

one_pos : (m n : ℕ) → pos m ≡ pos n → m ≡ n
one_pos m n e = cc

-- entries of the tables that the store has as the same are the same
pub one_entry : OneBody → (opening : List TableDef) → AreTables opening → (some other : LogEntry) → IsEntryOf opening some → IsEntryOf opening other
    → item_of_entry some ≡ item_of_entry other → some ≡ other
unfolding made
one_entry law opening are some other s o e =
    let origin : some.origin ≡ other.origin = one_pos some.origin other.origin (ap (λ (item : LogItem). item.origin) e) in
    let number : some.number ≡ other.number = ap (λ (item : LogItem). item.number) e in
    let body : some.body ≡ other.body = law opening some.body other.body are s.changes o.changes s.widens o.widens (ap (λ (item : LogItem). item.body) e) in
    ap (λ (n : ℕ). made n some.number some.body) origin
    ∙ ap (λ (n : ℕ). made other.origin n some.body) number
    ∙ ap (λ (b : Body). made other.origin other.number b) body

-- ---- so are logs

number_of : ℤ → ℕ
number_of (pos n) = n
number_of (negsuc n) = 0

-- what an item says of the entry
of_item : LogItem → ℕ × ℕ × List ℕ
of_item item = (number_of item.origin, item.number, item.body)

by_item : (found : Option LogEntry) → option_map stored_entry found ≡ option_map of_item (option_map item_of_entry found)
unfolding of_item number_of
by_item None = refl
by_item (Some entry) = refl

pub one_log : OneStoredLog → OneLog
one_log law opening contents some other are s o =
    law opening some other are s.is_log o.is_log
    (λ version. by_item (slice_get some version) ∙ ap (option_map of_item) (sym (s.entries.stored version) ∙ o.entries.stored version) ∙ sym (by_item (slice_get other version)))
