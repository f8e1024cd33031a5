-- What a `MapStore` holds. Rows and pending changes are in leaves, values of meta in a map of slots under `meta_table`, and
-- the log in a list of entries.
-- A slot with no value shows as one that is not there, so that room can be made before anything changes.
use Rattle.std.specs.declared.alloc.Global.{Global}
use Rattle.std.specs.Prelude.{Vec, ◌≡◌, Some, refl, ℕ, zero, suc, ℤ, pos, negsuc, ◌+◌, map, filter, List, [], ◌∷◌, Option}
use Rattle.std.specs.Coded.{Coded, code_by, coded×, coded_ℕ}
use Rattle.std.specs.declared.cmp.Ordering.{Ordering}
use Rattle.std.specs.Ordering.{int_eq, nat_cmp, ordering_then}
use Rattle.cs_order.specs.Order.{by_bytes}
use Rattle.std.specs.FinMap.{empty, entries, from_entries, get}
use Rattle.cs_store.specs.Whole.{IsName}
use Rattle.cs_store.specs.declared.batch.MetaEdit.{MetaEdit}
use Rattle.cs_store.specs.Contents.{Contents, StorePlace, Bodies, Meta, Log, LogItem, contents_code, name_text, nothing}
use Rattle.cs_store.specs.Written.{optional_bytes, with_body}
use Rattle.cs_store.specs.declared.store.RowStore.{Ghosts}

abbrev pub SlotKey : Type 0
SlotKey = ℕ × Vec ℕ Global

abbrev pub Slot : Type 0
Slot = Option (Vec ℕ Global)

abbrev pub key_cmp : SlotKey → SlotKey → Ordering
key_cmp x y = ordering_then (nat_cmp x.0 y.0) (by_bytes x.1.items y.1.items)

-- a table's number is one less than its keys', and 0 is for meta
abbrev pub table_number : ℕ → ℤ
table_number zero = negsuc zero
table_number (suc n) = pos n

abbrev pub place_of : SlotKey → StorePlace
place_of k = (table_number k.0, k.1.items)

-- what a map's entries show
unfoldable pub shown : List (SlotKey × Slot) → Bodies
shown [] = empty
shown (e ∷ es) = with_body (shown es) (place_of e.0) (optional_bytes e.1)

-- the keys and the bytes under one number, by ascending bytes of the key
abbrev pub listed : ℤ → Bodies → List (List ℕ × List ℕ)
listed table rows = map (λ e. (e.0.1, e.1)) (filter (λ e. int_eq e.0.0 table) (entries rows))

-- no table of rows has this number
abbrev pub meta_table : ℤ
meta_table = negsuc 0

unfoldable pub meta_of : Bodies → Meta
meta_of c = from_entries (listed meta_table c)

-- a place, and the bytes that it gets
abbrev pub Write : Type 0
Write = StorePlace × Option (List ℕ)

abbrev pub write_to : Bodies → Write → Bodies
write_to c w = with_body c w.0 w.1

abbrev pub meta_write : MetaEdit → Write
meta_write e = ((meta_table, name_text e.name), optional_bytes e.value)

-- entries of the log with their versions, from n on
abbrev pub numbered : ℕ → List LogItem → List (ℤ × LogItem)
numbered n [] = []
numbered n (item ∷ items) = (pos n, item) ∷ numbered (n + 1) items

unfoldable pub log_of : List LogItem → Log
log_of items = from_entries (numbered 0 items)

-- what rows, pending changes, a map of slots and a list of entries hold
abbrev pub held_in : Bodies → Bodies → List (SlotKey × Slot) → List LogItem → Contents
held_in rows pending slots log =
    record { rows = rows; pending = pending; meta = meta_of (shown slots); log = log_of log }

-- a store in memory: what it holds, and how often what it gave was told to be no such thing
pub record InMemory : Type 0 where
  pub held : Contents
  pub misreads : ℕ

abbrev pub in_memory_code : Coded InMemory
in_memory_code =
    code_by (Contents × ℕ) (coded× contents_code coded_ℕ) (λ store. (store.held, store.misreads))
    (λ parts. record { held = parts.0; misreads = parts.1 }) (λ _. refl)

-- a new one
abbrev pub new_store : InMemory
new_store = record { held = nothing; misreads = 0 }

abbrev pub held_by : InMemory → Contents
held_by store = store.held

-- memory returns what was written
abbrev pub is_honest : InMemory → Type 0
is_honest store = Unit {0}

abbrev pub misreads_of : InMemory → ℕ
misreads_of store = store.misreads

-- a stop leaves what is held
abbrev pub leaves_held : InMemory → Contents → Type 0
leaves_held store left = left ≡ store.held

-- what clauses on stores say of one in memory
abbrev pub in_map_store : Ghosts InMemory
in_map_store =
    record { contents = held_by; honest = is_honest; failed = misreads_of; may_leave = leaves_held; misreads = misreads_of }

-- values have no names but ours
unfoldable pub HasOwnNames : Meta → Type 0
HasOwnNames meta = (name value : List ℕ) → get meta name ≡ Some value → IsName name
