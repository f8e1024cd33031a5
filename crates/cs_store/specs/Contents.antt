-- What a store holds, whatever it is kept in.
use Rattle.std.specs.Prelude.{◌≡◌, ◌<◌, ◌+◌, refl, ℕ, zero, suc, ℤ, pos, T, List, [], ◌∷◌, Option, Some, None, IsSome, codes}
use Rattle.std.specs.Coded.{Coded, code_by, coded×, coded_list, coded_ℕ, coded_ℤ}
use Rattle.std.specs.declared.cmp.Ordering.{Ordering}
use Rattle.std.specs.Ordering.{int_cmp, on, then_cmp}
use Rattle.std.specs.FinMap as finite
use Rattle.std.specs.FinMap.{FinMap, empty, get, len, find, is_sorted}
use Rattle.cs_order.specs.Order.{by_bytes}
use Rattle.cs_store.specs.declared.names.MetaName.{MetaName}
use Rattle.cs_store.specs.declared.names.MetaName.TheVariants.{Id, Version, Number, Flight, Pending, Catalog}

-- a table's number, and the bytes of a key. A file that others wrote may have rows under a negative number.
abbrev pub StorePlace : Type 0
StorePlace = ℤ × List ℕ

-- by the table's number, and then by the bytes of the key
abbrev pub place_cmp : StorePlace → StorePlace → Ordering
place_cmp = then_cmp (on (λ p. p.0) int_cmp) (on (λ p. p.1) by_bytes)

-- the bytes of a body at each place that has one: a row, or a pending change
abbrev pub Bodies : Type 0
Bodies = FinMap place_cmp (List ℕ)

-- the bytes of a value at each name that has one, by the bytes of the name
abbrev pub Meta : Type 0
Meta = FinMap by_bytes (List ℕ)

-- an entry of the log: whose push it is, the number of that push, and the bytes of the entry's body. A file that others wrote
-- may have an origin that is no replica's id.
pub record LogItem : Type 0 where
  pub origin : ℤ
  pub number : ℕ
  pub body : List ℕ

-- an entry at each version that has one. A file that others wrote may lack some.
abbrev pub Log : Type 0
Log = FinMap int_cmp LogItem

pub record Contents : Type 0 where
  pub rows : Bodies
  -- a pending change stands at the place of its row
  pub pending : Bodies
  pub meta : Meta
  pub log : Log

abbrev pub item_code : Coded LogItem
item_code =
    code_by (ℤ × (ℕ × List ℕ)) (coded× coded_ℤ (coded× coded_ℕ (coded_list coded_ℕ)))
    (λ item. (item.origin, (item.number, item.body))) (λ parts. record { origin = parts.0; number = parts.1.0; body = parts.1.1 }) (λ _. refl)

-- contents are stored as the four maps: the form in which a proof tells them apart
abbrev pub contents_code : Coded Contents
contents_code =
    let bytes : Coded (List ℕ) = coded_list coded_ℕ in
    let bodies : Coded Bodies = finite.code {R = place_cmp} (coded× coded_ℤ bytes) bytes in
    code_by (Bodies × (Bodies × (Meta × Log)))
    (coded× bodies (coded× bodies (coded× (finite.code {R = by_bytes} bytes bytes) (finite.code {R = int_cmp} coded_ℤ item_code))))
    (λ held. (held.rows, (held.pending, (held.meta, held.log))))
    (λ maps. record { rows = maps.0; pending = maps.1.0; meta = maps.1.1.0; log = maps.1.1.1 }) (λ _. refl)

-- what a new store holds
abbrev pub nothing : Contents
nothing = record { rows = empty; pending = empty; meta = empty; log = empty }

-- the bytes of a name
abbrev pub name_text : MetaName → List ℕ
name_text Id = codes "id"
name_text Version = codes "version"
name_text Number = codes "number"
name_text Flight = codes "flight"
name_text Pending = codes "pending"
name_text Catalog = codes "catalog"

-- the tables: at a table's number and the bytes of a key the bytes of a row, or none
abbrev pub stored_tables : Contents → ℕ → List ℕ → Option (List ℕ)
stored_tables contents table key = get contents.rows (pos table, key)

-- the pending changes in the same form
abbrev pub stored_pending : Contents → ℕ → List ℕ → Option (List ℕ)
stored_pending contents table key = get contents.pending (pos table, key)

-- the value of a name, or none
abbrev pub meta_value : Contents → MetaName → Option (List ℕ)
meta_value contents name = get contents.meta (name_text name)

-- the entry of the log at a version, or none
abbrev pub log_entry : Contents → ℕ → Option LogItem
log_entry contents version = get contents.log (pos version)

-- how many entries the log has
abbrev pub log_count : Contents → ℕ
log_count contents = len contents.log

-- an entry, if there is one, before others; none where there is none
abbrev pub entry_before : Option LogItem → List LogItem → List LogItem
entry_before None items = []
entry_before (Some item) items = item ∷ items

-- the entries of the log from a version on, at most so many, up to the first version that has none
abbrev pub log_range : Contents → ℕ → ℕ → List LogItem
log_range contents first zero = []
log_range contents first (suc count) = entry_before (log_entry contents first) (log_range contents (first + 1) count)

-- a table's rows as a list: the bytes of the keys rise, and what is found at a key is what stands there
pub record IsListing (table : List ℕ → Option (List ℕ)) (rows : List (List ℕ × List ℕ)) : Type 0 where
  pub rises : T (is_sorted by_bytes rows)
  pub found : (key : List ℕ) → find by_bytes key rows ≡ table key

-- an entry stands at each version below their count
abbrev pub HasEachEntry : Contents → Type 0
HasEachEntry contents = (version : ℕ) → version < log_count contents → IsSome (log_entry contents version)
