-- The places of the changes that are applied, as they are held.
use Rattle.std.specs.Prelude.{ℕ, List, map}
use Rattle.cs_order.specs.Order.{Keys}
use Rattle.cs_store.specs.States.{place_bytes}
use Rattle.cs_tasks.specs.declared.task_places.Held.{Held}
use Rattle.cs_tasks.specs.declared.task_places.Held.TheVariants.{Lent, Own}

-- the numbers of the tables, and the bytes of the places
abbrev pub places_held : Held → List ℕ × Keys
places_held (Lent table keys) = (map (λ key. table) keys, map (place_bytes table) keys)
places_held (Own tables places) = (tables.items, places)
