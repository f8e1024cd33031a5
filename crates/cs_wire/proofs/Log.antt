-- Entries of a log, as they are told.
use Rattle.std.proofs.Common.{◌≡◌, ◌<◌, List, [], ◌∷◌, map, refl, arith}
use Rattle.std.specs.List.{AllByRecursion}
use Rattle.std.proofs.lemmas.List.{length-map}
use Rattle.std.proofs.lemmas.List.Elements.{recursion_from_All}
use Rattle.cs_store.specs.log.Entry.{kind_of}
use Rattle.cs_store.specs.declared.log.body.Body.{Body}
use Rattle.cs_store.specs.declared.log.body.Body.TheVariants.{Changes, Widen}
use Rattle.cs_store.specs.declared.log.entry.LogEntry.{LogEntry}
use Rattle.cs_wire.specs.Entries.{FitsEntry, kinds}
use Rattle.cs_wire.specs.Laws.{HasNumbersInRange, ToldAreRead}
use Rattle.cs_wire.specs.Told.{FitsMessage, told_entry}

its_kind : (body : Body) → kind_of body < kinds
its_kind (Changes changes) = omega arith
its_kind (Widen table width) = omega arith

told_fit : (log : List LogEntry) → AllByRecursion FitsMessage log → AllByRecursion HasNumbersInRange log → AllByRecursion FitsEntry (map told_entry log)
told_fit [] fit range = tt
told_fit (e ∷ es) fit range = ((its_kind e.body, (range.0.0, range.0.1, omega (arith, fit.0))), told_fit es fit.1 range.1)

pub told_are_read : ToldAreRead
told_are_read first log ff few fit range =
    ((ff, rw (length-map log told_entry) few), told_fit log (recursion_from_All FitsMessage log fit) (recursion_from_All HasNumbersInRange log range))
