-- How a meeting over two stores ends.
use Rattle.std.proofs.Common.{◌≡◌, Bool, List, Result, Ok, Err, inl, refl, ℕ}
use Rattle.std.specs.Prelude.{Option}
use Rattle.cs_conflict.specs.declared.wish.Wish.{Wish}
use Rattle.cs_node_lines.specs.hub.Endings.{IsOpenedOver}
use Rattle.cs_store.specs.declared.store.RowStore.{Ghosts}
use Rattle.cs_value.specs.declared.catalog.TableDef.{TableDef}
use Rattle.cs_meeting.specs.Ends.{EndsMeeting, IsReplicaOver}
use Rattle.cs_meeting.specs.Held.{Held}
use Rattle.cs_meeting.specs.Steps.{MetTold}
use Rattle.cs_meeting.specs.declared.fault.MeetingFault.{MeetingFault}

module _ {S : Type 0} (g : Ghosts S) (tables : List TableDef) (id : ℕ) (wish : Wish) where
  pub ends_meeting : (hub_store hub_last store last : S) (write_failed : Type 0) (before after : Option (List ℕ)) (result : Result Bool MeetingFault) (first end : Held S)
      → IsOpenedOver g tables hub_store first.hub → IsReplicaOver g tables id store first.replica → hub_last ≡ end.hub.store → last ≡ end.replica.store
      → MetTold g wish result write_failed before after first end → EndsMeeting g tables id wish hub_store hub_last store last write_failed before after result
  ends_meeting hub_store hub_last store last write_failed before after (Ok at_rest) first end hub_opened replica_opened hub_left left (texts, goes, prints) = (
    texts,
    end.replica.position,
    record { first = first; end = end; hub_opened = hub_opened; replica_opened = replica_opened; hub_left = hub_left; replica_left = left; position_is = refl; went = goes id },
    prints,
  )
  ends_meeting hub_store hub_last store last write_failed before after (Err why) first end hub_opened replica_opened hub_left left (told, untold, text, goes, cut, breaks) = inl (
    told,
    untold,
    text,
    end.replica.position,
    record { first = first; end = end; hub_opened = hub_opened; replica_opened = replica_opened; hub_left = hub_left; replica_left = left; position_is = refl; went = goes id },
    cut,
    breaks,
  )
