-- How a meeting of a hub and a replica over two stores ends (profile of this project).
use Rattle.std.specs.Prelude.{◌≡◌, ◌⊎◌, ℕ, Bool, List, [], ◌∷◌, ◌++◌, Option, Result, Ok, Err}
use Rattle.std.specs.Io.KnownBytes.{Appends, Keeps}
use Rattle.cs_conflict.specs.declared.wish.Wish.{Wish}
use Rattle.cs_hub.specs.Holding as hub
use Rattle.cs_node_lines.specs.hub.Endings.{IsOpenedOver, NotOpenedOver}
use Rattle.cs_node_lines.specs.told.Dump.{replica_text}
use Rattle.cs_node_lines.specs.working.Endings.{NotOpened, printed}
use Rattle.cs_opening.specs.declared.fault.OpenFault.{OpenFault}
use Rattle.cs_opening.specs.Wider.{AreWider, IsOpenedBy}
use Rattle.cs_pending.specs.declared.position.position.Position.{Position}
use Rattle.cs_replica.specs.Holding as replica
use Rattle.cs_store.specs.declared.log.entry.TheConstants.{MAX_ENTRIES}
use Rattle.cs_store.specs.declared.store.RowStore.{Ghosts}
use Rattle.cs_text.specs.Text.{line}
use Rattle.cs_value.specs.declared.catalog.TableDef.{TableDef}
use Rattle.cs_world.specs.World.{World}
use Rattle.cs_meeting.specs.Held.{GoesOn, Held}
use Rattle.cs_meeting.specs.Turns.{Meets, TakesMeetingTurns}
use Rattle.cs_meeting.specs.declared.fault.MeetingFault.{MeetingFault}
use Rattle.cs_meeting.specs.declared.fault.MeetingFault.TheVariants as fault

-- what is printed where a text isn't: those before it, and a front of its own where the writer failed
abbrev pub BreaksOff : MeetingFault → Type 0 → Option (List ℕ) → Option (List ℕ) → List ℕ → List ℕ → Type 0
BreaksOff fault.Memory write_failed old new before text = Appends old new before
BreaksOff fault.Write write_failed old new before text =
    (front : List ℕ) × (after : List ℕ) × (text ≡ front ++ after) × Appends old new (before ++ front) × write_failed
BreaksOff (fault.Hub why) write_failed old new before text = ⊥
BreaksOff (fault.Replica why) write_failed old new before text = ⊥

-- the text is that of the last turn; or it is where the replica stands; or memory was refused before a turn
abbrev pub IsCutText : MeetingFault → List (List ℕ) → List ℕ → List ℕ → Type 0
IsCutText why untold text place = (untold ≡ text ∷ []) ⊎ ((untold ≡ []) × ((text ≡ place) ⊎ (why ≡ fault.Memory)))

module _ {S : Type 0} (g : Ghosts S) (tables : List TableDef) (id : ℕ) where
  -- the replica with this id was opened over the store, by these tables or wider ones that it keeps
  pub record IsReplicaOver (store : S) (opened : replica.Holding S) : Type 0 where
    pub tables_are : AreWider tables opened.catalog
    pub id_is : opened.position.id ≡ id
    pub was_honest : g.honest opened.store → g.honest store
    pub is_opened : g.honest opened.store → IsOpenedBy tables id (g.contents store) (g.contents opened.store) opened.catalog opened.position

  -- both were opened over their stores. Each sound world that these then showed, of which the replica is number `id`, went on so,
  -- and the stores show it in the end
  pub record Met (step : World → World → Type 0) (hub_store hub_last store last : S) (position : Position) : Type 0 where
    pub first : Held S
    pub end : Held S
    pub hub_opened : IsOpenedOver g tables hub_store first.hub
    pub replica_opened : IsReplicaOver store first.replica
    pub hub_left : hub_last ≡ end.hub.store
    pub replica_left : last ≡ end.replica.store
    pub position_is : position ≡ end.replica.position
    pub went : GoesOn g MAX_ENTRIES id step first end

  -- they met, and the texts of all turns are printed, and where the replica stands in the end
  abbrev pub EndsMet : Wish → S → S → S → S → Option (List ℕ) → Option (List ℕ) → Bool → Type 0
  EndsMet wish hub_store hub_last store last old new at_rest =
      (texts : List (List ℕ)) × (position : Position)
      × Met (λ world next. Meets MAX_ENTRIES id wish at_rest world texts next) hub_store hub_last store last position
      × Appends old new (printed (texts ++ line (replica_text position.id position) ∷ []))

  -- or some turns were taken, and a text isn't printed whole: memory was refused for it, or the writer failed
  abbrev pub EndsEarly : Wish → S → S → S → S → Type 0 → Option (List ℕ) → Option (List ℕ) → MeetingFault → Type 0
  EndsEarly wish hub_store hub_last store last write_failed old new why =
      (told : List (List ℕ)) × (untold : List (List ℕ)) × (text : List ℕ) × (position : Position)
      × Met (λ world next. TakesMeetingTurns MAX_ENTRIES id wish world (told ++ untold) next) hub_store hub_last store last position
      × IsCutText why untold text (line (replica_text position.id position)) × BreaksOff why write_failed old new (printed told) text

  -- they met; or it ended early; or the hub or the replica isn't opened, and nothing was printed
  abbrev pub EndsMeeting : Wish → S → S → S → S → Type 0 → Option (List ℕ) → Option (List ℕ) → Result Bool MeetingFault → Type 0
  EndsMeeting wish hub_store hub_last store last write_failed old new (Ok at_rest) = EndsMet wish hub_store hub_last store last old new at_rest
  EndsMeeting wish hub_store hub_last store last write_failed old new (Err why) =
      EndsEarly wish hub_store hub_last store last write_failed old new why
      ⊎ (((reason : OpenFault) × (why ≡ fault.Hub reason) × NotOpenedOver g tables hub_store hub_last reason × (last ≡ store) × Keeps old new)
      ⊎ ((reason : OpenFault) × (opened : hub.Holding S) × (why ≡ fault.Replica reason) × IsOpenedOver g tables hub_store opened × (hub_last ≡ opened.store)
      × NotOpened g tables id store last reason × Keeps old new))
