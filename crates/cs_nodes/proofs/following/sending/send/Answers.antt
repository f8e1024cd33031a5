use Rattle.std.proofs.Common.{◌≡◌, ◌<◌, ◌+◌, ◌^◌, ◌∷◌, [], arith, refl, inl, Bool, List, Option, Some, Err, Ok, length, slice_get, ap, subst, sym, ◌∙◌}
use Rattle.std.specs.Prelude.{IfSome}
use Rattle.cs_value.specs.declared.catalog.TableDef.{TableDef}
use Rattle.cs_normal.specs.State.{IsDefinedOn}
use Rattle.cs_store.specs.log.Entry.{entry_changes}
use Rattle.cs_store.specs.log.Log.{catalog_after, tables_at}
use Rattle.cs_store.specs.declared.log.entry.LogEntry.{LogEntry}
use Rattle.cs_pending.specs.View.{View}
use Rattle.cs_pending.specs.position.Shows.{ShowsAt}
use Rattle.cs_pending.specs.declared.position.position.Position.{Position}
use Rattle.cs_exchange.specs.pulling.Pulls.{IsPulledIn}
use Rattle.cs_exchange.specs.pushing.Pushes.{IsPushMadeIn}
use Rattle.cs_replica.specs.Flight.{flight_entry}
use Rattle.cs_spine.specs.Known.{Known}
use Rattle.cs_spine.specs.declared.fault.OfferFault.{OfferFault}
use Rattle.cs_spine.specs.declared.spine.Offered.TheVariants.{Mine, Other}
use Rattle.cs_nodes.proofs.FollowingLemmas.Along.{stayed_at, went_on}
use Rattle.cs_nodes.proofs.FollowingLemmas.InTurn.{one_failed, one_more, turned_early, turned_on, all_well}
use Rattle.cs_nodes.specs.following.Pulls.{IsTakeFault}
use Rattle.cs_nodes.specs.following.Pushes.{IsReadied}
use Rattle.cs_nodes.specs.declared.following.fault.NodeFault.{NodeFault}
use Rattle.cs_nodes.specs.declared.following.fault.NodeFault.TheVariants.{Device, BadEntry}
use Rattle.cs_nodes.proofs.FollowingLemmas.Sent.{full_sent, made_leaves, memory_sent, mine_sent, never_none, not_made, other_sent, stopped_sent, taken_leaves, taken_next}
use Rattle.cs_nodes.proofs.FollowingLemmas.Stood.{are_tables, stands_longer}
use Rattle.cs_nodes.proofs.following.sending.send.Goals as goal

pub returns-in-Err-clause-writes : goal.returns-in-Err-clause-writes
returns-in-Err-clause-writes g c =
    turned_early g.S.RowStore _ _ _ _ _ c.args.replica.now.store c.make_ready.new.replica.store (made_leaves g.P.Picker.picks c.args.replica.now.catalog c.args.replica.now.position (g.S.RowStore.contents c.args.replica.now.store) c.args.picker.now)
    _ _ c.in-Err.ensures.writes (λ left made. inl (subst (λ (t : List TableDef). IsPushMadeIn t c.make_ready.new.replica.position (g.S.RowStore.contents c.make_ready.new.replica.store) left) (sym c.make_ready.ensures.catalog) made)) _ _ (λ d. d) (λ t. let e : c.in-Err.fault ≡ Device = (let i = t in cc) in ap (λ (f : NodeFault). Err f) e)

pub returns-then-not-ready-clause-writes : goal.returns-then-not-ready-clause-writes
returns-then-not-ready-clause-writes g c =
    turned_early g.S.RowStore _ _ _ _ _ c.args.replica.now.store c.make_ready.new.replica.store (made_leaves g.P.Picker.picks c.args.replica.now.catalog c.args.replica.now.position (g.S.RowStore.contents c.args.replica.now.store) c.args.picker.now)
    _ _ c.in-Ok.ensures.writes (λ left made. inl (subst (λ (t : List TableDef). IsPushMadeIn t c.make_ready.new.replica.position (g.S.RowStore.contents c.make_ready.new.replica.store) left) (sym c.make_ready.ensures.catalog) made)) _ _ (λ d. d) (λ t. absurd (let i = t in cc))

pub returns-in-Err-flight_entry-clause-writes : goal.returns-in-Err-flight_entry-clause-writes
returns-in-Err-flight_entry-clause-writes g c =
    turned_early g.S.RowStore _ _ _ _ _ c.args.replica.now.store c.make_ready.new.replica.store (made_leaves g.P.Picker.picks c.args.replica.now.catalog c.args.replica.now.position (g.S.RowStore.contents c.args.replica.now.store) c.args.picker.now)
    _ _ c.in-Ok.ensures.writes (λ left made. inl (subst (λ (t : List TableDef). IsPushMadeIn t c.make_ready.new.replica.position (g.S.RowStore.contents c.make_ready.new.replica.store) left) (sym c.make_ready.ensures.catalog) made)) _ _ (λ d. d) (λ t. absurd (let i = t in cc))

pub returns-in_default-clause-writes : goal.returns-in_default-clause-writes
returns-in_default-clause-writes g c =
    turned_early g.S.RowStore _ _ _ _ _ c.args.replica.now.store c.make_ready.new.replica.store (made_leaves g.P.Picker.picks c.args.replica.now.catalog c.args.replica.now.position (g.S.RowStore.contents c.args.replica.now.store) c.args.picker.now)
    _ _ c.in-Ok.ensures.writes (λ left made. inl (subst (λ (t : List TableDef). IsPushMadeIn t c.make_ready.new.replica.position (g.S.RowStore.contents c.make_ready.new.replica.store) left) (sym c.make_ready.ensures.catalog) made)) _ _ (λ d. d) (λ t. absurd (let i = t in cc))

pub returns-in-Err-Full-clause-writes : goal.returns-in-Err-Full-clause-writes
returns-in-Err-Full-clause-writes g c =
    turned_early g.S.RowStore _ _ _ _ _ c.args.replica.now.store c.make_ready.new.replica.store (made_leaves g.P.Picker.picks c.args.replica.now.catalog c.args.replica.now.position (g.S.RowStore.contents c.args.replica.now.store) c.args.picker.now)
    _ _ c.in-Ok.ensures.writes (λ left made. inl (subst (λ (t : List TableDef). IsPushMadeIn t c.make_ready.new.replica.position (g.S.RowStore.contents c.make_ready.new.replica.store) left) (sym c.make_ready.ensures.catalog) made)) _ _ (λ d. d) (λ t. absurd (let i = t in cc))

pub returns-in-Err-Memory-clause-writes : goal.returns-in-Err-Memory-clause-writes
returns-in-Err-Memory-clause-writes g c =
    turned_early g.S.RowStore _ _ _ _ _ c.args.replica.now.store c.make_ready.new.replica.store (made_leaves g.P.Picker.picks c.args.replica.now.catalog c.args.replica.now.position (g.S.RowStore.contents c.args.replica.now.store) c.args.picker.now)
    _ _ c.in-Ok.ensures.writes (λ left made. inl (subst (λ (t : List TableDef). IsPushMadeIn t c.make_ready.new.replica.position (g.S.RowStore.contents c.make_ready.new.replica.store) left) (sym c.make_ready.ensures.catalog) made)) _ _ (λ d. d) (λ t. absurd (let i = t in cc))

pub returns-in-Err-Full-clause-pushed : goal.returns-in-Err-Full-clause-pushed
returns-in-Err-Full-clause-pushed g c = λ h stands before shows.
    let s = stands (c.in-Ok.ensures.writes.was_honest h) in
    let ready = subst (λ (b : Bool). IsReadied c.args.replica.now.catalog c.args.replica.now.position before b c.make_ready.new.replica.position (g.S.RowStore.contents c.make_ready.new.replica.store)) c.if-not-ready.false (c.in-Ok.ensures.readied h (are_tables c.catalogs_are_tables.ensures c.args.replica.now.catalog c.args.pass.now.known c.args.replica.now.position s.0 s.2) before shows) in
    full_sent g.P.Picker.picks c.args.replica.now.catalog c.args.pass.now.known c.args.replica.now.position before c.args.picker.now c.args.spine.now.cap c.make_ready.new.replica.catalog c.make_ready.ensures.catalog c.make_ready.new.replica.position (g.S.RowStore.contents c.make_ready.new.replica.store) c.offer.new.pass.known ready c.requires.level (c.in-Err-Full.ensures.full.0 (ap (λ (f : OfferFault). Err f) c.in-Err-Full.field-0-is)) (ap (λ (k : Known). k.known) c.in-Err-Full.ensures.refused)

pub returns-in-Err-Memory-clause-pushed : goal.returns-in-Err-Memory-clause-pushed
returns-in-Err-Memory-clause-pushed g c = λ h stands before shows.
    let s = stands (c.in-Ok.ensures.writes.was_honest h) in
    let ready = subst (λ (b : Bool). IsReadied c.args.replica.now.catalog c.args.replica.now.position before b c.make_ready.new.replica.position (g.S.RowStore.contents c.make_ready.new.replica.store)) c.if-not-ready.false (c.in-Ok.ensures.readied h (are_tables c.catalogs_are_tables.ensures c.args.replica.now.catalog c.args.pass.now.known c.args.replica.now.position s.0 s.2) before shows) in
    memory_sent g.P.Picker.picks c.args.replica.now.catalog c.args.pass.now.known c.args.replica.now.position before c.args.picker.now c.args.spine.now.cap c.make_ready.new.replica.catalog c.make_ready.ensures.catalog c.make_ready.new.replica.position (g.S.RowStore.contents c.make_ready.new.replica.store) c.offer.new.pass.known ready (ap (λ (k : Known). k.known) c.in-Err-Memory.ensures.refused)

pub returns-in-Err-take_standing-clause-pushed : goal.returns-in-Err-take_standing-clause-pushed
returns-in-Err-take_standing-clause-pushed g c = λ h stands before shows.
    let h' = c.in-Err-take_standing.ensures.writes.was_honest h in
    let s = stands (c.in-Ok.ensures.writes.was_honest h') in
    let ready = subst (λ (b : Bool). IsReadied c.args.replica.now.catalog c.args.replica.now.position before b c.make_ready.new.replica.position (g.S.RowStore.contents c.make_ready.new.replica.store)) c.if-not-ready.false (c.in-Ok.ensures.readied h' (are_tables c.catalogs_are_tables.ensures c.args.replica.now.catalog c.args.pass.now.known c.args.replica.now.position s.0 s.2) before shows) in
    let held = c.in-Ok-offer.ensures.learned in
    let at : slice_get c.offer.new.pass.known (length c.args.pass.now.known) ≡ Some c.entry.result.now = rw c.len-at.ensures.len at c.entry.ensures in
    stopped_sent g.P.Picker.picks c.args.replica.now.catalog c.args.pass.now.known c.args.replica.now.position before c.args.picker.now c.args.spine.now.cap c.make_ready.new.replica.position (g.S.RowStore.contents c.make_ready.new.replica.store) ready c.offer.new.pass.known held.0 held.1 c.entry.result.now at c.requires.level c.take_standing.new.picker
    c.in-Err-take_standing.fault c.take_standing.new.replica.catalog (c.in-Err-take_standing.ensures.catalog ∙ c.make_ready.ensures.catalog) c.take_standing.new.replica.position (g.S.RowStore.contents c.take_standing.new.replica.store) (c.in-Err-take_standing.ensures.writes.err h) c.in-Err-take_standing.ensures.kept
    (subst (λ (t : List TableDef). (view : View) → ShowsAt t (g.S.RowStore.contents c.make_ready.new.replica.store) c.make_ready.new.replica.position view → IsTakeFault g.P.Picker.picks t c.in-Err-take_standing.fault c.make_ready.new.replica.position c.entry.result.now view c.args.picker.now c.take_standing.new.picker)
    c.make_ready.ensures.catalog (c.in-Err-take_standing.ensures.refused h))

pub returns-in-Err-take_standing-clause-stands : goal.returns-in-Err-take_standing-clause-stands
returns-in-Err-take_standing-clause-stands g c = λ stands.
    let held = c.in-Ok-offer.ensures.learned in
    let at : slice_get c.offer.new.pass.known (length c.args.pass.now.known) ≡ Some c.entry.result.now = rw c.len-at.ensures.len at c.entry.ensures in
    let level : c.make_ready.new.replica.position.version ≡ length c.args.pass.now.known = c.make_ready.ensures.version ∙ c.requires.level in
    let here : slice_get c.offer.new.pass.known c.make_ready.new.replica.position.version ≡ Some c.entry.result.now = ap (λ n. slice_get c.offer.new.pass.known n) level ∙ at in
    let further = stands_longer g.S.RowStore c.stands_longer.ensures c.args.pass.now.known (held.0 ∷ []) c.offer.new.pass.known c.make_ready.new.replica held.1 (c.in-Ok.ensures.stands c.args.pass.now.known stands) in
    c.take_standing.ensures.stands c.offer.new.pass.known here further

pub returns-in-Err-take_standing-clause-bad : goal.returns-in-Err-take_standing-clause-bad
returns-in-Err-take_standing-clause-bad g c = λ stands is h.
    let held = c.in-Ok-offer.ensures.learned in
    let at : slice_get c.offer.new.pass.known (length c.args.pass.now.known) ≡ Some c.entry.result.now = rw c.len-at.ensures.len at c.entry.ensures in
    let level : c.make_ready.new.replica.position.version ≡ length c.args.pass.now.known = c.make_ready.ensures.version ∙ c.requires.level in
    let here : slice_get c.offer.new.pass.known c.make_ready.new.replica.position.version ≡ Some c.entry.result.now = ap (λ n. slice_get c.offer.new.pass.known n) level ∙ at in
    let further = stands_longer g.S.RowStore c.stands_longer.ensures c.args.pass.now.known (held.0 ∷ []) c.offer.new.pass.known c.make_ready.new.replica held.1 (c.in-Ok.ensures.stands c.args.pass.now.known stands) in
    let bad : c.in-Err-take_standing.fault ≡ BadEntry = (let i = is in cc) in
    c.in-Err-take_standing.ensures.bad c.offer.new.pass.known here (let short : length c.offer.new.pass.known < 2 ^ 64 = omega (arith, c.len-known.ensures.len, c.len-known.type_inv) in short) further (ap (λ (f : NodeFault). Err f) bad) h

pub returns-in-Mine-clause-pushed : goal.returns-in-Mine-clause-pushed
returns-in-Mine-clause-pushed g c = λ h stands before shows.
    let h' = c.in-Ok-take_standing.ensures.writes.was_honest h in
    let s = stands (c.in-Ok.ensures.writes.was_honest h') in
    let ready = subst (λ (b : Bool). IsReadied c.args.replica.now.catalog c.args.replica.now.position before b c.make_ready.new.replica.position (g.S.RowStore.contents c.make_ready.new.replica.store)) c.if-not-ready.false (c.in-Ok.ensures.readied h' (are_tables c.catalogs_are_tables.ensures c.args.replica.now.catalog c.args.pass.now.known c.args.replica.now.position s.0 s.2) before shows) in
    let held = c.in-Ok-offer.ensures.learned in
    let at : slice_get c.offer.new.pass.known (length c.args.pass.now.known) ≡ Some c.entry.result.now = rw c.len-at.ensures.len at c.entry.ensures in
    let shown : ShowsAt c.args.replica.now.catalog (g.S.RowStore.contents c.make_ready.new.replica.store) c.make_ready.new.replica.position ready.0 = ready.1 in
    let flight : flight_entry c.make_ready.new.replica.position ≡ Some c.in-Some.mine = sym c.in-Ok-flight_entry.ensures.entry ∙ c.in-Some.is in
    let defined : IsDefinedOn c.args.replica.now.catalog (entry_changes c.in-Some.mine) (tables_at c.args.pass.now.known c.args.replica.now.position.version) =
    subst (λ v. IsDefinedOn c.args.replica.now.catalog (entry_changes c.in-Some.mine) (tables_at c.args.pass.now.known v)) c.make_ready.ensures.version
    (subst (λ (t : List TableDef). IsDefinedOn t (entry_changes c.in-Some.mine) (tables_at c.args.pass.now.known c.make_ready.new.replica.position.version)) c.make_ready.ensures.catalog
    (subst (λ (o : Option LogEntry). IfSome o (λ entry. IsDefinedOn c.make_ready.new.replica.catalog (entry_changes entry) (tables_at c.args.pass.now.known c.make_ready.new.replica.position.version))) c.in-Some.is
    (c.in-Ok-flight_entry.ensures.defined c.args.pass.now.known (c.in-Ok.ensures.stands c.args.pass.now.known stands) h'))) in
    rw c.version.ensures (mine_sent g.P.Picker.picks c.args.replica.now.catalog c.args.pass.now.known c.args.replica.now.position before c.args.picker.now c.args.spine.now.cap c.make_ready.new.replica.position (g.S.RowStore.contents c.make_ready.new.replica.store) ready c.offer.new.pass.known held.0 held.1 c.entry.result.now at c.requires.level c.take_standing.new.picker
    c.take_standing.new.replica.catalog (c.in-Ok-take_standing.ensures.wide ∙ ap (λ (t : List TableDef). catalog_after t c.entry.result.now.body) c.make_ready.ensures.catalog) c.take_standing.new.replica.position (g.S.RowStore.contents c.take_standing.new.replica.store) c.in-Some.mine flight defined
    (subst (λ (t : List TableDef). IsPulledIn g.P.Picker.picks t c.make_ready.new.replica.position c.entry.result.now c.args.picker.now c.take_standing.new.picker (g.S.RowStore.contents c.make_ready.new.replica.store) (g.S.RowStore.contents c.take_standing.new.replica.store)) c.make_ready.ensures.catalog (c.in-Ok-take_standing.ensures.writes.ok h))
    c.in-Ok-take_standing.ensures.moved (c.in-Ok-take_standing.ensures.counted h (ready.0, subst (λ (t : List TableDef). ShowsAt t (g.S.RowStore.contents c.make_ready.new.replica.store) c.make_ready.new.replica.position ready.0) (sym c.make_ready.ensures.catalog) shown))
    (held.2.0 c.in-Mine.is))

pub returns-clause-pushed : goal.returns-clause-pushed
returns-clause-pushed g c = λ h stands before shows.
    let h' = c.in-Ok-take_standing.ensures.writes.was_honest h in
    let s = stands (c.in-Ok.ensures.writes.was_honest h') in
    let ready = subst (λ (b : Bool). IsReadied c.args.replica.now.catalog c.args.replica.now.position before b c.make_ready.new.replica.position (g.S.RowStore.contents c.make_ready.new.replica.store)) c.if-not-ready.false (c.in-Ok.ensures.readied h' (are_tables c.catalogs_are_tables.ensures c.args.replica.now.catalog c.args.pass.now.known c.args.replica.now.position s.0 s.2) before shows) in
    let held = c.in-Ok-offer.ensures.learned in
    let at : slice_get c.offer.new.pass.known (length c.args.pass.now.known) ≡ Some c.entry.result.now = rw c.len-at.ensures.len at c.entry.ensures in
    let shown : ShowsAt c.args.replica.now.catalog (g.S.RowStore.contents c.make_ready.new.replica.store) c.make_ready.new.replica.position ready.0 = ready.1 in
    let flight : flight_entry c.make_ready.new.replica.position ≡ Some c.in-Some.mine = sym c.in-Ok-flight_entry.ensures.entry ∙ c.in-Some.is in
    let defined : IsDefinedOn c.args.replica.now.catalog (entry_changes c.in-Some.mine) (tables_at c.args.pass.now.known c.args.replica.now.position.version) =
    subst (λ v. IsDefinedOn c.args.replica.now.catalog (entry_changes c.in-Some.mine) (tables_at c.args.pass.now.known v)) c.make_ready.ensures.version
    (subst (λ (t : List TableDef). IsDefinedOn t (entry_changes c.in-Some.mine) (tables_at c.args.pass.now.known c.make_ready.new.replica.position.version)) c.make_ready.ensures.catalog
    (subst (λ (o : Option LogEntry). IfSome o (λ entry. IsDefinedOn c.make_ready.new.replica.catalog (entry_changes entry) (tables_at c.args.pass.now.known c.make_ready.new.replica.position.version))) c.in-Some.is
    (c.in-Ok-flight_entry.ensures.defined c.args.pass.now.known (c.in-Ok.ensures.stands c.args.pass.now.known stands) h'))) in
    rw c.version-in-Other.ensures (other_sent g.P.Picker.picks c.args.replica.now.catalog c.args.pass.now.known c.args.replica.now.position before c.args.picker.now c.args.spine.now.cap c.make_ready.new.replica.position (g.S.RowStore.contents c.make_ready.new.replica.store) ready c.offer.new.pass.known held.0 held.1 c.entry.result.now at c.requires.level c.take_standing.new.picker
    c.take_standing.new.replica.catalog (c.in-Ok-take_standing.ensures.wide ∙ ap (λ (t : List TableDef). catalog_after t c.entry.result.now.body) c.make_ready.ensures.catalog) c.take_standing.new.replica.position (g.S.RowStore.contents c.take_standing.new.replica.store) c.in-Some.mine flight defined
    (subst (λ (t : List TableDef). IsPulledIn g.P.Picker.picks t c.make_ready.new.replica.position c.entry.result.now c.args.picker.now c.take_standing.new.picker (g.S.RowStore.contents c.make_ready.new.replica.store) (g.S.RowStore.contents c.take_standing.new.replica.store)) c.make_ready.ensures.catalog (c.in-Ok-take_standing.ensures.writes.ok h))
    c.in-Ok-take_standing.ensures.moved (c.in-Ok-take_standing.ensures.counted h (ready.0, subst (λ (t : List TableDef). ShowsAt t (g.S.RowStore.contents c.make_ready.new.replica.store) c.make_ready.new.replica.position ready.0) (sym c.make_ready.ensures.catalog) shown))
    (λ same. let mine : c.in-Ok-offer.offered ≡ Mine = held.2.1 same in let other : c.in-Ok-offer.offered ≡ Other = c.in-Other.is in cc))

pub returns-in-Mine-clause-stands : goal.returns-in-Mine-clause-stands
returns-in-Mine-clause-stands g c = λ stands.
    let held = c.in-Ok-offer.ensures.learned in
    let at : slice_get c.offer.new.pass.known (length c.args.pass.now.known) ≡ Some c.entry.result.now = rw c.len-at.ensures.len at c.entry.ensures in
    let level : c.make_ready.new.replica.position.version ≡ length c.args.pass.now.known = c.make_ready.ensures.version ∙ c.requires.level in
    let here : slice_get c.offer.new.pass.known c.make_ready.new.replica.position.version ≡ Some c.entry.result.now = ap (λ n. slice_get c.offer.new.pass.known n) level ∙ at in
    let further = stands_longer g.S.RowStore c.stands_longer.ensures c.args.pass.now.known (held.0 ∷ []) c.offer.new.pass.known c.make_ready.new.replica held.1 (c.in-Ok.ensures.stands c.args.pass.now.known stands) in
    c.take_standing.ensures.stands c.offer.new.pass.known here further

pub returns-clause-stands : goal.returns-clause-stands
returns-clause-stands g c = λ stands.
    let held = c.in-Ok-offer.ensures.learned in
    let at : slice_get c.offer.new.pass.known (length c.args.pass.now.known) ≡ Some c.entry.result.now = rw c.len-at.ensures.len at c.entry.ensures in
    let level : c.make_ready.new.replica.position.version ≡ length c.args.pass.now.known = c.make_ready.ensures.version ∙ c.requires.level in
    let here : slice_get c.offer.new.pass.known c.make_ready.new.replica.position.version ≡ Some c.entry.result.now = ap (λ n. slice_get c.offer.new.pass.known n) level ∙ at in
    let further = stands_longer g.S.RowStore c.stands_longer.ensures c.args.pass.now.known (held.0 ∷ []) c.offer.new.pass.known c.make_ready.new.replica held.1 (c.in-Ok.ensures.stands c.args.pass.now.known stands) in
    c.take_standing.ensures.stands c.offer.new.pass.known here further

pub returns-in-Err-take_standing-clause-writes : goal.returns-in-Err-take_standing-clause-writes
returns-in-Err-take_standing-clause-writes g c =
    one_failed g.S.RowStore _ _ _ _ _ _ c.args.replica.now.store c.make_ready.new.replica.store c.take_standing.new.replica.store
    (λ h some. c.shown.ensures.shown h)
    (λ h left pulled. taken_leaves g.P.Picker.picks c.args.replica.now.catalog c.args.replica.now.position c.make_ready.new.replica.position (g.S.RowStore.contents c.args.replica.now.store) (g.S.RowStore.contents c.make_ready.new.replica.store) c.args.picker.now c.take_standing.new.picker c.entry.result.now
    (λ are before shows. subst (λ (b : Bool). IsReadied c.args.replica.now.catalog c.args.replica.now.position before b c.make_ready.new.replica.position (g.S.RowStore.contents c.make_ready.new.replica.store)) c.if-not-ready.false (c.in-Ok.ensures.readied h are before shows)) left
    (subst (λ (t : List TableDef). IsPulledIn g.P.Picker.picks t c.make_ready.new.replica.position c.entry.result.now c.args.picker.now c.take_standing.new.picker (g.S.RowStore.contents c.make_ready.new.replica.store) left) c.make_ready.ensures.catalog pulled))
    (turned_on g.S.RowStore _ _ _ _ (λ left. ⊥) c.args.replica.now.store c.make_ready.new.replica.store (made_leaves g.P.Picker.picks c.args.replica.now.catalog c.args.replica.now.position (g.S.RowStore.contents c.args.replica.now.store) c.args.picker.now) _ _ c.in-Ok.ensures.writes (ap (λ (b : Bool). Ok b) c.if-not-ready.false))
    Device c.in-Err-take_standing.fault _ _ (λ d. d) (λ t. let i = t in cc)
    (taken_next g.P.Picker.picks c.make_ready.new.replica.catalog c.take_standing.new.replica.catalog c.make_ready.new.replica.position c.take_standing.new.replica.position (g.S.RowStore.contents c.make_ready.new.replica.store) (g.S.RowStore.contents c.take_standing.new.replica.store) c.args.picker.now c.take_standing.new.picker
    c.offer.new.pass.known c.entry.result.now c.in-Err-take_standing.ensures.catalog c.in-Err-take_standing.ensures.kept
    (let at : slice_get c.offer.new.pass.known (length c.args.pass.now.known) ≡ Some c.entry.result.now = rw c.len-at.ensures.len at c.entry.ensures in
    ap (λ n. slice_get c.offer.new.pass.known n) (c.make_ready.ensures.version ∙ c.requires.level) ∙ at))
    c.in-Err-take_standing.ensures.writes

pub returns-in-Mine-clause-writes : goal.returns-in-Mine-clause-writes
returns-in-Mine-clause-writes g c =
    all_well g.S.RowStore _ _ _ c.args.replica.now.store c.take_standing.new.replica.store _ _ (λ t. let i = t in cc)
    (one_more g.S.RowStore _ _ _ _ _ _ c.args.replica.now.store c.make_ready.new.replica.store c.take_standing.new.replica.store
    (λ h some. c.shown.ensures.shown h)
    (λ h left pulled. taken_leaves g.P.Picker.picks c.args.replica.now.catalog c.args.replica.now.position c.make_ready.new.replica.position (g.S.RowStore.contents c.args.replica.now.store) (g.S.RowStore.contents c.make_ready.new.replica.store) c.args.picker.now c.take_standing.new.picker c.entry.result.now
    (λ are before shows. subst (λ (b : Bool). IsReadied c.args.replica.now.catalog c.args.replica.now.position before b c.make_ready.new.replica.position (g.S.RowStore.contents c.make_ready.new.replica.store)) c.if-not-ready.false (c.in-Ok.ensures.readied h are before shows)) left
    (subst (λ (t : List TableDef). IsPulledIn g.P.Picker.picks t c.make_ready.new.replica.position c.entry.result.now c.args.picker.now c.take_standing.new.picker (g.S.RowStore.contents c.make_ready.new.replica.store) left) c.make_ready.ensures.catalog pulled))
    (turned_on g.S.RowStore _ _ _ _ (λ left. ⊥) c.args.replica.now.store c.make_ready.new.replica.store (made_leaves g.P.Picker.picks c.args.replica.now.catalog c.args.replica.now.position (g.S.RowStore.contents c.args.replica.now.store) c.args.picker.now) _ _ c.in-Ok.ensures.writes (ap (λ (b : Bool). Ok b) c.if-not-ready.false))
    Device c.in-Ok-take_standing.field-0 c.in-Ok-take_standing.ensures.writes)

pub returns-clause-writes : goal.returns-clause-writes
returns-clause-writes g c =
    all_well g.S.RowStore _ _ _ c.args.replica.now.store c.take_standing.new.replica.store _ _ (λ t. let i = t in cc)
    (one_more g.S.RowStore _ _ _ _ _ _ c.args.replica.now.store c.make_ready.new.replica.store c.take_standing.new.replica.store
    (λ h some. c.shown.ensures.shown h)
    (λ h left pulled. taken_leaves g.P.Picker.picks c.args.replica.now.catalog c.args.replica.now.position c.make_ready.new.replica.position (g.S.RowStore.contents c.args.replica.now.store) (g.S.RowStore.contents c.make_ready.new.replica.store) c.args.picker.now c.take_standing.new.picker c.entry.result.now
    (λ are before shows. subst (λ (b : Bool). IsReadied c.args.replica.now.catalog c.args.replica.now.position before b c.make_ready.new.replica.position (g.S.RowStore.contents c.make_ready.new.replica.store)) c.if-not-ready.false (c.in-Ok.ensures.readied h are before shows)) left
    (subst (λ (t : List TableDef). IsPulledIn g.P.Picker.picks t c.make_ready.new.replica.position c.entry.result.now c.args.picker.now c.take_standing.new.picker (g.S.RowStore.contents c.make_ready.new.replica.store) left) c.make_ready.ensures.catalog pulled))
    (turned_on g.S.RowStore _ _ _ _ (λ left. ⊥) c.args.replica.now.store c.make_ready.new.replica.store (made_leaves g.P.Picker.picks c.args.replica.now.catalog c.args.replica.now.position (g.S.RowStore.contents c.args.replica.now.store) c.args.picker.now) _ _ c.in-Ok.ensures.writes (ap (λ (b : Bool). Ok b) c.if-not-ready.false))
    Device c.in-Ok-take_standing.field-0 c.in-Ok-take_standing.ensures.writes)

pub returns-in-Err-clause-pushed : goal.returns-in-Err-clause-pushed
returns-in-Err-clause-pushed g c = λ h stands before shows.
    let told = c.in-Err.ensures.refused h before shows in
    let tables : c.make_ready.new.replica.catalog ≡ c.args.replica.now.catalog = c.make_ready.ensures.catalog in
    not_made g.P.Picker.picks c.args.replica.now.catalog c.args.pass.now.known c.args.replica.now.position before c.args.picker.now c.args.spine.now.cap c.in-Err.fault c.make_ready.new.replica.catalog c.make_ready.ensures.catalog c.make_ready.new.replica.position
    (g.S.RowStore.contents c.make_ready.new.replica.store) c.requires.level c.in-Err.ensures.kept told.0
    (subst (λ (t : List TableDef). ShowsAt t (g.S.RowStore.contents c.make_ready.new.replica.store) c.make_ready.new.replica.position before) tables told.1)

pub returns-in-Err-clause-catalog : goal.returns-in-Err-clause-catalog
returns-in-Err-clause-catalog g c = stayed_at c.args.replica.now.catalog c.make_ready.new.replica.catalog c.args.pass.now.known c.args.replica.now.position.version c.make_ready.new.replica.position.version c.make_ready.ensures.catalog c.make_ready.ensures.version

pub returns-then-not-ready-clause-catalog : goal.returns-then-not-ready-clause-catalog
returns-then-not-ready-clause-catalog g c = stayed_at c.args.replica.now.catalog c.make_ready.new.replica.catalog c.args.pass.now.known c.args.replica.now.position.version c.make_ready.new.replica.position.version c.make_ready.ensures.catalog c.make_ready.ensures.version

pub returns-in-Err-flight_entry-clause-catalog : goal.returns-in-Err-flight_entry-clause-catalog
returns-in-Err-flight_entry-clause-catalog g c = stayed_at c.args.replica.now.catalog c.make_ready.new.replica.catalog c.args.pass.now.known c.args.replica.now.position.version c.make_ready.new.replica.position.version c.make_ready.ensures.catalog c.make_ready.ensures.version

pub returns-in_default-clause-catalog : goal.returns-in_default-clause-catalog
returns-in_default-clause-catalog g c = stayed_at c.args.replica.now.catalog c.make_ready.new.replica.catalog c.args.pass.now.known c.args.replica.now.position.version c.make_ready.new.replica.position.version c.make_ready.ensures.catalog c.make_ready.ensures.version

pub returns-in-Err-Full-clause-catalog : goal.returns-in-Err-Full-clause-catalog
returns-in-Err-Full-clause-catalog g c = stayed_at c.args.replica.now.catalog c.make_ready.new.replica.catalog c.offer.new.pass.known c.args.replica.now.position.version c.make_ready.new.replica.position.version c.make_ready.ensures.catalog c.make_ready.ensures.version

pub returns-in-Err-Memory-clause-catalog : goal.returns-in-Err-Memory-clause-catalog
returns-in-Err-Memory-clause-catalog g c = stayed_at c.args.replica.now.catalog c.make_ready.new.replica.catalog c.offer.new.pass.known c.args.replica.now.position.version c.make_ready.new.replica.position.version c.make_ready.ensures.catalog c.make_ready.ensures.version

pub returns-in-Err-take_standing-clause-catalog : goal.returns-in-Err-take_standing-clause-catalog
returns-in-Err-take_standing-clause-catalog g c =
    stayed_at c.args.replica.now.catalog c.take_standing.new.replica.catalog c.offer.new.pass.known c.args.replica.now.position.version c.take_standing.new.replica.position.version
    (c.in-Err-take_standing.ensures.catalog ∙ c.make_ready.ensures.catalog) (ap (λ (x : Position). x.version) c.in-Err-take_standing.ensures.kept ∙ c.make_ready.ensures.version)

pub returns-in-Mine-clause-catalog : goal.returns-in-Mine-clause-catalog
returns-in-Mine-clause-catalog g c =
    let v = c.args.replica.now.position.version in
    let at : slice_get c.offer.new.pass.known (length c.args.pass.now.known) ≡ Some c.entry.result.now = rw c.len-at.ensures.len at c.entry.ensures in
    went_on c.args.replica.now.catalog c.args.replica.now.catalog c.take_standing.new.replica.catalog c.offer.new.pass.known v v c.take_standing.new.replica.position.version c.entry.result.now
    (stayed_at c.args.replica.now.catalog c.args.replica.now.catalog c.offer.new.pass.known v v refl refl) (ap (λ n. slice_get c.offer.new.pass.known n) c.requires.level ∙ at)
    (ap (λ (x : Position). x.version) c.in-Ok-take_standing.ensures.moved ∙ ap (λ n. n + 1) c.make_ready.ensures.version)
    (c.in-Ok-take_standing.ensures.wide ∙ ap (λ (t : List TableDef). catalog_after t c.entry.result.now.body) c.make_ready.ensures.catalog)

pub returns-clause-catalog : goal.returns-clause-catalog
returns-clause-catalog g c =
    let v = c.args.replica.now.position.version in
    let at : slice_get c.offer.new.pass.known (length c.args.pass.now.known) ≡ Some c.entry.result.now = rw c.len-at.ensures.len at c.entry.ensures in
    went_on c.args.replica.now.catalog c.args.replica.now.catalog c.take_standing.new.replica.catalog c.offer.new.pass.known v v c.take_standing.new.replica.position.version c.entry.result.now
    (stayed_at c.args.replica.now.catalog c.args.replica.now.catalog c.offer.new.pass.known v v refl refl) (ap (λ n. slice_get c.offer.new.pass.known n) c.requires.level ∙ at)
    (ap (λ (x : Position). x.version) c.in-Ok-take_standing.ensures.moved ∙ ap (λ n. n + 1) c.make_ready.ensures.version)
    (c.in-Ok-take_standing.ensures.wide ∙ ap (λ (t : List TableDef). catalog_after t c.entry.result.now.body) c.make_ready.ensures.catalog)

pub returns-then-not-ready-clause-pushed : goal.returns-then-not-ready-clause-pushed
returns-then-not-ready-clause-pushed g c = λ h stands before shows.
    let s = stands (c.in-Ok.ensures.writes.was_honest h) in
    let ready = subst (λ (b : Bool). IsReadied c.args.replica.now.catalog c.args.replica.now.position before b c.make_ready.new.replica.position (g.S.RowStore.contents c.make_ready.new.replica.store)) c.if-not-ready.true (c.in-Ok.ensures.readied h (are_tables c.catalogs_are_tables.ensures c.args.replica.now.catalog c.args.pass.now.known c.args.replica.now.position s.0 s.2) before shows) in
    (ready.2, ready.3, refl, c.make_ready.ensures.catalog, ready.0, ready.1, refl)

pub returns-in-Err-flight_entry-clause-pushed : goal.returns-in-Err-flight_entry-clause-pushed
returns-in-Err-flight_entry-clause-pushed g c = λ h stands before shows.
    let s = stands (c.in-Ok.ensures.writes.was_honest h) in
    let ready = subst (λ (b : Bool). IsReadied c.args.replica.now.catalog c.args.replica.now.position before b c.make_ready.new.replica.position (g.S.RowStore.contents c.make_ready.new.replica.store)) c.if-not-ready.false (c.in-Ok.ensures.readied h (are_tables c.catalogs_are_tables.ensures c.args.replica.now.catalog c.args.pass.now.known c.args.replica.now.position s.0 s.2) before shows) in
    memory_sent g.P.Picker.picks c.args.replica.now.catalog c.args.pass.now.known c.args.replica.now.position before c.args.picker.now c.args.spine.now.cap c.make_ready.new.replica.catalog c.make_ready.ensures.catalog c.make_ready.new.replica.position (g.S.RowStore.contents c.make_ready.new.replica.store) c.args.pass.now.known ready refl

pub returns-in_default-clause-pushed : goal.returns-in_default-clause-pushed
returns-in_default-clause-pushed g c = λ h stands before shows.
    let s = stands (c.in-Ok.ensures.writes.was_honest h) in
    let ready = subst (λ (b : Bool). IsReadied c.args.replica.now.catalog c.args.replica.now.position before b c.make_ready.new.replica.position (g.S.RowStore.contents c.make_ready.new.replica.store)) c.if-not-ready.false (c.in-Ok.ensures.readied h (are_tables c.catalogs_are_tables.ensures c.args.replica.now.catalog c.args.pass.now.known c.args.replica.now.position s.0 s.2) before shows) in
    never_none g.P.Picker.picks c.args.replica.now.catalog c.args.pass.now.known c.args.replica.now.position before c.args.picker.now c.args.spine.now.cap c.make_ready.new.replica.catalog c.make_ready.new.replica.position (g.S.RowStore.contents c.make_ready.new.replica.store) c.args.pass.now.known ready
    c.in-Ok-flight_entry.found c.in-Ok-flight_entry.ensures.entry c.in_default.not-Some
