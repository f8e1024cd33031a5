use Rattle.std.proofs.Common.{◌≡◌, ◌∙◌, None, Some, length, refl, sym}
use Rattle.std.proofs.lemmas.Option.{slice_get_read}
use Rattle.cs_world.proofs.Counted.{counts_replica, counts_same, told_as}
use Rattle.cs_world.proofs.Left.{left_as_it_was}
use Rattle.cs_world.proofs.Read.{listed, reads_replica, replica_left}
use Rattle.cs_world.specs.Reads.{AreRowsIn}
use Rattle.cs_store.specs.declared.log.entry.TheConstants.{MAX_ENTRIES}
use Rattle.cs_world.proofs.moving.Core.rows.Goals as goal

pub returns-in-Ok-clause-reads : goal.returns-in-Ok-clause-reads
returns-in-Ok-clause-reads g c =
    rw (← c.self.view_is) (reads_replica g.S.RowStore MAX_ENTRIES c.self.inside.hub c.self.inside.replicas.items c.self.inside.letters.items c.args.replica c.in-Some.one.now (slice_get_read c.self.inside.replicas.items (length c.self.inside.replicas.items) c.args.replica c.in-Some.one.now refl c.in-Some.ensures.item.3.0 c.in-Some.ensures.value) c.rows.new.self (told_as g.S.RowStore c.rows.ensures.counts (λ none. absurd none)) c.rows.ensures.left c.rows.ensures.turned)

pub returns-in-Err-clause-reads : goal.returns-in-Err-clause-reads
returns-in-Err-clause-reads g c =
    rw (← c.self.view_is) (reads_replica g.S.RowStore MAX_ENTRIES c.self.inside.hub c.self.inside.replicas.items c.self.inside.letters.items c.args.replica c.in-Some.one.now (slice_get_read c.self.inside.replicas.items (length c.self.inside.replicas.items) c.args.replica c.in-Some.one.now refl c.in-Some.ensures.item.3.0 c.in-Some.ensures.value) c.rows.new.self (told_as g.S.RowStore c.rows.ensures.counts (λ none. absurd none)) c.rows.ensures.left c.rows.ensures.turned)

pub returns-in-Ok-clause-listed : goal.returns-in-Ok-clause-listed
returns-in-Ok-clause-listed g c =
    rw (← c.self.view_is) (listed g.S.RowStore MAX_ENTRIES c.self.inside.hub c.self.inside.replicas.items c.self.inside.letters.items c.args.replica c.in-Some.one.now (slice_get_read c.self.inside.replicas.items (length c.self.inside.replicas.items) c.args.replica c.in-Some.one.now refl c.in-Some.ensures.item.3.0 c.in-Some.ensures.value) c.rows.new.self (λ tables view. AreRowsIn tables view.tables c.args.table c.in-Ok.rows.items) (rw c.in-Ok.is at c.rows.ensures.listed))

pub returns-in-Ok-clause-none : goal.returns-in-Ok-clause-none
returns-in-Ok-clause-none g c none =
    let there = slice_get_read c.self.inside.replicas.items (length c.self.inside.replicas.items) c.args.replica c.in-Some.one.now refl c.in-Some.ensures.item.3.0 c.in-Some.ensures.value in
    let both : None ≡ Some c.in-Some.one.now = sym (rw (← c.self.view_is) at none) ∙ there in
    absurd (cc)

pub returns-in-Ok-clause-left : goal.returns-in-Ok-clause-left
returns-in-Ok-clause-left g c =
    rw (← c.self.view_is) (replica_left g.S.RowStore MAX_ENTRIES c.self.inside.hub c.self.inside.replicas.items c.self.inside.letters.items c.args.replica c.in-Some.one.now (slice_get_read c.self.inside.replicas.items (length c.self.inside.replicas.items) c.args.replica c.in-Some.one.now refl c.in-Some.ensures.item.3.0 c.in-Some.ensures.value) c.rows.new.self (told_as g.S.RowStore c.rows.ensures.counts (λ none. absurd none)) c.rows.ensures.left c.rows.ensures.turned)

pub returns-in-Err-clause-left : goal.returns-in-Err-clause-left
returns-in-Err-clause-left g c =
    rw (← c.self.view_is) (replica_left g.S.RowStore MAX_ENTRIES c.self.inside.hub c.self.inside.replicas.items c.self.inside.letters.items c.args.replica c.in-Some.one.now (slice_get_read c.self.inside.replicas.items (length c.self.inside.replicas.items) c.args.replica c.in-Some.one.now refl c.in-Some.ensures.item.3.0 c.in-Some.ensures.value) c.rows.new.self (told_as g.S.RowStore c.rows.ensures.counts (λ none. absurd none)) c.rows.ensures.left c.rows.ensures.turned)

pub returns-in_default-clause-left : goal.returns-in_default-clause-left
returns-in_default-clause-left g c =
    rw (← c.self.view_is) (left_as_it_was g.S.RowStore MAX_ENTRIES c.self.inside.hub c.self.inside.replicas.items c.self.inside.letters.items c.self.inside.letters.items)

pub returns-in-Ok-clause-counts : goal.returns-in-Ok-clause-counts
returns-in-Ok-clause-counts g c =
    rw (← c.self.view_is) (counts_replica g.S.RowStore _ _ (λ is. absurd (let e = is in cc)) c.self.inside.hub c.self.inside.replicas.items c.args.replica c.in-Some.one.now c.rows.new.self (slice_get_read c.self.inside.replicas.items (length c.self.inside.replicas.items) c.args.replica c.in-Some.one.now refl c.in-Some.ensures.item.3.0 c.in-Some.ensures.value) c.rows.ensures.counts c.self.inside.letters.items c.self.inside.letters.items)

pub returns-in-Err-clause-counts : goal.returns-in-Err-clause-counts
returns-in-Err-clause-counts g c =
    rw (← c.self.view_is) (counts_replica g.S.RowStore _ _ (λ is. c.in-Err.is ∙ is) c.self.inside.hub c.self.inside.replicas.items c.args.replica c.in-Some.one.now c.rows.new.self (slice_get_read c.self.inside.replicas.items (length c.self.inside.replicas.items) c.args.replica c.in-Some.one.now refl c.in-Some.ensures.item.3.0 c.in-Some.ensures.value) c.rows.ensures.counts c.self.inside.letters.items c.self.inside.letters.items)

pub returns-in_default-clause-counts : goal.returns-in_default-clause-counts
returns-in_default-clause-counts g c =
    rw (← c.self.view_is) (counts_same g.S.RowStore _ (λ is. absurd (let e = is in cc)) c.self.inside.hub c.self.inside.replicas.items c.self.inside.letters.items c.self.inside.letters.items)
