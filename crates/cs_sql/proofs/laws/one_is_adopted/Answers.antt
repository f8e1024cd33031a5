use Rattle.std.proofs.Common.{inl, inr, sym, ◌∙◌}
use Rattle.sqlite.specs.Effect.{Database}
use Rattle.sqlite.specs.Held.{state}
use Rattle.cs_store.specs.Contents.{Contents}
use Rattle.cs_sql.specs.statements.Found.{IsFound}
use Rattle.cs_sql.specs.declared.statements.looking.Found.TheVariants.{Foreign}
use Rattle.cs_sql.specs.Keeping.{IsHeldIn, holds}
use Rattle.cs_sql.proofs.laws.one_is_adopted.Goals as goal

pub returns-clause-one : goal.returns-clause-one
returns-clause-one g c some other a b =
    let same = c.one_is_held.ensures (state g.A.Store c.args._conn.now).now (holds g.A.Store some) (holds g.A.Store other) a.from b.from in (same, λ left last m n. a.durable left m ∙ same ∙ sym (b.durable last n))

none_held : (db : Database) (held : Contents) → IsHeldIn db held → ¬ IsFound Foreign db
none_held db held (inl fresh) foreign = foreign.0 fresh.0
none_held db held (inr (inl front)) foreign = foreign.1 front.0 front.1
none_held db held (inr (inr ours)) foreign = foreign.2 ours.0 ours.1

pub returns-clause-none : goal.returns-clause-none
returns-clause-none g c s adopted = none_held (state g.A.Store c.args._conn.now).now (holds g.A.Store s) adopted.from
