use Rattle.std.proofs.Common.{◌≡◌, ℤ, Some, ap, to_z, of_z, to_z-of_z, w64, rules}
use Rattle.cs_sql.proofs.StatementsLemmas.Adopting.{one_more_seen}
use Rattle.cs_sql.proofs.statements.counting.Ids.with.Goals as goal

pub returns-clause-more : goal.returns-clause-more
returns-clause-more c =
    let back : to_z w64 (of_z w64 c.args.id) ≡ c.args.id = to_z-of_z {w = w64} {z = c.args.id} (search rules) in
    one_more_seen c.args.self.now _ c.args.id c.is_above.result c.is_place.result c.in_ok-one_more.ensures.more (ap (λ (z : ℤ). Some z) back) c.both.ensures c.both-2.ensures (rw back at c.is_above.ensures) (rw back at c.is_place.ensures)
