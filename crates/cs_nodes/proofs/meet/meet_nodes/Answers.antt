use Rattle.std.proofs.Common.{◌≡◌, length, min, refl, sym, take, ◌∙◌}
use Rattle.cs_nodes.proofs.SameRows.{same_rows, same_tables}
use Rattle.cs_nodes.proofs.meet.meet_nodes.Goals as goal

pub returns-then-is_at_rest-clause-rows : goal.returns-then-is_at_rest-clause-rows
returns-then-is_at_rest-clause-rows g c = λ is catalog ho ht view seen shows sees table key inside.
    let a = c.stands.ensures.stands ho in
    let b = c.stands-2.ensures.stands ht in
    let alike : take c.meet-both.result c.args.one.now.pass.known ≡ take c.meet-both.result c.args.other.now.pass.known = rw (c.pass.ensures, c.pass-2.ensures) at c.meet-both.ensures.same in
    let shorter : c.meet-both.result ≡ min (length c.args.one.now.pass.known) (length c.args.other.now.pass.known) = rw (c.pass.ensures, c.pass-2.ensures) at c.meet-both.ensures.len in
    same_rows c.equal_where_met.ensures c.one_contents.ensures.log_rows c.args.one.now.replica.catalog c.args.other.now.replica.catalog catalog c.args.one.now.pass.known c.args.other.now.pass.known c.meet-both.result
    (g.S.RowStore.contents c.args.one.now.replica.store) (g.T.RowStore.contents c.args.other.now.replica.store) c.args.one.now.replica.position c.args.other.now.replica.position view a.0 seen b.0
    alike shorter c.stands.ensures.within c.stands-2.ensures.within (sym c.version.ensures ∙ c.if-version.false ∙ c.version-2.ensures)
    (c.if-is_at_rest.ensures.0 refl) (c.is_at_rest-then-is_at_rest.ensures.0 is) shows a.1 a.2 sees b.1 b.2 table key inside

pub returns-then-is_at_rest-clause-catalog : goal.returns-then-is_at_rest-clause-catalog
returns-then-is_at_rest-clause-catalog g c = λ is opening some other.
    let alike : take c.meet-both.result c.args.one.now.pass.known ≡ take c.meet-both.result c.args.other.now.pass.known = rw (c.pass.ensures, c.pass-2.ensures) at c.meet-both.ensures.same in
    let shorter : c.meet-both.result ≡ min (length c.args.one.now.pass.known) (length c.args.other.now.pass.known) = rw (c.pass.ensures, c.pass-2.ensures) at c.meet-both.ensures.len in
    same_tables opening c.args.one.now.replica.catalog c.args.other.now.replica.catalog c.args.one.now.pass.known c.args.other.now.pass.known c.meet-both.result
    c.args.one.now.replica.position.version c.args.other.now.replica.position.version alike shorter some.within other.within (sym c.version.ensures ∙ c.if-version.false ∙ c.version-2.ensures)
    some.catalog other.catalog
