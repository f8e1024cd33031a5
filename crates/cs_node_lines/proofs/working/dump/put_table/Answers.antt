use Rattle.std.proofs.Common.{◌≡◌, ◌<◌, ◌++◌, ◌∙◌, ap, length}
use Rattle.std.specs.Prelude.{Some, slice_get, string_bytes}
use Rattle.cs_node_lines.specs.told.Dump.{rows_text}
use Rattle.cs_node_lines.proofs.WorkingLemmas.Dumping.{get_is, put_one}
use Rattle.cs_node_lines.proofs.working.dump.put_table.Goals as goal

pub returns-clause-turned : goal.returns-clause-turned
returns-clause-turned g c =
    let name = c.in-Some.def.now.name in
    let own : c.tables.result.now ≡ c.args.replica.now.catalog = c.tables.ensures.same ∙ (c.catalog.ensures ∙ c.rows.ensures.catalog) in
    let less : c.args.table < length c.tables.result.now = rw own c.requires in
    let there : slice_get c.args.replica.now.catalog c.args.table ≡ Some c.in-Some.def.now = rw (← own) (get_is c.tables.result.now c.args.table c.in-Some.def.now c.in-Some.def.now less c.in-Some.ensures.lookup.1) in
    let put = c.in_ok-push_str.ensures.bytes ∙ ap (λ l. string_bytes c.args.text.now ++ l) (c.as_str.ensures.value ∙ c.in_ok-lines.ensures ∙ ap (rows_text name) c.as_slice.ensures.value) in
    put_one g.S.RowStore c.args.replica.now c.rows.new.self c.args.table c.in-Some.def.now c.in_ok-rows.rows.items _ _
    there c.rows.ensures.turned c.in_ok-rows.ensures.listed put
