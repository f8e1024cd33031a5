use Rattle.std.proofs.Common.{◌≡◌, ◌<◌, ◌++◌, List, length, get_or, ap, subst, arith}
use Rattle.std.specs.Prelude.{Some, slice_get, string_bytes}
use Rattle.cs_value.specs.declared.catalog.TableDef.{TableDef}
use Rattle.cs_node_lines.specs.told.Dump.{rows_text}
use Rattle.cs_script.proofs.DumpLemmas.{puts_rows_at}
use Rattle.cs_script.proofs.dumping.push_tables.Goals as goal

pub loop-number-preserved : goal.loop-number-preserved
loop-number-preserved c =
    let at = c.loop-number.number in
    let table = c.index-tables-number.result in
    let tables = c.args.catalog.now in
    let long : length c.tables-tables.result.now ≡ length tables = ap length c.tables-tables.ensures.same in
    let less : at < length tables = omega arith in
    let here = subst (λ (ts : List TableDef). table ≡ get_or ts at table) c.tables-tables.ensures.same c.index-tables-number.is in
    let written = subst (λ rows. string_bytes c.push_rows.new.text ≡ string_bytes c.loop-number.text ++ rows_text table.name rows) c.deref.ensures.value c.in_ok-push_rows.ensures in
    record {
      stands = λ standing stood. c.in_ok-rows.ensures.stands standing (c.loop-number.invariant.stands standing stood);
      put = λ standing state stood is same.
          let are = c.in_ok-rows.ensures.listed standing state (c.loop-number.invariant.stands standing stood) is in
          puts_rows_at tables at table state _ _ _ c.in_ok-rows.rows.items less here (c.loop-number.invariant.put standing state stood is same)
          (λ def there. are def (subst (λ (ts : List TableDef). slice_get ts at ≡ Some def) same there)) written;
    }
