use Rattle.std.proofs.Common.{◌∙◌, sym}
use Rattle.std.proofs.lemmas.Map.Text.{btree_map_updates_str}
use Rattle.cs_column_bytes.proofs.Columns.{brought_next, known_next, none_yet}
use Rattle.cs_column_bytes.proofs.headers.first_columns.Goals as goal
use Rattle.cs_column_bytes.proofs.headers.first_columns.Goals.{then-not-contains_key+in_ok-insert, else-not-contains_key}

pub loop-header-init : goal.loop-header-init
loop-header-init c = none_yet c.new-columns.result c.new-columns.ensures.empty

pub loop-header-preserved : goal.loop-header-preserved
loop-header-preserved c =
    let headers = c.args.headers.now in
    let at = c.loop-header.header-index in
    elim c.if-not-contains_key.branch [
      | then-not-contains_key+in_ok-insert w ↦ rw w.columns-is (brought_next headers at _ c.loop-header.columns w.insert.new.self c.loop-header-test.true c.loop-header.invariant (sym c.contains_key.ensures ∙ w.if-not-contains_key.true) (btree_map_updates_str _ c.loop-header.columns w.insert.new.self _ w.in_ok-insert.ensures.updates))
      | else-not-contains_key w ↦ rw w.columns-is (known_next headers at _ c.loop-header.columns c.loop-header-test.true c.loop-header.invariant (sym c.contains_key.ensures ∙ w.if-not-contains_key.false))
    ]
