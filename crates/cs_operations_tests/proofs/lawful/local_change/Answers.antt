use borrow.Author.Tests.{ltb-true}
use Rattle.std.proofs.Common.{◌≡◌, ◌<◌, ℕ, List, length, ◌++◌, Some, sym, subst, ap, ◌∙◌, arith}
use Rattle.std.specs.Prelude.{slice_get}
use Rattle.std.proofs.lemmas.Option.{slice_get-get_or}
use Rattle.cs_value.specs.declared.catalog.TableDef.{TableDef}
use Rattle.cs_normal.specs.keyed.Changes.{change_at}
use Rattle.cs_normal.specs.Normal.{changes_in}
use Rattle.cs_normal.specs.keyed.NormalForm.{change_bytes}
use Rattle.cs_operations_tests.proofs.Beside.{found_ordered, beside_is}
use Rattle.cs_operations_tests.proofs.lawful.local_change.Goals as goal

pub find-requires : goal.find-requires
find-requires c = found_ordered _ _ _ _ c.tables-2.ensures.same c.tables-2.ensures.normal c.in-Some-changes_of.ensures

pub returns : goal.returns
returns c =
    let found = c.in-Some.ensures.lookup in
    let less : c.args.conflict.now.table < length c.tables.result.now = omega (arith, ltb-true, found.0) in
    let stands = subst (λ (ts : List TableDef). slice_get ts c.args.conflict.now.table ≡ Some c.in-Some.table.now) c.tables.ensures.same
    (slice_get-get_or c.tables.result.now c.args.conflict.now.table c.in-Some.table.now less ∙ ap (λ (t : TableDef). Some t) (sym found.1)) in
    let change = c.args.conflict.now.change in
    let bytes = c.as_slice-in-Some-changes_of.ensures.value
    ∙ (c.in_ok-put_key.ensures.ok.0
    ∙ (ap (λ (front : List ℕ). front ++ change_bytes c.as_slice.result.now change) c.new-key.ensures.items
    ∙ ap (λ m. change_bytes m change) c.as_slice.ensures)) in
    let key = c.as_slice-in-Some-changes_of.result.now in
    let at = c.find.ensures
    ∙ (ap (change_at key) (sym c.in-Some-changes_of.ensures)
    ∙ (ap (λ (n : List ℕ). change_at key (changes_in n c.tables-2.result.now)) c.as_str.ensures
    ∙ ap (λ ts. change_at key (changes_in c.in-Some.table.now.name ts)) c.tables-2.ensures.same)) in
    beside_is c.args.catalog.now c.args.local.now c.args.conflict.now c.in-Some.table.now key stands bytes c.find.result at
