use Rattle.std.proofs.Common.{rules, ◌≡◌, ◌-◌, ◌∷◌, ℕ, Bool, List, drop, length, take, ap, sym, subst, ◌∙◌}
use Rattle.cs_change.specs.Spelling.{group_byte, header_spelling, marks_of}
use Rattle.cs_record.specs.Facts.{tail}
use Rattle.cs_record.specs.Reading.{StandsAt}
use Rattle.cs_store.specs.log.Steps.{AreNextChanges, IsTableBefore}
use Rattle.cs_store.proofs.LogLemmas.Seen.{marks_stay, next_table}
use Rattle.cs_store.proofs.log.stored.behind_group.Goals as goal

pub behind_changes-requires : goal.behind_changes-requires
behind_changes-requires c =
    let table = c.in-Some-find_table.table.now in
    let found : IsTableBefore c.args.tables.now c.in-Some-find_table.more.now table c.in-Ok.name.now c.in-Ok.columns.now = c.in-Some-find_table.ensures in
    ap marks_of (sym found.marked) ∙ marks_stay table.key_marks ∙ sym c.as_slice-marks.ensures

pub returns : goal.returns
returns c =
    let bytes = c.args.bytes.now in
    let table = c.in-Some-find_table.table.now in
    let columns = c.in-Ok.columns.now in
    let name = c.in-Ok.name.now in
    let len = c.in-Ok.len in
    let rest = c.in-Some-2.rest.now in
    let begins : c.in-Some.first.now ≡ group_byte = search rules in
    let whole : bytes ≡ group_byte ∷ c.in-Some.behind.now = c.in-Some.ensures.cases.0 ∙ ap (λ (first : ℕ). first ∷ c.in-Some.behind.now) begins in
    let stands : StandsAt bytes (header_spelling columns name) len = subst (λ (bs : List ℕ). StandsAt bs (header_spelling columns name) len) (sym whole) c.in-Ok.ensures.1 in
    let are : AreNextChanges c.as_slice-marks.result.now (take (length bytes - len) (drop len bytes)) rest = rw c.in-Some-2.is at c.in_ok-rest.ensures in
    let of_table : AreNextChanges table.key_marks (take (length bytes - len) (drop len bytes)) rest = subst (λ (ms : List Bool). AreNextChanges ms (take (length bytes - len) (drop len bytes)) rest) c.as_slice-marks.ensures are in
    next_table c.args.tables.now c.in-Some-find_table.more.now table name columns bytes rest len c.in-Some-find_table.ensures c.in-Ok.ensures.0 stands (subst (λ (bs : List ℕ). AreNextChanges table.key_marks bs rest) (tail bytes len) of_table)
