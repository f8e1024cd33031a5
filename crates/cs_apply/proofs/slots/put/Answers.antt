use Rattle.cs_apply.proofs.Holding.{on_err, rows_more, slots_stay, slots_put}
use Rattle.cs_apply.proofs.slots.put.Goals as goal

pub returns-in_err-put_row-clause-err : goal.returns-in_err-put_row-clause-err
returns-in_err-put_row-clause-err c =
    let grown = rows_more c.args.held.now c.put_row.new.rows c.put_row.ensures.grown in
    on_err _ (slots_stay c.args.held.now _ grown c.args.spots.now c.requires.spots)

pub returns-clause-ok : goal.returns-clause-ok
returns-clause-ok c = λ slot found.
    let grown = rows_more c.args.held.now c.put_row.new.rows c.put_row.ensures.grown in
    slots_put c.args.held.now _ grown c.args.spots.now c.requires.spots c.args.number _ _ _ slot c.requires.number
    c.in_ok-put_row.ensures.stands found
