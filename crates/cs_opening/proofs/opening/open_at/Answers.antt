use Rattle.std.proofs.Common.{◌≢◌, subst, sym}
use Rattle.cs_store.specs.Contents.{Contents, nothing}
use Rattle.cs_opening.specs.Opens.{IsOpenFault}
use Rattle.cs_opening.proofs.opening.open_at.Goals as goal

pub returns-in-Err-open_there-clause-refused : goal.returns-in-Err-open_there-clause-refused
returns-in-Err-open_there-clause-refused g c = λ honest.
    let opened = (rw c.in-Ok-None.field-0-is at c.in-Ok-None.ensures.opened) (c.in-Err-open_there.ensures.reads.was_honest honest) in
    subst (λ (left : Contents). IsOpenFault c.args.catalog.now c.args.id left c.in-Err-open_there.fault) opened.1
    (c.in-Err-open_there.ensures.refused honest (subst (λ (left : Contents). left ≢ nothing) (sym opened.1) opened.0))
