use Rattle.std.proofs.Common.{inr, subst, sym}
use Rattle.cs_store.specs.Contents.{Contents}
use Rattle.cs_opening.specs.Opens.{AreOf, StandsNowhere}
use Rattle.cs_opening.specs.declared.owning.Owner.{Owner}
use Rattle.cs_opening.specs.declared.owning.Owner.TheVariants.{This}
use Rattle.cs_opening.proofs.opening.open_there.Goals as goal

pub returns-in-Ok-None-clause-refused : goal.returns-in-Ok-None-clause-refused
returns-in-Ok-None-clause-refused g c = λ honest some.
    let was = c.in-Ok-None.ensures.reads.was_honest honest in
    let old = g.S.RowStore.contents c.args.store.now in
    let of : AreOf c.args.catalog.now c.args.id old This = subst (λ (owner : Owner). AreOf c.args.catalog.now c.args.id old owner) c.in-This.is (c.in-Ok.ensures.told was) in
    let same = c.in-Ok.ensures.reads.same was in
    let nowhere = (rw c.in-Ok-None.field-0-is at c.in-Ok-None.ensures.told) honest (subst (λ (left : Contents). AreOf c.args.catalog.now c.args.id left This) (sym same) of) in
    (some, inr (of, subst (λ (left : Contents). StandsNowhere c.args.catalog.now c.args.id left) same nowhere))
