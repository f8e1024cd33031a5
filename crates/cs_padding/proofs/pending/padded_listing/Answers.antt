use Rattle.std.proofs.Common.{◌≡◌, ◌∙◌, ◌++◌, List, ap, arith}
use Rattle.cs_change.specs.Spelling.{marks_of}
use Rattle.cs_padding.specs.Steps.{padded_change}
use Rattle.cs_padding.proofs.Changes.{padded_more}
use Rattle.cs_padding.proofs.pending.padded_listing.Goals as goal

pub loop-stored-preserved : goal.loop-stored-preserved
loop-stored-preserved c =
    let nulls = c.args.columns.now.nulls.items in
    let undefined = c.args.columns.now.undefined.items in
    let body : c.put_change.new.out.items ≡ padded_change nulls undefined c.in-Some.change =
    c.in_ok-put_change.ensures ∙ ap (λ (b : List _). b ++ padded_change nulls undefined c.in-Some.change) c.clear.ensures.items in
    padded_more (marks_of c.args.marks.now) nulls undefined c.args.number c.args.listed.now c.loop-stored.stored-index c.stored-item.result c.loop-stored.edits c.push.new.self c.in-Some.change
    (omega (arith, c.loop-stored-test.true)) c.stored-item.is
    (rw (c.new.ensures, c.as_slice.ensures.value, c.as_slice-in-loop-stored.ensures.value, body) at c.in_ok-push.ensures.ok)
    c.loop-stored.invariant c.in-Some.ensures.found.0 c.in-Some.ensures.found.1
