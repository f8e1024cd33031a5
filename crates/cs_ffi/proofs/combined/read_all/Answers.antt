use Rattle.std.proofs.lemmas.Result.{err_from_is_err_and}
use Rattle.cs_ffi.proofs.Parts.{none_read, one_more_read, only_read, part_found}
use Rattle.cs_ffi.proofs.combined.read_all.Goals as goal

pub loop-length-init : goal.loop-length-init
loop-length-init c = none_read c.args.lengths.now c.args.inputs.now c.new-changesets.result.items c.new-changesets.ensures.items c.requires

pub loop-length-preserved : goal.loop-length-preserved
loop-length-preserved c =
    let so_far = rw c.in-Some.ensures.cases.0 at c.loop-length.invariant in
    let spells = rw c.split_at.ensures.front at c.in_ok-changeset.ensures.reads in
    rw c.split_at.ensures.back (one_more_read c.args.lengths.now c.args.inputs.now c.in-Some.more.now c.loop-length.rest.now c.in-Some.length.now c.loop-length.changesets.items c.push.new.self.items c.in_ok-changeset.changeset c.in_ok-push.ensures.items so_far spells (λ others other. c.in_ok-changeset.ensures.only others (rw c.split_at.ensures.front other)))

pub returns-in_err-changeset-clause-only : goal.returns-in_err-changeset-clause-only
returns-in_err-changeset-clause-only c = λ changesets cut.
    let so_far = rw c.in-Some.ensures.cases.0 at c.loop-length.invariant in
    let given = err_from_is_err_and c.from_residual.result c.from_residual.ensures.1 in
    rw (given.1, given.2) (part_found c.args.lengths.now c.args.inputs.now c.in-Some.more.now c.loop-length.rest.now c.in-Some.length.now c.loop-length.changesets.items c.in_err-changeset.field-0.0 so_far (λ groups spells. c.in_err-changeset.ensures.only groups (rw c.split_at.ensures.front spells)) changesets cut)

pub returns-clause-only : goal.returns-clause-only
returns-clause-only c = λ changesets cut.
    only_read c.args.lengths.now c.args.inputs.now c.loop-length.lengths.now c.loop-length.rest.now c.loop-length.changesets.items changesets c.in_default.ensures.cases c.loop-length.invariant cut
