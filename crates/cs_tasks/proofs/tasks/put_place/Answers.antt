use Rattle.cs_change.specs.Spelling.{marks_of}
use Rattle.cs_tasks.specs.Facts.{same_key}
use Rattle.cs_tasks.proofs.tasks.put_place.Goals as goal

pub returns-clause-put : goal.returns-clause-put
returns-clause-put c =
    let same = same_key c.args.marks.now (marks_of c.args.group.now.marks) c.args.change.now c.requires in
    rw (c.to_be_bytes.ensures, same.0) at c.push_of_behind.ensures.ok

pub returns-clause-whole : goal.returns-clause-whole
returns-clause-whole c =
    let same = same_key c.args.marks.now (marks_of c.args.group.now.marks) c.args.change.now c.requires in
    rw same.1 at c.push_of_behind.ensures.whole
