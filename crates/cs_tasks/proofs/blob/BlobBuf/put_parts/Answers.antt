use Rattle.std.proofs.Common.{ap, sym, ◌∙◌}
use Rattle.std.proofs.lemmas.Result.{on_ok_weaker}
use Rattle.cs_tasks.specs.Blob.{BlobSoFar}
use Rattle.cs_tasks.proofs.Blobs.{after_first, after_next}
use Rattle.cs_tasks.proofs.blob.BlobBuf.put_parts.Goals as goal
use Rattle.cs_tasks.proofs.blob.BlobBuf.put_parts.Goals.{then-not-self+in_ok-put_header, else-not-self}

pub returns-clause-ok : goal.returns-clause-ok
returns-clause-ok c = λ front given long any was.
    let group = c.args.group.now in
    let is = rw c.as_slice-changes.ensures at c.index-changes-at.is in
    let put = rw c.as_slice-marks.ensures at c.put_answered.ensures.ok in
    let before = ap (λ (blob : BlobSoFar). blob.bytes) c.self.view_is ∙ was in
    let answered = any ∙ ap (λ (blob : BlobSoFar). blob.headed) (sym c.self.view_is) in
    elim c.if-not-self.branch [
      | then-not-self+in_ok-put_header w ↦
          let header = rw (c.as_slice-marks.ensures, w.as_str.ensures) at w.in_ok-put_header.ensures.ok in
          on_ok_weaker _
          (after_first group given c.args.at _ c.args.answer front _ c.requires is long before _ _ (answered ∙ w.if-not-self.true) header)
          (rw w.self-inside-is at put)
      | else-not-self w ↦
          on_ok_weaker _
          (after_next group given c.args.at _ c.args.answer front _ c.requires is long before _ (answered ∙ w.if-not-self.false))
          (rw w.self-inside-is at put)
    ]
