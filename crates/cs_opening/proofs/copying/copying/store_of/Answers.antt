use Rattle.std.proofs.Common.{None, refl, ap, subst, sym, ◌∙◌}
use Rattle.cs_map_store.specs.Slots.{InMemory}
use Rattle.cs_store.specs.Contents.{Contents}
use Rattle.cs_store.specs.Written.{after_batch}
use Rattle.cs_store.specs.declared.batch.Batch.{Batch}
use Rattle.cs_opening.specs.copying.Steps.{AreCopied}
use Rattle.cs_opening.proofs.CopyingLemmas.Tables.{values_copied}
use Rattle.cs_opening.proofs.copying.copying.store_of.Goals as goal

pub returns-in-Ok : goal.returns-in-Ok
returns-in-Ok c = λ contents names values.
    let batch : Batch = record { rows = c.new.result; pending = c.new-2.result; meta = c.args.meta; log = None } in
    subst (λ (held : Contents). AreCopied contents held 0) (sym (c.in-Ok.ensures.commits.ok tt ∙ ap (λ (store : InMemory). after_batch batch store.held) c.new-copy.ensures))
    (values_copied c.commits.ensures.meta c.commits.ensures.other_names contents batch c.new.ensures c.new-2.ensures refl names values)
