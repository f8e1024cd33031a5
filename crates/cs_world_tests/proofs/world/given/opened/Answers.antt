use Rattle.std.proofs.Common.{◌≡◌, ◌∷◌, []}
use Rattle.std.proofs.lemmas.List.Elements.{All-cons, All-nil}
use Rattle.cs_store.specs.Contents.{nothing}
use Rattle.cs_world_tests.proofs.world.given.opened.Goals as goal

pub new-requires-clause-replicas : goal.new-requires-clause-replicas
new-requires-clause-replicas g c =
    let P = λ (store : _). g.S.RowStore.contents store ≡ nothing in
    rw c.in_ok-stores.ensures (All-cons P c.args.one (c.args.other ∷ []) c.requires.one (All-cons P c.args.other [] c.requires.other (All-nil P)))
