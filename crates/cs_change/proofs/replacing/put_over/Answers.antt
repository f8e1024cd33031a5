use Rattle.std.proofs.Common.{◌≡◌, ◌+◌, ◌++◌, ◌∷◌, ◌∙◌, List, ℕ, ap, arith, length, length-append, refl, subst}
use Rattle.std.proofs.lemmas.List.{with_items_is}
use Rattle.cs_change.specs.declared.change.Change.{Change}
use Rattle.cs_change.specs.Held.{overwritten}
use Rattle.cs_change.specs.Spelling.{HasLength, flag_byte, update_byte}
use Rattle.cs_change.proofs.Packed.{held_same}
use Rattle.cs_change.proofs.Replaced.{has_room, held_set}
use Rattle.cs_change.proofs.replacing.put_over.Goals as goal

pub index-requires : goal.index-requires
index-requires c =
    let room = has_room c.args.bytes.now.items c.args.places.now.items c.requires.0 c.args.index _ c.requires.1 c.requires.2 in
    omega (arith, room.0)

pub write_update-requires : goal.write_update-requires
write_update-requires c =
    let room = has_room c.args.bytes.now.items c.args.places.now.items c.requires.0 c.args.index _ c.requires.1 c.requires.2 in
    rw c.as_mut_slice.ensures.value (room.1 c.index.result.now c.index.ensures)

pub index_mut-requires : goal.index_mut-requires
index_mut-requires c =
    let room = has_room c.args.bytes.now.items c.args.places.now.items c.requires.0 c.args.index _ c.requires.1 c.requires.2 in
    omega (arith, room.0)

pub returns : goal.returns
returns c = λ changes change held is.
    let old = c.args.bytes.now.items in
    let start = c.index.result.now.start in
    let value = c.as_mut_slice.ensures.value in
    let same : c.requires.0 ≡ changes = held_same old c.args.places.now.items c.requires.0 changes c.requires.1 held in
    let spelled : List ℕ = update_byte ∷ flag_byte c.args.flag ∷ (c.args.old.now ++ c.args.new.now) in
    let size : 2 + length c.args.old.now + length c.args.new.now ≡ length spelled = omega (arith, length-append c.args.old.now c.args.new.now) in
    let has : HasLength changes c.args.index (length spelled) = rw (← size) (subst (λ (cs : List Change). HasLength cs c.args.index (2 + length c.args.old.now + length c.args.new.now)) same c.requires.2) in
    let long : length c.write_update.new.bytes ≡ c.args.bytes.now.len = omega (arith, c.write_update.auto.bytes, c.as_mut_slice.ensures.len) in
    let written = with_items_is c.args.bytes.now c.write_update.new.bytes long ∙ c.write_update.ensures ∙ ap (λ (t : List ℕ). overwritten t start spelled) value in
    held_set old _ spelled c.args.places.now.items changes c.args.index start (2 + length c.args.old.now) change c.index.result.now held has is c.index.ensures refl written
