use Rattle.std.proofs.Common.{◌≡◌, ◌∙◌, List, ℕ, ap, arith, get_or, length, refl, set}
use Rattle.std.proofs.lemmas.List.{with_items_is}
use Rattle.cs_change.specs.Held.{turned_byte}
use Rattle.cs_change.proofs.Replaced.{begins_within, held_turned}
use Rattle.cs_change.proofs.replacing.turn_over.Goals as goal

pub turn_byte-requires : goal.turn_byte-requires
turn_byte-requires c =
    let within = begins_within c.args.bytes.now.items c.args.places.now c.requires.0 c.args.index c.requires.1 c.requires.2 in
    rw c.as_mut_slice.ensures.value (within.1 c.in-Some.place.now c.in-Some.ensures.lookup.1)

pub returns-in-Some : goal.returns-in-Some
returns-in-Some c = λ changes change held got.
    let old = c.args.bytes.now.items in
    let start = c.in-Some.place.now.start in
    let long : length c.turn_byte.new.bytes ≡ c.args.bytes.now.len = omega (arith, c.turn_byte.auto.bytes, c.as_mut_slice.ensures.len) in
    let written = with_items_is c.args.bytes.now c.turn_byte.new.bytes long ∙ c.turn_byte.ensures ∙ ap (λ (t : List ℕ). set t start (turned_byte (get_or t start 0))) c.as_mut_slice.ensures.value in
    held_turned old _ c.args.places.now changes c.args.index start change c.in-Some.place.now held got c.in-Some.ensures.lookup.1 refl written

pub returns-in_default : goal.returns-in_default
returns-in_default c = λ changes change held got.
    let within = begins_within c.args.bytes.now.items c.args.places.now c.requires.0 c.args.index c.requires.1 c.requires.2 in
    absurd (omega (arith, c.in_default.ensures.lookup.3, within.0))
