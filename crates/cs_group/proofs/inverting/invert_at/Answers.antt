use Rattle.std.proofs.Common.{◌∙◌, ap, length, sym}
use Rattle.std.specs.Prelude.{slice_set}
use Rattle.std.specs.Map.{values_of}
use Rattle.cs_change.specs.Listed.{one_there}
use Rattle.cs_change.specs.Spelling.{change_spelling}
use Rattle.cs_change.specs.declared.change.Change.{Change}
use Rattle.cs_group.proofs.InPlace.{as_turned, updated}
use Rattle.cs_group.proofs.inverting.invert_at.Goals as goal

pub replace_update-requires : goal.replace_update-requires
replace_update-requires c =
    let there = one_there (values_of c.args.changes.now) c.args.at c.requires.within in
    let is = updated _ c.in-Some.flag _ _ c.as_record-old_fields.result c.as_record-new_fields.result there.0 c.in-Some.is c.as_record-old_fields.ensures c.as_record-new_fields.ensures (c.in_ok-make_inverse.ensures there.0 there.1) in
    (there.0, there.1, c.requires.long there.0 there.1 ∙ ap (λ (x : Change). length (change_spelling x)) is)

pub returns-in-None-clause-changes : goal.returns-in-None-clause-changes
returns-in-None-clause-changes c = λ change there.
    let is = as_turned _ _ _ change c.in-None.is (c.in_ok-make_inverse.ensures change there) in
    c.turn_at.ensures.changes change there ∙ ap (λ (x : Change). slice_set (values_of c.args.changes.now) c.args.at x) is

pub returns-in-Some-clause-changes : goal.returns-in-Some-clause-changes
returns-in-Some-clause-changes c = λ change there.
    let is = updated _ c.in-Some.flag _ _ c.as_record-old_fields.result c.as_record-new_fields.result change c.in-Some.is c.as_record-old_fields.ensures c.as_record-new_fields.ensures (c.in_ok-make_inverse.ensures change there) in
    c.replace_update.ensures.changes ∙ ap (λ (x : Change). slice_set (values_of c.args.changes.now) c.args.at x) (sym is)
