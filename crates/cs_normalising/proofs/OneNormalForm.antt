-- A changeset has one normal form.
use Rattle.std.proofs.Common.{sym, ◌∙◌}
use Rattle.std.proofs.lemmas.List.Elements.{All-contains}
use Rattle.cs_value.specs.declared.catalog.TableDef.{TableDef}
use Rattle.cs_normal.specs.keyed.NormalForm.{IsNormalOf}
use Rattle.cs_normal.specs.Laws.{OneNormal}
use Rattle.cs_normal.specs.Normal.{changes_in}
use Rattle.cs_normalising.specs.Laws.{OneNormalForm}
use Rattle.cs_normalising.specs.NormalFormOf.{changes_of}
use Rattle.cs_normalising.proofs.Membership.{by_key}

pub one_normal_form : OneNormal → OneNormalForm
one_normal_form one_normal tables groups some others are s o =
    one_normal tables some others are s.normal o.normal s.of_catalog o.of_catalog (λ table key in'.
    (let changes = changes_of table.name groups in
    let left = by_key table.key_marks changes (changes_in table.name some) (All-contains (λ (t : TableDef). IsNormalOf t.key_marks (changes_of t.name groups) (changes_in t.name some)) tables table s.each in') in
    let right = by_key table.key_marks changes (changes_in table.name others) (All-contains (λ (t : TableDef). IsNormalOf t.key_marks (changes_of t.name groups) (changes_in t.name others)) tables table o.each in') in
    left.1 key ∙ sym (right.1 key)))
