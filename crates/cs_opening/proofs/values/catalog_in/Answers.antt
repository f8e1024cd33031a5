use Rattle.std.proofs.Common.{List, Some, ap, subst, sym, ◌∙◌}
use Rattle.cs_value.specs.Catalog.{AreTables}
use Rattle.cs_value.specs.declared.catalog.TableDef.{TableDef}
use Rattle.cs_pending.specs.position.Values.{catalog_bytes}
use Rattle.cs_opening.proofs.Decoded.{groups_of, is_catalog, made, read_tables, spells_groups}
use Rattle.cs_opening.proofs.values.catalog_in.Goals as goal

pub returns-in-Err-At-clause-only : goal.returns-in-Err-At-clause-only
returns-in-Err-At-clause-only c = λ tables value.
    let spelled = spells_groups c.headers_fit.ensures c.args.bytes.now tables value in
    absurd (rw c.in-Err-At.field-0-is at (c.in-Err-At.ensures.only (groups_of tables) spelled.0 spelled.1))

pub returns-in_default-clause-only : goal.returns-in_default-clause-only
returns-in_default-clause-only c = λ tables value.
    let spelled = spells_groups c.headers_fit.ensures c.args.bytes.now tables value in
    let is = made c.in-Ok.groups _ _ _ c.as_slice.ensures c.new-tables.ensures.items c.in_ok-put_tables.ensures ∙ read_tables c.in-Ok.groups tables (c.in-Ok.ensures.only (groups_of tables) spelled.0 spelled.1) in
    absurd (let no = c.in_default.ensures.only (subst (λ (ts : List TableDef). AreTables ts) (sym is) value.are) in cc)

pub returns-then-not-are_same-clause-only : goal.returns-then-not-are_same-clause-only
returns-then-not-are_same-clause-only c = λ tables value.
    let spelled = spells_groups c.headers_fit.ensures c.args.bytes.now tables value in
    let is = made c.in-Ok.groups _ _ _ c.as_slice.ensures c.new-tables.ensures.items c.in_ok-put_tables.ensures ∙ read_tables c.in-Ok.groups tables (c.in-Ok.ensures.only (groups_of tables) spelled.0 spelled.1) in
    let same = c.are_same.ensures.1 (c.as_slice-2.ensures.value ∙ c.in_ok-again.ensures ∙ ap (λ (ts : List TableDef). catalog_bytes ts) (c.in-Ok-new.ensures.ok.0 ∙ is) ∙ sym value.spelled) in
    absurd (let no = sym same ∙ c.if-not-are_same.true in cc)

pub returns-clause-found : goal.returns-clause-found
returns-clause-found c =
    let is = made c.in-Ok.groups _ _ _ c.as_slice.ensures c.new-tables.ensures.items c.in_ok-put_tables.ensures in
    is_catalog c.args.bytes.now c.in-Ok.groups c.in-Ok-new.catalog c.in-Ok.ensures.reads.0 (c.in-Ok-new.ensures.ok.0 ∙ is)
    (subst (λ (ts : List TableDef). AreTables ts) (sym c.in-Ok-new.ensures.ok.0) c.in-Ok-new.ensures.ok.1)
    (sym (c.are_same.ensures.0 c.if-not-are_same.false) ∙ c.as_slice-2.ensures.value ∙ c.in_ok-again.ensures)

pub returns-clause-only : goal.returns-clause-only
returns-clause-only c = λ tables value.
    let spelled = spells_groups c.headers_fit.ensures c.args.bytes.now tables value in
    let is = made c.in-Ok.groups _ _ _ c.as_slice.ensures c.new-tables.ensures.items c.in_ok-put_tables.ensures ∙ read_tables c.in-Ok.groups tables (c.in-Ok.ensures.only (groups_of tables) spelled.0 spelled.1) in
    ap Some (c.in-Ok-new.ensures.ok.0 ∙ is)
