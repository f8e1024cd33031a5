use Rattle.std.proofs.Common.{◌≡◌, ◌∙◌, ap, get_or, subst, sym}
use Rattle.cs_text.proofs.ParseLemmas.EditLemmas.{marks_found, marks_none}
use Rattle.cs_text.proofs.parse.edits.marks_of.Goals as goal

pub returns-in-Some : goal.returns-in-Some
returns-in-Some c =
    let table = c.index-tables-place.result in
    let is = subst (λ ts. table ≡ get_or ts c.in-Some.place table) c.tables-tables.ensures.same c.index-tables-place.is in
    c.as_slice.ensures ∙ sym (ap (λ d. d.key_marks) c.index-tables-place.is)
    ∙ marks_found c.args.catalog.now c.args.name.now c.in-Some.place table c.in-Some.ensures.found.0 is c.in-Some.ensures.found.1 c.in-Some.ensures.only

pub returns-in-None : goal.returns-in-None
returns-in-None c = marks_none c.args.catalog.now c.args.name.now c.in-None.ensures.found
