use Rattle.std.proofs.Common.{◌∙◌, ap, map, Bool, List, ℕ, ◌++◌, Some, None}
use Rattle.std.proofs.lemmas.Result.{on_ok_weaker}
use Rattle.cs_change.specs.Spelling.{flag_byte, header_spelling}
use Rattle.cs_column_bytes.proofs.Columns.{first_put}
use Rattle.cs_column_bytes.proofs.spelling.put_first_header.Goals as goal

pub returns-in-Some-clause-ok : goal.returns-in-Some-clause-ok
returns-in-Some-clause-ok c =
    on_ok_weaker c.put_header.result (first_put c.args.columns.now c.args.table.now.name c.as_str-name.result.now (map flag_byte c.args.table.now.marks) c.args.out.now.items c.put_header.new.out.items (Some c.in-Some.marks.now) c.as_str-name.ensures c.in-Some.ensures.value) c.put_header.ensures.ok

pub returns-in_ok-marks-in-None-clause-ok : goal.returns-in_ok-marks-in-None-clause-ok
returns-in_ok-marks-in-None-clause-ok c =
    let flags = c.as_slice-in-None.ensures.value ∙ c.in_ok-marks-in-None.ensures ∙ ap (λ (marks : List Bool). map flag_byte marks) c.as_slice.ensures in
    on_ok_weaker c.put_header-in-None.result (λ put. first_put c.args.columns.now c.args.table.now.name c.as_str-name.result.now (map flag_byte c.args.table.now.marks) c.args.out.now.items c.put_header-in-None.new.out.items None c.as_str-name.ensures c.in-None.ensures.value (put ∙ ap (λ (bytes : List ℕ). c.args.out.now.items ++ header_spelling bytes c.as_str-name.result.now) flags)) c.put_header-in-None.ensures.ok
