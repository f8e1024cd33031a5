use Rattle.std.proofs.Common.{◌∙◌, ◌++◌, ℕ, inr, List, ap}
use Rattle.std.proofs.lemmas.Result.{err_from_is_err_and}
use Rattle.cs_column_bytes.specs.KeyPlaces.{Head, sqlite_spelling}
use Rattle.cs_column_bytes.specs.Steps.{heads_behind}
use Rattle.cs_column_bytes.specs.declared.headers.Header.{Header}
use Rattle.cs_ffi.proofs.ForSqlite.{in_one_order, spelled}
use Rattle.cs_ffi.proofs.sqlite.bytes_for_sqlite.Goals as goal

pub returns-in_err-normal : goal.returns-in_err-normal
returns-in_err-normal c =
    let out = err_from_is_err_and c.from_residual-in_err-normal.result c.from_residual-in_err-normal.ensures.1 in
    let declares = in_one_order c.args.declared.now c.in_ok-declaring.declaring c.in_ok-catalog.catalog c.in_ok-declaring.ensures c.in_ok-catalog.ensures c.in_ok-headers.ensures.1 in
    rw (out.1, out.2) (inr (inr (inr (c.in_ok-catalog.catalog, declares, c.in_err-normal.ensures))))

pub returns : goal.returns
returns c =
    let declares = in_one_order c.args.declared.now c.in_ok-declaring.declaring c.in_ok-catalog.catalog c.in_ok-declaring.ensures c.in_ok-catalog.ensures c.in_ok-headers.ensures.1 in
    let is = c.in_ok-encode.ensures.ok in
    spelled c.normal_is_taken.ensures c.heads_of_catalog.ensures c.stays_the_same.ensures c.same_length.ensures c.args.declared.now c.args.input.now c.encode.new.out.items c.in_ok-catalog.catalog c.in_ok-normal.normal declares c.in_ok-normal.ensures (is ∙ ap (λ (front : List ℕ). front ++ sqlite_spelling (heads_behind c.as_slice.result.now) c.in_ok-normal.normal) c.new-bytes.ensures.items ∙ ap (λ (heads : List Head). sqlite_spelling heads c.in_ok-normal.normal) (ap (λ (some : List Header). heads_behind some) c.as_slice.ensures.value ∙ c.in_ok-headers.ensures.0))
