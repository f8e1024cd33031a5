use Rattle.cs_ffi.specs.NormalAnswers.{Declare}
use Rattle.cs_ffi.proofs.Declared.{gives_normal}
use Rattle.cs_ffi.proofs.normal.read_normal.Goals as goal

pub returns : goal.returns
returns c =
    let declares : Declare c.args.declared.now c.in_ok-catalog.catalog =
    record {
      groups = c.in_ok-declaring.declaring;
      spells = c.in_ok-declaring.ensures;
      catalog = c.in_ok-catalog.ensures.0;
      are = c.in_ok-catalog.ensures.1;
    } in
    gives_normal c.normal_is_taken.ensures c.args.declared.now c.args.input.now c.in_ok-catalog.catalog declares c.read_form.result c.read_form.ensures
