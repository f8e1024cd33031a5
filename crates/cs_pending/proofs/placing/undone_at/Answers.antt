use Rattle.std.proofs.Common.{◌∙◌, ap, sym}
use Rattle.cs_store.specs.Written.{optional_bytes}
use Rattle.cs_pending.proofs.Reading.{none_there}
use Rattle.cs_pending.proofs.placing.undone_at.Goals as goal

pub returns-in_default-clause-found : goal.returns-in_default-clause-found
returns-in_default-clause-found g c = λ honest change stored fits.
    none_there _ change _ (sym (c.in_ok-body.ensures.found honest) ∙ ap optional_bytes c.in_default.is) stored
