use Rattle.std.proofs.Common.{◌∙◌, sym}
use Rattle.cs_pending.proofs.outgoing.laws.one_pending.Goals as goal

pub returns : goal.returns
returns c = λ tables pending some other are s o.
    c.one_normal.ensures tables some other are s.normal o.normal s.fits o.fits (λ table key inside. s.changes_are table key inside ∙ sym (o.changes_are table key inside))
