use Rattle.std.proofs.Common.{ℕ, ◌-◌, ◌∙◌, ap, arith, min}
use Rattle.cs_hub.proofs.Answered.{cut_entries}
use Rattle.cs_hub.proofs.hub.Hub.entries.Goals as goal

pub returns-clause-found : goal.returns-clause-found
returns-clause-found g c =
    rw (← c.self.view_is)
    (λ honest log shows. (
      omega (arith, c.newest-newest.ensures, c.if-first-newest.false, shows.1),
      c.in-Ok.ensures.found honest log shows (omega (arith, c.min-count.ensures, c.newest-newest.ensures, c.if-first-newest.false, shows.1))
          ∙ cut_entries log c.args.first c.args.limit c.min-count.result (omega (arith, c.newest-newest.ensures, c.if-first-newest.false, shows.1))
          (c.min-count.ensures ∙ ap (λ (n : ℕ). min c.args.limit (n - c.args.first)) (c.newest-newest.ensures ∙ shows.1)),
    ))
