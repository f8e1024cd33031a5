use Rattle.std.proofs.Common.{refl}
use Rattle.cs_hub.proofs.LogStoreLemmas.Versions.{later_grows}
use Rattle.cs_hub.proofs.log_opening.widens.follow_stored.Goals as goal

pub invariant_of-catalogs-2 : goal.invariant_of-catalogs-2
invariant_of-catalogs-2 c =
    elim c.match-later.branch [
      | goal.in-Some+in_ok-push w ↦ rw w.catalogs-inside-is
          (later_grows c.catalogs.inside.opening c.catalogs.inside.later.items c.catalogs.inside.later.items refl c.in_ok-later.later c.behind.result.now w.push.new.self.items w.in-Some.later
          c.catalogs.invariant (rw (← c.catalogs.view_is) at c.behind.ensures) w.in-Some.is c.in_ok-later.ensures.made w.in_ok-push.ensures.items)
      | goal.in_default w ↦ rw w.catalogs-inside-is c.catalogs.invariant
    ]
