use Rattle.cs_normal.proofs.Placed.{not_there}
use Rattle.cs_normal.proofs.name_places.NamePlaces.of.Goals as goal

pub returns-in-None : goal.returns-in-None
returns-in-None c =
    rw (← c.self.view_is) (not_there _ c.self.inside.once c.self.inside.places c.args.name.now c.self.invariant c.in-None.ensures)
