use Rattle.cs_opening.proofs.Shown.{holds_places}
use Rattle.cs_opening.proofs.laws.shown_is_whole.Goals as goal

pub returns : goal.returns
returns c = λ tables position contents are shown.
    (holds_places tables (record { are = are; one = c.catalogs.ensures.place; key = c.one_key_stands.ensures; net_takes = c.net_takes.ensures }) contents position shown.0 shown.1).whole
