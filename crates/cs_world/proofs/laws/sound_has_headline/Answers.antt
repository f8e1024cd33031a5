use Rattle.cs_world.proofs.Holds.{sound_has_headline}
use Rattle.cs_world.proofs.laws.sound_has_headline.Goals as goal

pub returns : goal.returns
returns c =
    sound_has_headline (record {
      flight = c.flight_fits.ensures;
      rest = c.equal_at_rest.ensures;
      key = c.one_key_stands.ensures;
      net = c.net_takes.ensures;
    })
