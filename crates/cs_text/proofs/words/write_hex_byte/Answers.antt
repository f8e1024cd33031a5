use Rattle.std.proofs.Common.{false}
use Rattle.std.proofs.lemmas.Fmt.{hex_byte}
use Rattle.cs_text.proofs.words.write_hex_byte.Goals as goal

pub returns : goal.returns
returns g c plain ok =
    let written = rw (c.laid_out.ensures, c.in_radix.ensures) at c.write.ensures.writes in
    rw (← hex_byte false c.args.byte c.ranges.byte.fits) (written plain ok)
