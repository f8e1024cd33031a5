use Rattle.std.proofs.Common.{true}
use Rattle.std.proofs.lemmas.Fmt.{hex_byte}
use Rattle.cs_text.proofs.words.write_byte.Goals as goal

pub returns-else-is_plain : goal.returns-else-is_plain
returns-else-is_plain g c plain ok =
    let written = rw (c.laid_out.ensures, c.in_radix.ensures) at c.write.ensures.writes in
    rw (← c.is_plain.ensures, c.if-is_plain.false, ← hex_byte true c.args.byte c.ranges.byte.fits) (written plain ok)
