use Rattle.std.proofs.Common.{rules, get_or, refl}
use Rattle.cs_text.proofs.ParseLemmas.WishLemmas.{letters_more, letters_none}
use Rattle.cs_text.proofs.parse.wishes.read_letters.Goals as goal

pub returns-in_default : goal.returns-in_default
returns-in_default c = letters_none c.args.letters.now c.loop-letter.letter-index (get_or c.args.letters.now c.loop-letter.letter-index 0) c.loop-letter.wishes.items (search rules) refl (search rules) c.loop-letter.invariant

pub loop-letter-preserved : goal.loop-letter-preserved
loop-letter-preserved c = rw c.in_ok-push.ensures.items (letters_more c.args.letters.now c.loop-letter.letter-index (get_or c.args.letters.now c.loop-letter.letter-index 0) c.loop-letter.wishes.items c.in-Some.wish (search rules) refl (search rules) c.loop-letter.invariant)
