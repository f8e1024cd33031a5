-- By wishes in a list each clash has one answer.
use Rattle.std.proofs.Common.{◌∙◌, sym}
use Rattle.cs_world.specs.Laws.{WishesPickOnce}

pub wishes_pick_once : WishesPickOnce
wishes_pick_once p clash some other q r one two = (one.is ∙ sym two.is, one.left ∙ sym two.left)
