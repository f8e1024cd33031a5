-- Whether a push was offered: no definition that a public clause cites.
use Rattle.std.specs.Prelude.{Bool, true, false}
use Rattle.cs_nodes.specs.declared.following.pushed.NodePush.{NodePush}
use Rattle.cs_nodes.specs.declared.following.pushed.NodePush.TheVariants.{Nothing, Behind, Accepted, Other}

-- the entry of its cell was taken
abbrev pub is_taken : NodePush → Bool
is_taken Nothing = false
is_taken Behind = false
is_taken (Accepted version) = true
is_taken (Other version) = true
