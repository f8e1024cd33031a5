use Rattle.std.proofs.Common.{sym}
use Rattle.std.specs.Prelude.{ℕ, List, ◌≡◌, ◌++◌}
use Rattle.std.specs.Global.{Vec}
use Rattle.cs_store.specs.edits.Pieces.{HaveGrown, pieces_of}
use Rattle.cs_store.proofs.EditsLemmas.Growth.{grown_last, grown_then}
use Rattle.cs_store.proofs.edits.pieces.Pieces.put.Goals as goal

-- once there is room, the last piece alone grows
then_last : (old mid : List (List ℕ)) (full : List (Vec ℕ)) (last new : List ℕ) → HaveGrown old mid → pieces_of full last ≡ mid
    → (more : List ℕ) × (new ≡ last ++ more) → HaveGrown old (pieces_of full new)
then_last old mid full last new room is grown =
    grown_then old mid (pieces_of full new) room (rw (sym is) (rw grown.1 (grown_last full last grown.0)))

pub returns-in_err-middle-clause-grown : goal.returns-in_err-middle-clause-grown
returns-in_err-middle-clause-grown c =
    then_last c.args.self.now c.make_room.new.self c.self.inside.full.items c.self.inside.last.items c.append.new.bytes.items
    c.make_room.ensures c.self.view_is c.append.ensures.grown

pub returns-clause-grown : goal.returns-clause-grown
returns-clause-grown c =
    then_last c.args.self.now c.make_room.new.self c.self.inside.full.items c.self.inside.last.items c.append.new.bytes.items
    c.make_room.ensures c.self.view_is c.append.ensures.grown
