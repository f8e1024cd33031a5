use Rattle.std.proofs.Common.{◌≡◌, ◌++◌, arith}
use Rattle.cs_normal.proofs.Joined.{stand_behind, others_stay}
use Rattle.cs_normal.proofs.pieces.Piece.put.Goals as goal

pub returns-clause-put : goal.returns-clause-put
returns-clause-put c =
    let header = c.copy_from_slice.ensures.after in
    let changes = c.copy_from_slice-2.ensures.after in
    let parts = c.self.view_is in
    let whole : c.args.self.now ≡ c.copy_from_slice.new.self ++ c.copy_from_slice-2.new.self = cc in
    stand_behind c.args.out.now c.copy_from_slice.new.self c.copy_from_slice-2.new.self c.args.self.now c.args.at _ _ _ whole c.requires (omega arith) (omega arith) (omega arith)

pub returns-clause-kept : goal.returns-clause-kept
returns-clause-kept c =
    let header = c.copy_from_slice.ensures.after in
    let changes = c.copy_from_slice-2.ensures.after in
    let parts = c.self.view_is in
    let whole : c.args.self.now ≡ c.copy_from_slice.new.self ++ c.copy_from_slice-2.new.self = cc in
    others_stay c.args.out.now c.copy_from_slice.new.self c.copy_from_slice-2.new.self c.args.self.now c.args.at _ _ _ whole c.requires (omega arith) (omega arith) (omega arith)
