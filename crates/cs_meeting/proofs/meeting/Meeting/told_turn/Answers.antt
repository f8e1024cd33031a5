use Rattle.std.proofs.Common.{List, ◌≡◌, ◌∙◌, ℕ, inr, subst, sym}
use Rattle.std.specs.Io.KnownBytes.{Appends}
use Rattle.std.proofs.lemmas.Result.{err_from_is_err_and}
use Rattle.cs_lines.specs.Writing.{AppendsFront}
use Rattle.cs_meeting.proofs.Told.{keeps_itself}
use Rattle.cs_meeting.proofs.Turning.{made_of, next_turn, turned_to}
use Rattle.cs_meeting.proofs.meeting.Meeting.told_turn.Goals as goal

pub returns-in_err-reply-clause-told : goal.returns-in_err-reply-clause-told
returns-in_err-reply-clause-told g c =
    let p = err_from_is_err_and c.from_residual-in_err-reply.result c.from_residual-in_err-reply.ensures.1 in
    let made = c.in_err-reply.ensures.makes in
    let turn = next_turn g.S.RowStore c.args.ask c.args.wish c.as_slice.result.now made.0 c.args.self.now c.turn.new.self c.requires.next (c.as_slice.ensures.value ∙ c.in_ok-wishes.ensures) made.2 in
    rw (p.1, p.2) (keeps_itself (g.W.Write.contents c.args.writer.now), inr (made.0, made_of g.S.RowStore c.args.wish made.0 c.args.self.now c.turn.new.self turn))

pub returns-clause-told : goal.returns-clause-told
returns-clause-told g c =
    let made = c.in_ok-reply.ensures.makes in
    let version : c.version-version.result ≡ c.args.self.now.replica.position.version = rw (← c.self.view_is) c.version-version.ensures in (
      made.0,
      turned_to g.S.RowStore c.has_moved.result c.args.wish made.0 c.args.self.now c.turn.new.self
          (next_turn g.S.RowStore c.args.ask c.args.wish c.as_slice.result.now made.0 c.args.self.now c.turn.new.self c.requires.next (c.as_slice.ensures.value ∙ c.in_ok-wishes.ensures) made.2)
          (λ is. c.has_moved.ensures.still is ∙ version) (λ is same. c.has_moved.ensures.moved is (same ∙ sym version)),
      subst (λ (text : List ℕ). Appends (g.W.Write.contents c.args.writer.now) (g.W.Write.contents c.write_reply.new.writer) text) (sym made.1) c.in_ok-write_reply.ensures.written,
    )

pub returns-in_err-write_reply-clause-told : goal.returns-in_err-write_reply-clause-told
returns-in_err-write_reply-clause-told g c =
    let p = err_from_is_err_and c.from_residual-in_err-write_reply.result c.from_residual-in_err-write_reply.ensures.1 in
    let made = c.in_ok-reply.ensures.makes in
    let turn = next_turn g.S.RowStore c.args.ask c.args.wish c.as_slice.result.now made.0 c.args.self.now c.turn.new.self c.requires.next (c.as_slice.ensures.value ∙ c.in_ok-wishes.ensures) made.2 in
    rw (p.1, p.2) (
      made.0,
      made_of g.S.RowStore c.args.wish made.0 c.args.self.now c.turn.new.self turn,
      subst (λ (text : List ℕ). AppendsFront (g.W.Write.contents c.args.writer.now) (g.W.Write.contents c.write_reply.new.writer) text) (sym made.1) c.in_err-write_reply.ensures.front,
      c.in_err-write_reply.ensures.failed,
    )
