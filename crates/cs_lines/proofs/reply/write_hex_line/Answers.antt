use Rattle.std.proofs.Common.{◌≡◌, length, [], ◌++◌, refl, sym, ap, ◌∙◌, rules, append_assoc}
use Rattle.std.proofs.KnownBytes.{Appends-nil, Appends-trans}
use Rattle.std.specs.Io.KnownBytes.{Appends}
use Rattle.hex.specs.Hex.{lower_digits}
use Rattle.cs_lines.specs.Lines.{hex_line}
use Rattle.cs_lines.proofs.HexText.{encode_with-nil, Appends-piece, hex_in_pieces, hex_then_feed}
use Rattle.cs_lines.proofs.WriteLemmas.{Appends-kept, front_behind, front_of_all, on_err}
use Rattle.cs_lines.proofs.reply.write_hex_line.Goals as goal

pub loop-rest-init : goal.loop-rest-init
loop-rest-init g c = ([], refl, rw (encode_with-nil lower_digits) (Appends-nil _))

pub returns-in_err-write_hex-clause-front : goal.returns-in_err-write_hex-clause-front
returns-in_err-write_hex-clause-front g c =
    let before = c.loop-rest.invariant in
    let piece = c.split_at.result.0.now in
    let after = c.split_at.result.1.now in
    let cut : c.loop-rest.rest.now ≡ piece ++ after = search rules in
    on_err _ (front_behind _ _ _ _ _ _ _
    (hex_in_pieces c.args.bytes.now before.0 piece after (before.1 ∙ ap (λ l. before.0 ++ l) cut))
    before.2 c.in_err-write_hex.ensures.front)

pub loop-rest-preserved : goal.loop-rest-preserved
loop-rest-preserved g c =
    let before = c.loop-rest.invariant in
    let piece = c.split_at.result.0.now in
    let cut : c.loop-rest.rest.now ≡ piece ++ c.split_at.result.1.now = search rules in (
      before.0 ++ piece,
      before.1 ∙ ap (λ l. before.0 ++ l) cut ∙ sym (append_assoc before.0 piece c.split_at.result.1.now),
      Appends-piece _ _ _ before.0 piece before.2 c.in_ok-write_hex.ensures.written,
    )

pub returns-in_err-put-clause-front : goal.returns-in_err-put-clause-front
returns-in_err-put-clause-front g c =
    let before = c.loop-rest.invariant in
    let none : length c.loop-rest.rest.now ≡ 0 = search rules in
    on_err _ (front_behind _ _ _ _ _ _ _ (hex_then_feed c.args.bytes.now before.0 _ before.1 none) before.2 c.in_err-put.ensures.front)

pub returns-clause-front : goal.returns-clause-front
returns-clause-front g c =
    let before = c.loop-rest.invariant in
    let none : length c.loop-rest.rest.now ≡ 0 = search rules in
    let both = Appends-trans _ _ _ _ _ before.2 c.in_ok-put.ensures.written in
    let whole : Appends (g.W.Write.contents c.args.writer.now) (g.W.Write.contents c.put.new.self) (hex_line c.args.bytes.now) =
    rw (hex_then_feed c.args.bytes.now before.0 c.loop-rest.rest.now before.1 none) both in
    on_err _ (front_of_all _ _ _ (Appends-kept _ _ _ _ whole c.send.ensures.kept))
