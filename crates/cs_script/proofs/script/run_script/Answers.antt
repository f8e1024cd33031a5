use Rattle.std.proofs.Common.{subst}
use Rattle.std.specs.Prelude.{string_bytes}
use Rattle.std.specs.Io.KnownBytes.{Appends}
use Rattle.cs_lines.specs.Writing.{AppendsFront}
use Rattle.cs_script.specs.Endings.{IsPlayed}
use Rattle.cs_script.proofs.script.run_script.Goals as goal

pub returns-in-Ok-clause-ends : goal.returns-in-Ok-clause-ends
returns-in-Ok-clause-ends g c =
    let text = string_bytes c.in_ok-text.text in
    let played = subst (λ events. IsPlayed c.args.catalog.now c.args.count events text) c.deref.ensures.value c.in_ok-text.ensures in
    let written = subst (λ t. Appends (g.W.Write.contents c.args.writer.now) (g.W.Write.contents c.write_text.new.writer) t) c.as_str.ensures.value c.in-Ok.ensures.written in
    (text, (c.in_ok-events.events.items, c.in_ok-events.ensures.ok, played), written)

pub returns-clause-ends : goal.returns-clause-ends
returns-clause-ends g c =
    let text = string_bytes c.in_ok-text.text in
    let played = subst (λ events. IsPlayed c.args.catalog.now c.args.count events text) c.deref.ensures.value c.in_ok-text.ensures in
    let front = subst (λ t. AppendsFront (g.W.Write.contents c.args.writer.now) (g.W.Write.contents c.write_text.new.writer) t) c.as_str.ensures.value c.in-Err.ensures.front in
    (text, (c.in_ok-events.events.items, c.in_ok-events.ensures.ok, played), front, c.in-Err.ensures.failed)
