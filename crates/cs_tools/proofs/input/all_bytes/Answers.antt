use Rattle.std.proofs.Common.{◌≡◌, ◌++◌, ◌∷◌, [], ◌+◌, ◌∙◌, length, arith}
use Rattle.std.proofs.lemmas.Grind.{common_steps}
use Rattle.cs_lines.specs.declared.serve.TheConstants.{ASKS}
use Rattle.cs_tools.proofs.InputLemmas.{read_in_memory, read_more, read_none, read_stopped, read_without_end}
use Rattle.cs_tools.proofs.input.all_bytes.Goals as goal

pub loop-asked-init : goal.loop-asked-init
loop-asked-init g c =
    let empty : length c.new-inputs.result.items ≡ 0 = grind (arith, common_steps) in
    (read_none c.lines_taken.ensures.none _ _ c.new-inputs.ensures.items, empty)

pub loop-asked-preserved : goal.loop-asked-preserved
loop-asked-preserved g c =
    let grown : c.push.new.self.items ≡ c.loop-asked.inputs.items ++ c.in-Ok-Some.bytes ∷ [] = grind (arith, common_steps) in
    let one_more : length c.push.new.self.items ≡ c.loop-asked.asked + 1 = grind (arith, common_steps, grown, c.loop-asked.invariant.1) in
    (read_more c.lines_taken.ensures.more (g.R.Read.remaining c.args.reader.now) (g.R.Read.remaining c.loop-asked.reader) (g.R.Read.remaining c.next_bytes.new.reader) c.loop-asked.inputs.items c.push.new.self.items c.in-Ok-Some.bytes grown c.loop-asked.invariant.0 (rw c.in-Ok-Some.field-0-is at c.in-Ok-Some.ensures.ok), one_more)

pub returns-then-is_err : goal.returns-then-is_err
returns-then-is_err g c =
    let same : c.push.new.self.items ≡ c.loop-asked.inputs.items = grind (arith, common_steps) in
    read_in_memory _ _ (g.R.Read.remaining c.loop-asked.reader) _ c.loop-asked.inputs.items _ same c.loop-asked.invariant.0

pub returns-in-Err : goal.returns-in-Err
returns-in-Err g c = read_stopped c.lines_taken.ensures.more _ _ _ _ _ _ c.loop-asked.invariant.0 c.in-Err.ensures.err

pub returns : goal.returns
returns g c =
    let all : c.loop-asked.asked ≡ ASKS = omega arith in
    read_without_end _ _ _ _ c.loop-asked.invariant.0 (c.loop-asked.invariant.1 ∙ all)
