use Rattle.std.proofs.Common.{◌≡◌, ◌++◌, ◌∷◌, [], ◌+◌, ◌∙◌, ap, sym, length, arith}
use Rattle.std.proofs.lemmas.Grind.{common_steps}
use Rattle.cs_lines.specs.declared.serve.TheConstants.{ASKS}
use Rattle.cs_node_lines.proofs.AsksLemmas.InputLemmas.{read_more, read_stopped, read_without_end}
use Rattle.cs_node_lines.proofs.asks.input.read_asks.Goals as goal

pub returns-in-Err-clause-refused : goal.returns-in-Err-clause-refused
returns-in-Err-clause-refused g c =
    let count : c.loop-asked.asked + 1 ≡ length c.loop-asked.asks.items + 1 = ap (λ n. n + 1) (sym c.loop-asked.invariant.1) in
    read_stopped c.lines_taken.ensures.more _ _ _ _ _ _ _ _ c.loop-asked.invariant.0 count c.in-Err.ensures.refused

pub loop-asked-preserved : goal.loop-asked-preserved
loop-asked-preserved g c =
    let grown : c.push.new.self.items ≡ c.loop-asked.asks.items ++ c.in-Ok-Some.ask ∷ [] = grind (arith, common_steps) in
    let one_more : length c.push.new.self.items ≡ c.loop-asked.asked + 1 = grind (arith, common_steps, grown, c.loop-asked.invariant.1) in
    (read_more c.lines_taken.ensures.more c.args.catalog.now (g.R.Read.remaining c.args.reader.now) (g.R.Read.remaining c.loop-asked.reader) (g.R.Read.remaining c.next_ask.new.reader) c.loop-asked.asks.items c.push.new.self.items c.in-Ok-Some.ask grown c.loop-asked.invariant.0 (rw c.in-Ok-Some.field-0-is at c.in-Ok-Some.ensures.taken), one_more)

pub returns-clause-refused : goal.returns-clause-refused
returns-clause-refused g c =
    let all : c.loop-asked.asked ≡ ASKS = omega arith in
    read_without_end _ _ _ _ _ c.loop-asked.invariant.0 (c.loop-asked.invariant.1 ∙ all)
