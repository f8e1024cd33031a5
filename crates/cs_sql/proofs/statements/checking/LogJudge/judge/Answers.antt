use Rattle.std.proofs.Common.{◌≡◌, Bool, map, rules, subst}
use Rattle.cs_store.specs.Whole.{AreJudged}
use Rattle.cs_sql.specs.statements.Steps.{body_read}
use Rattle.cs_sql.proofs.StatementsLemmas.Bodies.{judged_on}
use Rattle.cs_sql.proofs.statements.checking.LogJudge.judge.Goals as goal

pub returns-in_ok-self : goal.returns-in_ok-self
returns-in_ok-self c = λ opening rows are front.
    let present = c.args.self.now.present in
    let shown : c.bytes_of.result.now ≡ body_read c.args.row.now = search rules in
    judged_on c.decoding.ensures.on c.decoding.ensures.refused opening present c.judge_body.new.self rows c.args.row.now c.bytes_of.result.now c.in_ok-self.field-0 are shown
    (subst (λ (b : Bool). AreJudged opening (map body_read rows) b present) c.if-self.true front) c.in_ok-self.ensures.judged
