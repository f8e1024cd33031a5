use Rattle.std.proofs.Common.{drop, eqb-true, sym, ap, ◌∙◌}
use Rattle.cs_apply.proofs.Told.{none_behind, told_behind}
use Rattle.cs_apply.proofs.numbers.LentNumbers.behind.Goals as goal

pub returns-then-is_empty : goal.returns-then-is_empty
returns-then-is_empty c =
    none_behind c.self.inside.count c.args.count c.self.inside.told.now (eqb-true _ _ (sym c.is_empty.ensures ∙ c.if-is_empty.true))
    ∙ ap (λ numbers. drop c.args.count numbers) c.self.view_is

pub returns : goal.returns
returns c =
    rw (c.split_at.ensures.back) (told_behind c.self.inside.count c.args.count c.self.inside.told.now (sym c.is_empty.ensures ∙ c.if-is_empty.false)
    ∙ ap (λ numbers. drop c.args.count numbers) c.self.view_is)
