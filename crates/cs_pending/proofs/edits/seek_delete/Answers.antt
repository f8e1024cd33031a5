use Rattle.std.proofs.Common.{◌∙◌, ℕ, List, ap, inr, refl, sym}
use Rattle.cs_record.specs.Spelling.{row_bytes}
use Rattle.cs_pending.specs.Edits.{AskDelete, edit_at}
use Rattle.cs_pending.specs.declared.wanted.Wanted.TheVariants.{Delete}
use Rattle.cs_pending.proofs.Named.{at_place, no_set_key, no_width, other_count, same_count}
use Rattle.cs_pending.proofs.edits.seek_delete.Goals as goal

pub returns-then-as_slice-key_width-clause-refused : goal.returns-then-as_slice-key_width-clause-refused
returns-then-as_slice-key_width-clause-refused c =
    inr (λ e. cc, no_width c.args.table.now (AskDelete c.args.key.now) (other_count _ _ (rw (c.as_slice.ensures, c.key_width.ensures, c.as_slice-2.ensures) at c.if-as_slice-key_width.true)))

pub returns-then-not-are_set-clause-refused : goal.returns-then-not-are_set-clause-refused
returns-then-not-are_set-clause-refused c =
    let wide = rw (c.as_slice.ensures, c.key_width.ensures, c.as_slice-2.ensures) at c.if-as_slice-key_width.false in
    inr (λ e. cc, no_set_key c.args.table.now (AskDelete c.args.key.now) (same_count _ _ wide) (rw c.as_slice-3.ensures at (sym c.are_set.ensures ∙ c.if-not-are_set.true)))

pub returns-clause-sought : goal.returns-clause-sought
returns-clause-sought c =
    let wide = rw (c.as_slice.ensures, c.key_width.ensures, c.as_slice-2.ensures) at c.if-as_slice-key_width.false in
    let set = rw c.as_slice-3.ensures at (sym c.are_set.ensures ∙ c.if-not-are_set.false) in
    let key_is = c.in_ok-key.ensures ∙ ap row_bytes c.as_slice-4.ensures in
    record {
      wanted = tt;
      leads = λ view. at_place c.args.table.now (AskDelete c.args.key.now) (same_count _ _ wide) set refl view
          ∙ ap (λ (key : List ℕ). edit_at c.args.table.now key Delete view) (sym key_is);
    }
