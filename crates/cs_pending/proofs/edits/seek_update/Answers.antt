use Rattle.std.proofs.Common.{◌∙◌, ℕ, List, ap, ap₂, inr, length, sym}
use Rattle.cs_value.specs.declared.value.Field.{Field}
use Rattle.cs_record.specs.Spelling.{row_bytes}
use Rattle.cs_pending.specs.Edits.{AskUpdate, edit_at, keeps_key}
use Rattle.cs_pending.specs.declared.wanted.Wanted.TheVariants.{Update}
use Rattle.cs_pending.proofs.Named.{at_place, both_counts, no_kept_key, no_set_key, no_width, not_both_counts}
use Rattle.cs_pending.proofs.edits.seek_update.Goals as goal

pub returns-then-as_slice-key_width-clause-refused : goal.returns-then-as_slice-key_width-clause-refused
returns-then-as_slice-key_width-clause-refused c =
    inr (λ e. cc, no_width c.args.table.now (AskUpdate c.args.key.now c.args.fields.now) (not_both_counts _ _ _ _ (rw (c.as_slice.ensures, c.key_width.ensures, c.as_slice-marks.ensures) at c.then-as_slice-key_width.either)))

pub returns-then-not-are_set-clause-refused : goal.returns-then-not-are_set-clause-refused
returns-then-not-are_set-clause-refused c =
    let wide = both_counts _ _ _ _ (rw (c.as_slice.ensures, c.key_width.ensures, c.as_slice-marks.ensures) at c.if-as_slice-key_width.false) (rw c.as_slice-marks.ensures at c.if-fields-marks.false) in
    inr (λ e. cc, no_set_key c.args.table.now (AskUpdate c.args.key.now c.args.fields.now) wide (rw c.as_slice-2.ensures at (sym c.are_set.ensures ∙ c.if-not-are_set.true)))

pub returns-then-not-are_kept-clause-refused : goal.returns-then-not-are_kept-clause-refused
returns-then-not-are_kept-clause-refused c =
    let wide = both_counts _ _ _ _ (rw (c.as_slice.ensures, c.key_width.ensures, c.as_slice-marks.ensures) at c.if-as_slice-key_width.false) (rw c.as_slice-marks.ensures at c.if-fields-marks.false) in
    let set = rw c.as_slice-2.ensures at (sym c.are_set.ensures ∙ c.if-not-are_set.false) in
    inr (λ e. cc, no_kept_key c.args.table.now (AskUpdate c.args.key.now c.args.fields.now) wide set (rw c.as_slice-marks.ensures at (sym c.are_kept.ensures ∙ c.if-not-are_kept.true)))

pub returns-clause-sought : goal.returns-clause-sought
returns-clause-sought c =
    let wide = both_counts _ _ _ _ (rw (c.as_slice.ensures, c.key_width.ensures, c.as_slice-marks.ensures) at c.if-as_slice-key_width.false) (rw c.as_slice-marks.ensures at c.if-fields-marks.false) in
    let set = rw c.as_slice-2.ensures at (sym c.are_set.ensures ∙ c.if-not-are_set.false) in
    let kept = rw c.as_slice-marks.ensures at (sym c.are_kept.ensures ∙ c.if-not-are_kept.false) in
    let key_is = c.in_ok-key.ensures ∙ ap row_bytes c.as_slice-3.ensures in
    record {
      wanted = (
        ap length c.in_ok-fields.ensures.fields ∙ (rw c.as_slice-marks.ensures at c.if-fields-marks.false),
        c.in_ok-fields.ensures.fits,
        ap (keeps_key c.args.table.now.key_marks) c.in_ok-fields.ensures.fields ∙ kept,
      );
      leads = λ view. at_place c.args.table.now (AskUpdate c.args.key.now c.args.fields.now) wide set kept view
          ∙ ap₂ (λ (key : List ℕ) (fields : List Field). edit_at c.args.table.now key (Update fields) view) (sym key_is) (sym c.in_ok-fields.ensures.fields);
    }
