use Rattle.std.proofs.Common.{◌∙◌, ℕ, List, ap, ap₂, inr, length, refl, sym}
use Rattle.std.specs.List.{list_all}
use Rattle.cs_value.specs.Catalog.{is_set, marked}
use Rattle.cs_value.specs.declared.value.Value.{Value}
use Rattle.cs_record.specs.Spelling.{row_bytes}
use Rattle.cs_normal.specs.Changes.{key_bytes}
use Rattle.cs_pending.specs.Edits.{AskInsert, edit_at}
use Rattle.cs_pending.specs.declared.wanted.Wanted.TheVariants.{Insert}
use Rattle.cs_pending.proofs.Named.{at_place, key_null, key_set, no_set_key, no_width, other_count, same_count}
use Rattle.cs_pending.proofs.edits.seek_insert.Goals as goal

pub returns-then-as_slice-clause-refused : goal.returns-then-as_slice-clause-refused
returns-then-as_slice-clause-refused c =
    inr (λ e. cc, no_width c.args.table.now (AskInsert c.args.row.now) (other_count _ _ (rw (c.as_slice.ensures, c.as_slice-2.ensures) at c.if-as_slice.true)))

pub returns-in_default-clause-refused : goal.returns-in_default-clause-refused
returns-in_default-clause-refused c =
    let wide = rw (c.as_slice.ensures, c.as_slice-2.ensures) at c.if-as_slice.false in
    inr (
      λ e. cc,
      no_set_key c.args.table.now (AskInsert c.args.row.now) (same_count _ _ wide)
          (key_null c.args.table.now c.args.row.now wide (sym c.in_ok-key.ensures ∙ c.in_default.is)),
    )

pub returns-clause-sought : goal.returns-clause-sought
returns-clause-sought c =
    let wide = rw (c.as_slice.ensures, c.as_slice-2.ensures) at c.if-as_slice.false in
    let set = key_set c.args.table.now c.args.row.now c.in-Some.key (sym c.in_ok-key.ensures ∙ c.in-Some.is) in
    let key_is = c.in_ok-key-2.ensures ∙ ap row_bytes (c.as_slice-3.ensures ∙ sym set.1) in
    let row_is = c.in_ok-row.ensures.row ∙ c.as_slice-4.ensures in
    record {
      wanted = record {
        fits = (ap length row_is ∙ wide, c.in_ok-row.ensures.fits);
        set = ap (λ (row : List Value). list_all is_set (marked c.args.table.now.key_marks row)) row_is ∙ set.0;
        keyed = key_is ∙ ap (λ (row : List Value). key_bytes (marked c.args.table.now.key_marks row)) (sym row_is);
      };
      leads = λ view. at_place c.args.table.now (AskInsert c.args.row.now) (same_count _ _ wide) set.0 refl view
          ∙ ap₂ (λ (key : List ℕ) (row : List Value). edit_at c.args.table.now key (Insert row) view) (sym key_is) (sym row_is);
    }
