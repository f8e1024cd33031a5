-- The normal form of a local UPDATE over the entry of its place.
use Rattle.std.proofs.Common.{◌≡◌, Bool, true, false, List, [], ◌∷◌, ◌++◌, ◌∙◌, refl, sym, Option, Some, None}
use Rattle.std.specs.Option.{MatchOption, is_some}
use Rattle.std.proofs.lemmas.List.{append-nil}
use Rattle.cs_value.specs.Facts.{by_test}
use Rattle.cs_value.specs.declared.value.Field.{Field}
use Rattle.cs_value.specs.declared.value.Field.TheVariants.{Undefined, Is}
use Rattle.cs_value.specs.declared.value.Value.{Value}
use Rattle.cs_change.specs.Columns.{is_blank}
use Rattle.cs_change.specs.Listed.{listed}
use Rattle.cs_change.specs.Then.{update_if_any}
use Rattle.cs_change.specs.declared.change.Change.TheVariants.{Update}
use Rattle.cs_normal.specs.keyed.NormalForm.{normal_form, normal_news, normal_olds}
use Rattle.cs_change.specs.netting.Combine.{with_flag_any}
use Rattle.cs_blob.specs.declared.blob.Entry.{Entry}
use Rattle.cs_rebaser.specs.Rebase.{new_fields_over, old_fields_over, rebase_over, stays, whole_row}
use Rattle.cs_rebaser.specs.Steps.{rebased_at}

-- where nothing is modified, nothing stays modified
blank_over : (r : Bool) (old new theirs : List Field) → is_blank new ≡ true → is_blank (new_fields_over r old new theirs) ≡ true
unfolding is_blank new_fields_over stays
blank_over r (o ∷ old) (Undefined ∷ new) (t ∷ theirs) e = blank_over r old new theirs e
blank_over r (o ∷ old) (Is v ∷ new) (t ∷ theirs) e = cc
blank_over r [] new theirs e = refl
blank_over r (o ∷ old) [] theirs e = refl
blank_over r (o ∷ old) (n ∷ new) [] e = refl

-- an UPDATE over an entry that isn't of a DELETE: its normal form's columns over the entry's, if one is left
form_over : (marks : List Bool) (flag : Bool) (old new : List Field) (entry : Entry) → entry.deleted ≡ false
    → rebased_at marks (normal_form marks (Update flag old new)) (Some entry)
    ≡ listed (with_flag_any flag (update_if_any (old_fields_over entry.replaced (normal_olds marks old new) (normal_news marks old new) entry.fields) (new_fields_over entry.replaced (normal_olds marks old new) (normal_news marks old new) entry.fields)))
unfolding normal_form rebase_over
form_over marks flag old new entry there =
    let olds = normal_olds marks old new in
    let news = normal_news marks old new in
    by_test (is_blank news) _
    (λ e. rw (e, blank_over entry.replaced olds news entry.fields e) refl)
    (λ e. rw (e, there) refl)

-- the same where no column is left, and where one is
pub none_over : (marks : List Bool) (flag : Bool) (old new : List Field) (entry : Entry) → entry.deleted ≡ false
    → is_blank (new_fields_over entry.replaced (normal_olds marks old new) (normal_news marks old new) entry.fields) ≡ true
    → rebased_at marks (normal_form marks (Update flag old new)) (Some entry) ≡ []
none_over marks flag old new entry there blank = form_over marks flag old new entry there ∙ rw blank refl

pub some_over : (marks : List Bool) (flag : Bool) (old new : List Field) (entry : Entry) → entry.deleted ≡ false
    → is_blank (new_fields_over entry.replaced (normal_olds marks old new) (normal_news marks old new) entry.fields) ≡ false
    → rebased_at marks (normal_form marks (Update flag old new)) (Some entry)
    ≡ Update flag (old_fields_over entry.replaced (normal_olds marks old new) (normal_news marks old new) entry.fields) (new_fields_over entry.replaced (normal_olds marks old new) (normal_news marks old new) entry.fields) ∷ []
some_over marks flag old new entry there left = form_over marks flag old new entry there ∙ rw left refl

-- an UPDATE over the entry of a DELETE that replaced: nothing is left
pub form_over_replaced : (marks : List Bool) (flag : Bool) (old new : List Field) (entry : Entry) (found : Option (List Value))
    → entry.deleted ≡ true → entry.replaced ≡ true
    → MatchOption found (whole_row entry.fields ≡ None) (λ row. whole_row entry.fields ≡ Some row) → is_some found ≡ true
    → rebased_at marks (normal_form marks (Update flag old new)) (Some entry) ≡ []
unfolding normal_form rebase_over
form_over_replaced marks flag old new entry None gone replaced whole some = cc
form_over_replaced marks flag old new entry (Some theirs) gone replaced whole some =
    by_test (is_blank (normal_news marks old new)) _
    (λ e. rw e refl)
    (λ e. rw (e, gone, replaced, whole) refl)

pub nothing_more : {X : Type 0} (out more : List X) → more ≡ [] → out ≡ out ++ more
nothing_more out more none = rw none (sym (append-nil out))
