-- One table's changes in normal form: keys gathered, ordered, and what is left of each change.
use Rattle.std.proofs.Common.{◌≡◌, ℕ, Bool, true, ◌+◌, ◌<◌, ◌≤◌, List, [], ◌∷◌, ◌++◌, length, map, take, get_or, refl, sym, ap, subst, ◌∙◌, arith, append_assoc, append-nil, zero, suc}
use Rattle.std.proofs.lemmas.List.{take_more, map-append}
use Rattle.cs_value.specs.declared.catalog.TableDef.{TableDef}
use Rattle.cs_change.specs.declared.change.Change.{Change}
use Rattle.cs_change.specs.declared.group.Group.{Group}
use Rattle.cs_normal.specs.keyed.Changes.{Changes}
use Rattle.cs_normal.specs.keyed.NormalForm.{change_bytes, has_key, normal_form}
use Rattle.cs_normalising.specs.NormalFormOf.{changes_of}
use Rattle.cs_normalising.specs.Steps.Lent.{entries_of, IsKeptOf}
use Rattle.cs_normal.specs.keyed.Prepared.{Entries, all_keyed, kept, prepared}
use Rattle.cs_normalising.specs.Lent.{nth_entry}
use Rattle.cs_normalising.specs.Steps.TableByTable.{IsTableOf}
use Rattle.cs_normalising.proofs.Gathered.{is_table_of}
use Rattle.cs_order.specs.Facts.{both_true}
use Rattle.cs_normalising.proofs.NormalLaws.{kept_append}

-- ---- what is left, written

pub prepared_all : (marks : List Bool) (changes : List Change) → all_keyed marks changes ≡ true → prepared marks changes ≡ entries_of marks changes
unfolding prepared all_keyed
prepared_all marks [] whole = refl
prepared_all marks (c ∷ changes) whole =
    let parts = both_true (has_key marks c) (all_keyed marks changes) whole in
    simp parts.0 (ap (λ (es : Entries). (change_bytes marks c, normal_form marks c) ∷ es) (prepared_all marks changes parts.1))

past_end : (es : Entries) (place : ℕ) → length es ≤ place → kept (nth_entry es place ∷ []) ≡ []
unfolding kept
past_end [] place past = refl
past_end (e ∷ es) zero past = absurd (omega (arith, past))
past_end (e ∷ es) (suc place) past = past_end es place (omega (arith, past))

pub as_many : (marks : List Bool) (changes : List Change) → length (entries_of marks changes) ≡ length changes
as_many marks [] = refl
as_many marks (c ∷ changes) = ap (λ (n : ℕ). suc n) (as_many marks changes)

pub nothing_there : (marks : List Bool) (changes : List Change) (place : ℕ) (made : Changes) → length changes ≤ place → made ≡ made ++ kept (nth_entry (entries_of marks changes) place ∷ [])
nothing_there marks changes place made past =
    sym (append-nil made) ∙ ap (λ (cs : Changes). made ++ cs) (sym (past_end (entries_of marks changes) place (omega (arith, past, as_many marks changes))))

pub kept_more : (es : Entries) (order : List ℕ) (i : ℕ) (d : ℕ) (first made now : Changes) → i < length order → made ≡ first ++ kept (map (nth_entry es) (take i order)) → now ≡ made ++ kept (nth_entry es (get_or order i d) ∷ []) → now ≡ first ++ kept (map (nth_entry es) (take (i + 1) order))
kept_more es order i d first made now less so_far grown =
    let wider : map (nth_entry es) (take (i + 1) order) ≡ map (nth_entry es) (take i order) ++ nth_entry es (get_or order i d) ∷ [] =
    ap (λ (ps : List ℕ). map (nth_entry es) ps) (take_more order i d less) ∙ map-append (nth_entry es) (take i order) (get_or order i d ∷ []) in
    grown ∙ ap (λ (cs : Changes). cs ++ kept (nth_entry es (get_or order i d) ∷ [])) so_far
    ∙ append_assoc first (kept (map (nth_entry es) (take i order))) (kept (nth_entry es (get_or order i d) ∷ []))
    ∙ ap (λ (cs : Changes). first ++ cs) (sym (kept_append (map (nth_entry es) (take i order)) (nth_entry es (get_or order i d) ∷ [])) ∙ ap (λ (fs : Entries). kept fs) (sym wider))

pub kept_none : [] ≡ kept []
unfolding kept
kept_none = refl

-- ---- the table's normal form

pub table_is : (groups : List Group) (table : TableDef) (changes : List Change) (made : Changes) → changes ≡ changes_of table.name groups → IsKeptOf table.key_marks changes made → IsTableOf groups table made
table_is groups table changes made is form =
    let moved = rw is at form.moved in
    let whole = rw is at form.whole in
    subst (IsTableOf groups table) (sym form.left) (is_table_of groups table form.entries moved form.rising whole)
