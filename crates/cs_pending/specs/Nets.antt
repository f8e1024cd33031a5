-- Net changes: taken back, whether there is one, and that the reader of changes takes them. Crates above cite it.
use Rattle.std.proofs.Common.{◌≡◌, Bool, true, false, not, refl, ap, sym, arith, List, [], ◌∷◌, Option, Some, None, length, is_some}
use Rattle.std.specs.Prelude.{IfSome}
use Rattle.cs_value.specs.Key.{Place, FitsPlace}
use Rattle.cs_value.specs.Facts.{by_test, same_row-Decides, same_value-tells}
use Rattle.cs_value.specs.Same.{same_row, same_place}
use Rattle.cs_value.specs.declared.value.Value.{Value}
use Rattle.cs_change.specs.Action.{Action, Inserts, Deletes, Updates, action_any}
use Rattle.cs_change.specs.Columns.{set_columns, field_or}
use Rattle.cs_change.specs.Facts.{conjoin}
use Rattle.cs_change.specs.Laws.{NetTakes}
use Rattle.cs_change.specs.Net.{net, old_record, old_field}
use Rattle.cs_change.specs.Normal.{IsNormalIfAny}
use Rattle.cs_change.specs.Spelling.{FitsChange}
use Rattle.cs_change.specs.declared.change.Change.{Change}
use Rattle.cs_normal.specs.Changes.{IsSpelled}
use Rattle.cs_normal.specs.InRange.{AreInRangeIfAny, normal_fits, net_in_range}
use Rattle.cs_change.specs.netting.Combine.{with_flag, with_flag_any}
use Rattle.cs_pending.specs.View.{undo}

old_column_back : (m : Bool) (b x : Value) → field_or (old_field m b x) x ≡ b
old_column_back true b x = refl
old_column_back false b x = grind (arith, same_value-tells b x)

-- the old record of an update, put into the new row
old_back : (marks : List Bool) (b x : List Value) → length b ≡ length marks → length x ≡ length marks → set_columns (old_record marks b x) x ≡ b
unfolding set_columns old_record
old_back [] [] [] h i = refl
old_back (m ∷ marks) (b ∷ bs) (x ∷ xs) h i =
    conjoin (old_column_back m b x) (old_back marks bs xs (omega (arith, h)) (omega (arith, i)))
old_back [] (b ∷ bs) xs h i = absurd (omega (arith, h))
old_back [] [] (x ∷ xs) h i = absurd (omega (arith, i))
old_back (m ∷ marks) [] xs h i = absurd (omega (arith, h))
old_back (m ∷ marks) (b ∷ bs) [] h i = absurd (omega (arith, i))

pub undo_net : (marks : List Bool) (k : List Value) (b x : Place) → FitsPlace marks k b → FitsPlace marks k x → undo (net marks b x) x ≡ b
unfolding net undo
undo_net marks k None None hb hx = refl
undo_net marks k None (Some x) hb hx = refl
undo_net marks k (Some b) None hb hx = refl
undo_net marks k (Some b) (Some x) hb hx =
    by_test (same_row b x) _ (λ e. simp e (ap (λ r. Some r) (sym ((same_row-Decides b x).0 e)))) (λ e. simp e (ap (λ r. Some r) (old_back marks b x hb.wide hx.wide)))

-- there is a net change of different places alone
pub net_there : (marks : List Bool) (b x : Place) → is_some (net marks b x) ≡ not (same_place b x)
unfolding net same_place
net_there marks None None = refl
net_there marks None (Some x) = refl
net_there marks (Some b) None = refl
net_there marks (Some b) (Some x) = by_test (same_row b x) _ (λ e. simp e refl) (λ e. simp e refl)

pub undo_none : (o : Place) → undo None o ≡ o
unfolding undo
undo_none o = refl

pub action_with_flag : (flag : Bool) (change : Option Action) → action_any (with_flag_any flag change) ≡ change
action_with_flag flag None = refl
action_with_flag flag (Some (Inserts new)) = refl
action_with_flag flag (Some (Deletes old)) = refl
action_with_flag flag (Some (Updates old new)) = refl

pub action_there : (change : Option Change) → is_some (action_any change) ≡ is_some change
action_there None = refl
action_there (Some change) = refl

-- ---- in range

-- the values of a row or none have spellings
abbrev pub IsSpelledPlace : Place → Type 0
IsSpelledPlace None = Unit {0}
IsSpelledPlace (Some row) = IsSpelled row

places_in_range : (marks : List Bool) (b x : Place) → IsSpelledPlace b → IsSpelledPlace x → AreInRangeIfAny (net marks b x)
unfolding net
places_in_range marks None None hb hx = tt
places_in_range marks None (Some x) hb hx = hx
places_in_range marks (Some b) None hb hx = hb
places_in_range marks (Some b) (Some x) hb hx = net_in_range marks b x hb hx

direct_fits : (marks : List Bool) (key : List Value) (change : Option Action) → IsNormalIfAny marks key change → AreInRangeIfAny change → IfSome (with_flag_any false change) (FitsChange marks)
direct_fits marks key None n r = tt
direct_fits marks key (Some (Inserts new)) n r = normal_fits marks key (with_flag false (Inserts new)) n r
direct_fits marks key (Some (Deletes old)) n r = normal_fits marks key (with_flag false (Deletes old)) n r
direct_fits marks key (Some (Updates old new)) n r = normal_fits marks key (with_flag false (Updates old new)) n r

pub net_fits : NetTakes → (marks : List Bool) (key : List Value) (b x : Place) → FitsPlace marks key b → FitsPlace marks key x → IsSpelledPlace b → IsSpelledPlace x → IfSome (with_flag_any false (net marks b x)) (FitsChange marks)
net_fits law marks key b x fb fx sb sx = direct_fits marks key (net marks b x) (law marks key b x fb fx).0 (places_in_range marks b x sb sx)
