-- A change whose values have spellings, and what stays so. Crates above cite it.
use Rattle.std.proofs.Common.{Bool, true, false, List, [], ◌∷◌, Option, Some, None}
use Rattle.std.specs.List.{AllByRecursion}
use Rattle.cs_value.specs.Facts.{by_test}
use Rattle.cs_value.specs.Same.{same_value, same_row}
use Rattle.cs_value.specs.declared.value.Value.{Value}
use Rattle.cs_value.specs.declared.value.Field.{Field}
use Rattle.cs_value.specs.declared.value.Field.TheVariants.{Undefined, Is}
use Rattle.cs_record.specs.Spelling.{Fits}
use Rattle.cs_change.specs.Action.{Action, Inserts, Deletes, Updates, action}
use Rattle.cs_change.specs.Columns.{overlay_field}
use Rattle.cs_change.specs.Net.{net, old_field, new_field, old_record, new_record}
use Rattle.cs_change.specs.Normal.{IsNormal, NormalUpdate, no_column, key_column, unmodified, modified}
use Rattle.cs_change.specs.Spelling.{AreUpdateColumns, FitsChange}
use Rattle.cs_change.specs.declared.change.Change.{Change}
use Rattle.cs_change.specs.declared.change.Change.TheVariants.{Insert, Delete, Update}
use Rattle.cs_normal.specs.keyed.Changes.{IsSpelled}

-- the values of a change have spellings
abbrev pub AreInRange : Action → Type 0
AreInRange (Inserts row) = IsSpelled row
AreInRange (Deletes row) = IsSpelled row
AreInRange (Updates old new) = AllByRecursion Fits old × AllByRecursion Fits new

abbrev pub AreInRangeIfAny : Option Action → Type 0
AreInRangeIfAny None = Unit {0}
AreInRangeIfAny (Some change) = AreInRange change

pub in_range : (marks : List Bool) (change : Change) → FitsChange marks change → AreInRange (action change)
in_range marks (Insert flag new) f = f.1
in_range marks (Delete flag old) f = f.1
in_range marks (Update flag old new) f = (f.1, f.2)

update_columns : {marks : List Bool} {key : List Value} {old new : List Field} → NormalUpdate marks key old new → AreUpdateColumns marks old new
update_columns no_column = tt
update_columns (key_column k l) = (tt, update_columns l)
update_columns (unmodified l) = (tt, update_columns l)
update_columns (modified u v differ l) = (tt, update_columns l)

-- a normal change whose values have spellings is one that the reader takes
pub normal_fits : (marks : List Bool) (key : List Value) (change : Change) → IsNormal marks key (action change) → AreInRange (action change) → FitsChange marks change
normal_fits marks key (Insert flag new) n r = (n.wide, r)
normal_fits marks key (Delete flag old) n r = (n.wide, r)
normal_fits marks key (Update flag old new) n r = (update_columns n.0, r.0, r.1)

pub overlay_fits : (f g : Field) → Fits f → Fits g → Fits (overlay_field f g)
overlay_fits f Undefined h k = h
overlay_fits f (Is v) h k = k

-- ---- the change between two rows

old_column_fits : (m : Bool) (b x : Value) → Fits (Is b) → Fits (old_field m b x)
old_column_fits true b x h = h
old_column_fits false b x h = by_test (same_value b x) _ (λ e. simp e tt) (λ e. simp e h)

new_column_fits : (b x : Value) → Fits (Is x) → Fits (new_field b x)
new_column_fits b x h = by_test (same_value b x) _ (λ e. simp e tt) (λ e. simp e h)

net_olds_fit : (marks : List Bool) (old new : List Value) → IsSpelled old → AllByRecursion Fits (old_record marks old new)
unfolding old_record
net_olds_fit (m ∷ marks) (b ∷ old) (x ∷ new) h = (old_column_fits m b x h.0, net_olds_fit marks old new h.1)
net_olds_fit [] old new h = tt
net_olds_fit (m ∷ marks) [] new h = tt
net_olds_fit (m ∷ marks) (b ∷ old) [] h = tt

net_news_fit : (old new : List Value) → IsSpelled new → AllByRecursion Fits (new_record old new)
unfolding new_record
net_news_fit (b ∷ old) (x ∷ new) h = (new_column_fits b x h.0, net_news_fit old new h.1)
net_news_fit [] new h = tt
net_news_fit (b ∷ old) [] h = tt

pub net_in_range : (marks : List Bool) (old new : List Value) → IsSpelled old → IsSpelled new → AreInRangeIfAny (net marks (Some old) (Some new))
unfolding net
net_in_range marks old new h k =
    by_test (same_row old new) _ (λ e. simp e tt) (λ e. simp e (net_olds_fit marks old new h, net_news_fit old new k))
