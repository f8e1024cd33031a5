-- A join has no more bytes than the changesets that it is of.
use Rattle.std.proofs.Common.{◌≡◌, ◌+◌, ◌≤◌, ◌++◌, ℕ, Bool, true, false, cond, List, [], ◌∷◌, length, fold, map, refl, sym, ap, ◌∙◌, subst, inl, inr, arith, length-append, Option, Some, None}
use Rattle.std.specs.Prelude.{◌≢◌, ◌⊎◌, ◌&&◌}
use Rattle.std.specs.List.{All, AllByRecursion, IsDistinct, sum_by}
use Rattle.std.specs.Map.{keys_of}
use Rattle.std.specs.Str.{bytes_eq}
use Rattle.std.proofs.lemmas.List.Elements.{recursion_from_All}
use Rattle.std.proofs.lemmas.List.Sums.{sum_by-cons}
use Rattle.std.proofs.lemmas.Map.Keys.{IsDistinct-from_sorted}
use Rattle.cs_value.specs.Facts.{by_test}
use Rattle.cs_value.specs.Catalog.{AreTables}
use Rattle.cs_value.specs.declared.catalog.TableDef.{TableDef}
use Rattle.cs_value.specs.declared.value.Field.{Field}
use Rattle.cs_value.specs.declared.value.Field.TheVariants.{Undefined, Is}
use Rattle.cs_value.specs.declared.value.Value.{Value}
use Rattle.cs_value.specs.declared.value.Value.TheVariants.{Blob, Int, Null, Text}
use Rattle.cs_record.specs.Spelling.{field, record_of, row_bytes}
use Rattle.cs_change.specs.Action.{Action, Deletes, Inserts, Updates, action, flag_of}
use Rattle.cs_value.specs.Same.{same_row, same_value}
use Rattle.cs_change.specs.Columns.{field_or, is_blank, overlay_field, set_columns}
use Rattle.cs_change.specs.Net.{net, new_field, new_record, old_field, old_record}
use Rattle.cs_change.specs.Spelling.{change_spelling, flag_byte, header_spelling}
use Rattle.cs_change.specs.Then.{is_idle, then_column, then_new_fields, then_old_fields, then_one}
use Rattle.cs_change.specs.declared.change.Change.{Change}
use Rattle.cs_change.specs.declared.change.Change.TheVariants.{Delete, Insert, Update}
use Rattle.cs_order.specs.Facts.{same_is}
use Rattle.cs_order.specs.Order.{Keys, by_bytes, same_bytes}
use Rattle.cs_normal.specs.keyed.Changes.{Changes, IsOrdered, change_at}
use Rattle.cs_normal.specs.Laws.{CatalogIsApart}
use Rattle.cs_normal.specs.Normal.{AreApart, FitsCatalog, IsNormalChangeset, changes_in, normal_spelling}
use Rattle.cs_normal.specs.declared.normal.TableChanges.{TableChanges}
use Rattle.cs_change.specs.netting.Combine.{then_change_any, with_flag_any}
use Rattle.cs_group.specs.Steps.Folding.{spelled_behind, spelled_changes}
use Rattle.cs_group.specs.Steps.TableByTable.{HasNormal}
use Rattle.cs_group.specs.Tables.{IsJoinOf, JoinIsShort, changes_along}
use Rattle.cs_group.proofs.Joined.{same_self}
use Rattle.cs_group.proofs.KeyFolds.{combine_none}
use Rattle.cs_group.proofs.PerTable.{HasOtherName, absent_fits, has_normal, named, other_named}

-- ---- fields

field_some : (f : Field) → 1 ≤ length (field f)
field_some Undefined = omega arith
field_some (Is Null) = omega arith
field_some (Is (Int number)) = omega arith
field_some (Is (Text text)) = omega arith
field_some (Is (Blob bytes)) = omega arith

overlay_short : (f over : Field) → length (field (overlay_field f over)) ≤ length (field f) + length (field over)
overlay_short f Undefined = omega arith
overlay_short f (Is v) = omega arith

or_short : (n : Field) (v : Value) → length (field (Is (field_or n v))) ≤ length (field n) + length (field (Is v))
or_short Undefined v = omega arith
or_short (Is u) v = omega arith

old_short : (o1 n1 o2 n2 : Field) → length (field (then_column o1 n1 o2 n2).0) ≤ length (field o1) + length (field o2)
old_short o1 n1 o2 n2 =
    by_test (is_idle (overlay_field o2 o1) (overlay_field n1 n2)) _
    (λ e. rw e (omega (arith, field_some o1)))
    (λ e. rw e (omega (arith, overlay_short o2 o1)))

new_short : (o1 n1 o2 n2 : Field) → length (field (then_column o1 n1 o2 n2).1) ≤ length (field n1) + length (field n2)
new_short o1 n1 o2 n2 =
    by_test (is_idle (overlay_field o2 o1) (overlay_field n1 n2)) _
    (λ e. rw e (omega (arith, field_some n1)))
    (λ e. rw e (omega (arith, overlay_short n1 n2)))

old_net_short : (m : Bool) (b x : Value) → length (field (old_field m b x)) ≤ length (field (Is b))
old_net_short true b x = omega arith
old_net_short false b x =
    by_test (same_value b x) _
    (λ e. rw e (field_some (Is b)))
    (λ e. rw e (omega arith))

new_net_short : (b x : Value) → length (field (new_field b x)) ≤ length (field (Is x))
new_net_short b x =
    by_test (same_value b x) _
    (λ e. rw e (field_some (Is x)))
    (λ e. rw e (omega arith))

-- ---- records

record_cons : (f : Field) (fs : List Field) → length (record_of (f ∷ fs)) ≡ length (field f) + length (record_of fs)
record_cons f fs = length-append (field f) (record_of fs)

row_cons : (v : Value) (vs : List Value) → length (row_bytes (v ∷ vs)) ≡ length (field (Is v)) + length (row_bytes vs)
row_cons v vs = length-append (field (Is v)) (row_bytes vs)

set_short : (new : List Field) (row : List Value) → length (row_bytes (set_columns new row)) ≤ length (record_of new) + length (row_bytes row)
unfolding set_columns
set_short [] row = omega arith
set_short (n ∷ new) [] = omega arith
set_short (n ∷ new) (v ∷ row) =
    omega (arith, row_cons (field_or n v) (set_columns new row), record_cons n new, row_cons v row, or_short n v, set_short new row)

olds_short : (o1 n1 o2 n2 : List Field) → length (record_of (then_old_fields o1 n1 o2 n2)) ≤ length (record_of o1) + length (record_of o2)
unfolding then_old_fields
olds_short (a ∷ o1) (b ∷ n1) (c ∷ o2) (d ∷ n2) =
    omega (arith, record_cons (then_column a b c d).0 (then_old_fields o1 n1 o2 n2), record_cons a o1, record_cons c o2, old_short a b c d, olds_short o1 n1 o2 n2)
olds_short [] n1 o2 n2 = omega arith
olds_short (a ∷ o1) [] o2 n2 = omega arith
olds_short (a ∷ o1) (b ∷ n1) [] n2 = omega arith
olds_short (a ∷ o1) (b ∷ n1) (c ∷ o2) [] = omega arith

news_short : (o1 n1 o2 n2 : List Field) → length (record_of (then_new_fields o1 n1 o2 n2)) ≤ length (record_of n1) + length (record_of n2)
unfolding then_new_fields
news_short (a ∷ o1) (b ∷ n1) (c ∷ o2) (d ∷ n2) =
    omega (arith, record_cons (then_column a b c d).1 (then_new_fields o1 n1 o2 n2), record_cons b n1, record_cons d n2, new_short a b c d, news_short o1 n1 o2 n2)
news_short [] n1 o2 n2 = omega arith
news_short (a ∷ o1) [] o2 n2 = omega arith
news_short (a ∷ o1) (b ∷ n1) [] n2 = omega arith
news_short (a ∷ o1) (b ∷ n1) (c ∷ o2) [] = omega arith

old_record_short : (marks : List Bool) (before end : List Value) → length (record_of (old_record marks before end)) ≤ length (row_bytes before)
unfolding old_record
old_record_short (m ∷ marks) (b ∷ before) (x ∷ end) =
    omega (arith, record_cons (old_field m b x) (old_record marks before end), row_cons b before, old_net_short m b x, old_record_short marks before end)
old_record_short [] before end = omega arith
old_record_short (m ∷ marks) [] end = omega arith
old_record_short (m ∷ marks) (b ∷ before) [] = omega arith

new_record_short : (before end : List Value) → length (record_of (new_record before end)) ≤ length (row_bytes end)
unfolding new_record
new_record_short (b ∷ before) (x ∷ end) =
    omega (arith, record_cons (new_field b x) (new_record before end), row_cons x end, new_net_short b x, new_record_short before end)
new_record_short [] end = omega arith
new_record_short (b ∷ before) [] = omega arith

-- ---- changes

-- how many bytes a change has, or none
abbrev weight : Option Change → ℕ
weight None = 0
weight (Some change) = length (change_spelling change)

-- the same of what it does
abbrev size : Option Action → ℕ
size None = 0
size (Some (Inserts new)) = 2 + length (row_bytes new)
size (Some (Deletes old)) = 2 + length (row_bytes old)
size (Some (Updates old new)) = 2 + (length (record_of old) + length (record_of new))

flagged : (flag : Bool) (o : Option Action) → weight (with_flag_any flag o) ≡ size o
flagged flag None = refl
flagged flag (Some (Inserts new)) = omega arith
flagged flag (Some (Deletes old)) = omega arith
flagged flag (Some (Updates old new)) = omega (arith, length-append (record_of old) (record_of new))

sized : (change : Change) → length (change_spelling change) ≡ size (Some (action change))
sized (Insert flag new) = omega arith
sized (Delete flag old) = omega arith
sized (Update flag old new) = omega (arith, length-append (record_of old) (record_of new))

net_short : (marks : List Bool) (old new : List Value) → size (net marks (Some old) (Some new)) ≤ 4 + (length (row_bytes old) + length (row_bytes new))
unfolding net
net_short marks old new =
    by_test (same_row old new) _
    (λ e. rw e (omega arith))
    (λ e. rw e (omega (arith, old_record_short marks old new, new_record_short old new)))

one_short : (marks : List Bool) (earlier later : Action) → size (then_one marks earlier later) ≤ size (Some earlier) + size (Some later)
unfolding then_one
one_short marks (Inserts row) (Inserts new) = omega arith
one_short marks (Inserts row) (Updates old new) = omega (arith, set_short new row)
one_short marks (Inserts row) (Deletes old) = omega arith
one_short marks (Updates o1 n1) (Inserts new) = omega arith
one_short marks (Updates o1 n1) (Updates o2 n2) =
    by_test (is_blank (then_new_fields o1 n1 o2 n2)) _
    (λ e. rw e (omega arith))
    (λ e. rw e (omega (arith, olds_short o1 n1 o2 n2, news_short o1 n1 o2 n2)))
one_short marks (Updates o1 n1) (Deletes row) = omega (arith, set_short o1 row)
one_short marks (Deletes old) (Inserts new) = omega (arith, net_short marks old new)
one_short marks (Deletes old) (Updates o2 n2) = omega arith
one_short marks (Deletes old) (Deletes row) = omega arith

pair_short : (marks : List Bool) (earlier later : Option Change) → weight (then_change_any marks earlier later) ≤ weight earlier + weight later
pair_short marks None later = omega arith
pair_short marks (Some x) None = omega arith
pair_short marks (Some x) (Some y) =
    omega (arith, flagged (flag_of x && flag_of y) (then_one marks (action x) (action y)), one_short marks (action x) (action y), sized x, sized y)

-- ---- what each changeset of a list has at a key

along : List ℕ → List (List TableChanges) → List ℕ → ℕ
along name [] key = 0
along name (first ∷ list) key = weight (change_at key (changes_in name first)) + along name list key

fold_short : (marks : List Bool) (name key : List ℕ) (o : Option Change) (list : List (List TableChanges)) → weight (fold (then_change_any marks) o (changes_along name key list)) ≤ weight o + along name list key
unfolding along
fold_short marks name key o [] = omega arith
fold_short marks name key o (first ∷ list) =
    let there = change_at key (changes_in name first) in
    omega (arith, pair_short marks o there, fold_short marks name key (then_change_any marks o there) list)

-- ---- sums over keys

at_keys : (List ℕ → ℕ) → Keys → ℕ
at_keys f [] = 0
at_keys f (key ∷ keys) = f key + at_keys f keys

at_keys_le : (f g : List ℕ → ℕ) → ((key : List ℕ) → f key ≤ g key) → (keys : Keys) → at_keys f keys ≤ at_keys g keys
unfolding at_keys
at_keys_le f g less [] = omega arith
at_keys_le f g less (key ∷ keys) = omega (arith, less key, at_keys_le f g less keys)

nothing_at : (keys : Keys) → at_keys (λ key. 0) keys ≡ 0
unfolding at_keys
nothing_at [] = refl
nothing_at (key ∷ keys) = omega (arith, nothing_at keys)

-- the bytes of a table's changes at a key
abbrev in_changes : Changes → List ℕ → ℕ
in_changes changes key = weight (change_at key changes)

abbrev Others : List ℕ → Keys → Type 0
Others key keys = AllByRecursion (λ other. same_bytes other key ≡ false) keys

turned_others : (key : List ℕ) (keys : Keys) → AllByRecursion (λ other. same_bytes key other ≡ false) keys → Others key keys
turned_others key [] all = tt
turned_others key (other ∷ keys) all = (
  by_test (same_bytes other key) _
      (λ e.
      let is : other ≡ key = same_is other key e in
      let self : same_bytes key other ≡ true = ap (same_bytes key) is ∙ same_self key in
      absurd (let bad = sym self ∙ all.0 in cc))
      (λ e. e),
  turned_others key keys all.1,
)

past_first : (entry : List ℕ × Change) (changes : Changes) (keys : Keys) → Others entry.0 keys → at_keys (in_changes (entry ∷ changes)) keys ≡ at_keys (in_changes changes) keys
unfolding at_keys
past_first entry changes [] all = refl
past_first entry changes (key ∷ keys) all =
    let here : in_changes (entry ∷ changes) key ≡ in_changes changes key = ap (λ (t : Bool). weight (cond t (Some entry.1) (change_at key changes))) all.0 in
    omega (arith, here, past_first entry changes keys all.1)

first_once : (entry : List ℕ × Change) (changes : Changes) (keys : Keys) → IsDistinct same_bytes keys → at_keys (in_changes (entry ∷ changes)) keys ≤ length (change_spelling entry.1) + at_keys (in_changes changes) keys
unfolding at_keys IsDistinct
first_once entry changes [] apart = omega arith
first_once entry changes (key ∷ keys) apart =
    by_test (same_bytes key entry.0) _
    (λ e.
    let here : in_changes (entry ∷ changes) key ≡ length (change_spelling entry.1) = ap (λ (t : Bool). weight (cond t (Some entry.1) (change_at key changes))) e in
    let others = turned_others key keys apart.0 in
    let away : Others entry.0 keys = subst (λ (k : List ℕ). Others k keys) (same_is key entry.0 e) others in
    omega (arith, here, past_first entry changes keys away))
    (λ e.
    let here : in_changes (entry ∷ changes) key ≡ in_changes changes key = ap (λ (t : Bool). weight (cond t (Some entry.1) (change_at key changes))) e in
    omega (arith, here, first_once entry changes keys apart.1))

spelled_cons : (entry : List ℕ × Change) (changes : Changes) → length (spelled_changes (entry ∷ changes)) ≡ length (change_spelling entry.1) + length (spelled_changes changes)
spelled_cons entry changes = length-append (change_spelling entry.1) (spelled_changes changes)

within_all : (changes : Changes) (keys : Keys) → IsDistinct same_bytes keys → at_keys (in_changes changes) keys ≤ length (spelled_changes changes)
within_all [] keys apart = omega (arith, nothing_at keys)
within_all (entry ∷ changes) keys apart = omega (arith, first_once entry changes keys apart, spelled_cons entry changes, within_all changes keys apart)

all_spelled : (changes : Changes) → IsDistinct same_bytes (keys_of changes) → length (spelled_changes changes) ≡ at_keys (in_changes changes) (keys_of changes)
unfolding at_keys IsDistinct
all_spelled [] apart = refl
all_spelled (entry ∷ changes) apart =
    let self : in_changes (entry ∷ changes) entry.0 ≡ length (change_spelling entry.1) = ap (λ (t : Bool). weight (cond t (Some entry.1) (change_at entry.0 changes))) (same_self entry.0) in
    omega (arith, self, spelled_cons entry changes, past_first entry changes (keys_of changes) (turned_others entry.0 (keys_of changes) apart.0), all_spelled changes apart.1)

-- ---- one table over a list

each_spelled : List ℕ → List (List TableChanges) → ℕ
each_spelled name [] = 0
each_spelled name (first ∷ list) = length (spelled_changes (changes_in name first)) + each_spelled name list

along_cons : (name : List ℕ) (first : List TableChanges) (list : List (List TableChanges)) (keys : Keys) → at_keys (along name (first ∷ list)) keys ≡ at_keys (in_changes (changes_in name first)) keys + at_keys (along name list) keys
unfolding at_keys along
along_cons name first list [] = omega arith
along_cons name first list (key ∷ keys) = omega (arith, along_cons name first list keys)

along_none : (name : List ℕ) (keys : Keys) → at_keys (along name []) keys ≡ 0
unfolding at_keys along
along_none name [] = refl
along_none name (key ∷ keys) = omega (arith, along_none name keys)

along_short : (name : List ℕ) (list : List (List TableChanges)) (keys : Keys) → IsDistinct same_bytes keys → at_keys (along name list) keys ≤ each_spelled name list
unfolding each_spelled
along_short name [] keys apart = omega (arith, along_none name keys)
along_short name (first ∷ list) keys apart = omega (arith, along_cons name first list keys, within_all (changes_in name first) keys apart, along_short name list keys apart)

changes_short : (list : List (List TableChanges)) (table : TableDef) (joined : Changes) → IsOrdered joined → IsJoinOf list table joined → length (spelled_changes joined) ≤ each_spelled table.name list
changes_short list table joined ordered join =
    let keys = keys_of joined in
    let apart = IsDistinct-from_sorted by_bytes keys ordered in
    let less : (key : List ℕ) → in_changes joined key ≤ along table.name list key =
    λ key. omega (arith, ap weight (join key), fold_short table.key_marks table.name key None list) in
    omega (arith, all_spelled joined apart, at_keys_le (in_changes joined) (along table.name list) less keys, along_short table.name list keys apart)

-- the same behind a header, where a changeset has some
each_behind : List ℕ → List ℕ → List (List TableChanges) → ℕ
each_behind header name [] = 0
each_behind header name (first ∷ list) = length (spelled_behind header (changes_in name first)) + each_behind header name list

behind_more : (header : List ℕ) (changes : Changes) → length (spelled_changes changes) ≤ length (spelled_behind header changes)
behind_more header [] = omega arith
behind_more header (entry ∷ changes) = omega (arith, length-append header (spelled_changes (entry ∷ changes)))

behind_some : (header key : List ℕ) (change : Change) (changes : Changes) → change_at key changes ≡ Some change → length header + length (spelled_changes changes) ≤ length (spelled_behind header changes)
behind_some header key change [] is = absurd cc
behind_some header key change (entry ∷ changes) is = omega (arith, length-append header (spelled_changes (entry ∷ changes)))

each_more : (header name : List ℕ) (list : List (List TableChanges)) → each_spelled name list ≤ each_behind header name list
unfolding each_spelled each_behind
each_more header name [] = omega arith
each_more header name (first ∷ list) = omega (arith, behind_more header (changes_in name first), each_more header name list)

-- no changeset has a change at this key, or one has its header
headed : (marks : List Bool) (header name key : List ℕ) (o : Option Change) (list : List (List TableChanges))
    → (fold (then_change_any marks) o (changes_along name key list) ≡ o) ⊎ (length header + each_spelled name list ≤ each_behind header name list)
unfolding each_spelled each_behind
headed marks header name key o [] = inl refl
headed marks header name key o (first ∷ list) =
    let split : (there : Option Change) → change_at key (changes_in name first) ≡ there
    → (fold (then_change_any marks) o (changes_along name key (first ∷ list)) ≡ o) ⊎ (length header + (length (spelled_changes (changes_in name first)) + each_spelled name list) ≤ length (spelled_behind header (changes_in name first)) + each_behind header name list) = elim [
      | None ↦ λ is. elim (headed marks header name key o list) [
        | inl still ↦ inl (ap (λ (c : Option Change). fold (then_change_any marks) (then_change_any marks o c) (changes_along name key list)) is
            ∙ ap (λ (c : Option Change). fold (then_change_any marks) c (changes_along name key list)) (sym (combine_none marks o)) ∙ still)
        | inr more ↦ inr (omega (arith, more, behind_more header (changes_in name first)))
      ]
      | Some change ↦ λ is. inr (omega (arith, behind_some header key change (changes_in name first) is, each_more header name list))
    ] in
    split (change_at key (changes_in name first)) refl

abbrev header_of : TableDef → List ℕ
header_of table = header_spelling (map flag_byte table.key_marks) table.name

table_short : (list : List (List TableChanges)) (table : TableDef) (joined : Changes) → IsOrdered joined → IsJoinOf list table joined → length (spelled_behind (header_of table) joined) ≤ each_behind (header_of table) table.name list
table_short list table [] ordered join = omega arith
table_short list table ((key, change) ∷ joined) ordered join =
    elim (headed table.key_marks (header_of table) table.name key None list) [
      | inl none ↦
          let here : change_at key ((key, change) ∷ joined) ≡ Some change = ap (λ (t : Bool). cond t (Some change) (change_at key joined)) (same_self key) in
          absurd (let bad : Some change ≡ None = sym here ∙ join key ∙ none in cc)
      | inr more ↦ omega (arith, more, changes_short list table ((key, change) ∷ joined) ordered join, length-append (header_of table) (spelled_changes ((key, change) ∷ joined)))
    ]

-- ---- all tables

per_table : List TableDef → List TableChanges → ℕ
per_table [] changes = 0
per_table (table ∷ tables) changes = length (spelled_behind (header_of table) (changes_in table.name changes)) + per_table tables changes

no_tables : (tables : List TableDef) → per_table tables [] ≡ 0
unfolding per_table
no_tables [] = refl
no_tables (table ∷ tables) = omega (arith, no_tables tables)

past_table : (table : TableDef) (first : TableChanges) (others : List TableChanges) (tables : List TableDef) → first.name ≡ table.name → AllByRecursion (HasOtherName table) tables → per_table tables (first ∷ others) ≡ per_table tables others
unfolding per_table
past_table table first others [] is apart = refl
past_table table first others (other ∷ tables) is apart =
    let e : bytes_eq first.name other.name ≡ false = other_named first.name other.name (λ e. apart.0 (sym is ∙ e)) in
    let here : length (spelled_behind (header_of other) (changes_in other.name (first ∷ others))) ≡ length (spelled_behind (header_of other) (changes_in other.name others)) =
    ap (λ (t : Bool). length (spelled_behind (header_of other) (cond t first.changes (changes_in other.name others)))) e in
    omega (arith, here, past_table table first others tables is apart.1)

spelled_table : (table : TableDef) (first : TableChanges) → first.name ≡ table.name → first.marks ≡ table.key_marks → first.changes ≢ []
    → header_spelling (map flag_byte first.marks) first.name ++ spelled_changes first.changes ≡ spelled_behind (header_of table) first.changes
spelled_table table first name marks some =
    ap (λ (n : List ℕ). header_spelling (map flag_byte first.marks) n ++ spelled_changes first.changes) name
    ∙ ap (λ (m : List Bool). header_spelling (map flag_byte m) table.name ++ spelled_changes first.changes) marks
    ∙ behind first.changes some
  where
    behind : (changes : Changes) → changes ≢ [] → header_of table ++ spelled_changes changes ≡ spelled_behind (header_of table) changes
    behind [] some = absurd (some refl)
    behind (entry ∷ changes) some = refl

by_tables : (tables : List TableDef) (changes : List TableChanges) → AreApart tables → IsNormalChangeset changes → FitsCatalog tables changes → length (normal_spelling changes) ≡ per_table tables changes
unfolding per_table
by_tables [] [] apart normal fits = refl
by_tables [] (first ∷ others) apart normal fits = absurd fits
by_tables (table ∷ tables) [] apart normal fits = omega (arith, no_tables tables)
by_tables (table ∷ tables) (first ∷ others) apart normal (inl (is, fits)) =
    let whole = header_spelling (map flag_byte first.marks) first.name ++ spelled_changes first.changes in
    let e : bytes_eq first.name table.name ≡ true = ap (λ (n : List ℕ). bytes_eq n table.name) is.0 ∙ named table.name in
    let here : length (spelled_behind (header_of table) (changes_in table.name (first ∷ others))) ≡ length (spelled_behind (header_of table) first.changes) =
    ap (λ (t : Bool). length (spelled_behind (header_of table) (cond t first.changes (changes_in table.name others)))) e in
    let cons : length (normal_spelling (first ∷ others)) ≡ length whole + length (normal_spelling others) = length-append whole (normal_spelling others) in
    omega (arith, cons, ap length (spelled_table table first is.0 is.1 normal.0.some), here, past_table table first others tables is.0 apart.0, by_tables tables others apart.1 normal.2 fits)
by_tables (table ∷ tables) (first ∷ others) apart normal (inr fits) =
    let none = absent_fits table tables (first ∷ others) apart.0 fits in
    omega (arith, ap (λ (cs : Changes). length (spelled_behind (header_of table) cs)) none, by_tables tables (first ∷ others) apart.1 normal fits)

all_behind : List TableDef → List (List TableChanges) → ℕ
all_behind [] list = 0
all_behind (table ∷ tables) list = each_behind (header_of table) table.name list + all_behind tables list

behind_cons : (tables : List TableDef) (first : List TableChanges) (list : List (List TableChanges)) → all_behind tables (first ∷ list) ≡ per_table tables first + all_behind tables list
unfolding all_behind each_behind per_table
behind_cons [] first list = omega arith
behind_cons (table ∷ tables) first list = omega (arith, behind_cons tables first list)

behind_none : (tables : List TableDef) → all_behind tables [] ≡ 0
unfolding all_behind each_behind
behind_none [] = refl
behind_none (table ∷ tables) = omega (arith, behind_none tables)

all_are : (tables : List TableDef) (list : List (List TableChanges)) → AreApart tables → AllByRecursion IsNormalChangeset list → AllByRecursion (FitsCatalog tables) list → all_behind tables list ≡ sum_by (λ changes. length (normal_spelling changes)) list
all_are tables [] apart normal fits = behind_none tables
all_are tables (first ∷ list) apart normal fits =
    omega (arith, behind_cons tables first list, by_tables tables first apart normal.0 fits.0, all_are tables list apart normal.1 fits.1, sum_by-cons (λ (changes : List TableChanges). length (normal_spelling changes)) first list)

tables_short : (tables : List TableDef) (list : List (List TableChanges)) (joined : List TableChanges) → AllByRecursion (HasNormal joined) tables → AllByRecursion (λ table. IsJoinOf list table (changes_in table.name joined)) tables → per_table tables joined ≤ all_behind tables list
unfolding per_table all_behind
tables_short [] list joined normal join = omega arith
tables_short (table ∷ tables) list joined normal join =
    omega (arith, table_short list table (changes_in table.name joined) normal.0.0 join.0, tables_short tables list joined normal.1 join.1)

pub join_is_short : CatalogIsApart → JoinIsShort
join_is_short law tables list joined are normal fits is_normal fit join =
    let apart = law tables are in
    let each = recursion_from_All (λ table. IsJoinOf list table (changes_in table.name joined)) tables join in
    omega (arith, by_tables tables joined apart is_normal fit, tables_short tables list joined (has_normal law tables joined are is_normal fit) each, all_are tables list apart normal fits)
