-- The entries of answered conflicts, answer by answer.
use Rattle.std.proofs.Common.{◌≡◌, ◌<◌, ◌++◌, ℕ, Bool, true, false, List, [], ◌∷◌, length, take, drop, Option, Some, None, is_some, append_assoc, append-nil, refl, sym, ap, ◌∙◌, arith}
use Rattle.std.specs.Prelude.{get_or}
use Rattle.std.specs.List.{flat_map, list_any}
use Rattle.std.proofs.lemmas.Grind.{flat_map-append}
use Rattle.cs_change.specs.Action.{action}
use Rattle.cs_change.specs.Spelling.{header_spelling, marks_of}
use Rattle.cs_change.specs.declared.change.Change.{Change}
use Rattle.cs_change.specs.declared.group.Group.{Group}
use Rattle.cs_conflict.specs.declared.conflict.Resolution.{Resolution}
use Rattle.cs_blob.specs.Spelling.{blob_entry_spelling, blob_group_spelling, blob_spelling}
use Rattle.cs_blob.specs.declared.blob.Entry.{Entry}
use Rattle.cs_tasks.specs.Blob.{answered_group, blob_of, entries_of, entry_of, group_if_any}
use Rattle.cs_tasks.specs.Laws.{BlobByGroups, UnansweredChange, UnansweredGroup}
use Rattle.cs_tasks.specs.Tasks.{table_of, tasks_at}

-- an answer behind others adds its entry
entry_more : (marks : List Bool) (changes : List Change) (given : List (Option Resolution)) (some : Change) (answer : Resolution) → length given < length changes
    → entries_of marks changes (given ++ Some answer ∷ []) ≡ entries_of marks changes given ++ entry_of marks answer (action (get_or changes (length given) some)) ∷ []
unfolding entries_of
entry_more marks [] given some answer less = absurd (omega (arith, less))
entry_more marks (change ∷ []) [] some answer less = refl
entry_more marks (change ∷ other ∷ changes) [] some answer less = refl
entry_more marks (change ∷ changes) (None ∷ given) some answer less = entry_more marks changes given some answer (omega (arith, less))
entry_more marks (change ∷ changes) (Some one ∷ given) some answer less =
    ap (λ entries. entry_of marks one (action change) ∷ entries) (entry_more marks changes given some answer (omega (arith, less)))

-- no conflict was answered
none_answered : (marks : List Bool) (changes : List Change) (given : List (Option Resolution)) → list_any is_some given ≡ false → entries_of marks changes given ≡ []
unfolding entries_of
none_answered marks [] given none = refl
none_answered marks (change ∷ changes) [] none = refl
none_answered marks (change ∷ changes) (None ∷ others) none = none_answered marks changes others none
none_answered marks (change ∷ changes) (Some answer ∷ others) none = absurd (let e = none in cc)

-- one was, so there is an entry
some_answered : (marks : List Bool) (changes : List Change) (given : List (Option Resolution)) → length given < length changes → list_any is_some given ≡ true
    → (first : Entry) × (others : List Entry) × (entries_of marks changes given ≡ first ∷ others)
unfolding entries_of
some_answered marks [] given less some = absurd (omega (arith, less))
some_answered marks (change ∷ changes) [] less some = absurd (let e = some in cc)
some_answered marks (change ∷ changes) (None ∷ others) less some = some_answered marks changes others (omega (arith, less)) some
some_answered marks (change ∷ changes) (Some answer ∷ others) less some = (entry_of marks answer (action change), entries_of marks changes others, refl)

abbrev spelled : List Entry → List ℕ
spelled entries = flat_map blob_entry_spelling entries

-- a group with these entries
some_spelled : (group : Group) (first : Entry) (others : List Entry)
    → blob_spelling (group_if_any group (first ∷ others)) ≡ header_spelling group.marks group.name ++ spelled (first ∷ others)
some_spelled group first others = append-nil (header_spelling group.marks group.name ++ spelled (first ∷ others))

-- the first answer of a group stands behind its header
first_put : (group : Group) (given : List (Option Resolution)) (some : Change) (answer : Resolution) (front : List ℕ) → length given < length group.changes
    → list_any is_some given ≡ false
    → ((front ++ answered_group group given) ++ header_spelling group.marks group.name) ++ blob_entry_spelling (entry_of (marks_of group.marks) answer (action (get_or group.changes (length given) some)))
    ≡ front ++ answered_group group (given ++ Some answer ∷ [])
first_put group given some answer front less none =
    let marks = marks_of group.marks in
    let entry = entry_of marks answer (action (get_or group.changes (length given) some)) in
    let header = header_spelling group.marks group.name in
    let before = none_answered marks group.changes given none in
    let after : entries_of marks group.changes (given ++ Some answer ∷ []) ≡ entry ∷ [] =
    entry_more marks group.changes given some answer less ∙ ap (λ entries. entries ++ entry ∷ []) before in
    let was : answered_group group given ≡ [] = ap (λ entries. blob_spelling (group_if_any group entries)) before in
    let is : answered_group group (given ++ Some answer ∷ []) ≡ header ++ blob_entry_spelling entry =
    ap (λ entries. blob_spelling (group_if_any group entries)) after ∙ (some_spelled group entry [] ∙ ap (λ bytes. header ++ bytes) (append-nil (blob_entry_spelling entry))) in
    ap (λ bytes. ((front ++ bytes) ++ header) ++ blob_entry_spelling entry) was
    ∙ (ap (λ bytes. (bytes ++ header) ++ blob_entry_spelling entry) (append-nil front)
    ∙ (append_assoc front header (blob_entry_spelling entry) ∙ ap (λ bytes. front ++ bytes) (sym is)))

-- each other one behind those before it
next_put : (group : Group) (given : List (Option Resolution)) (some : Change) (answer : Resolution) (front : List ℕ) → length given < length group.changes
    → list_any is_some given ≡ true
    → (front ++ answered_group group given) ++ blob_entry_spelling (entry_of (marks_of group.marks) answer (action (get_or group.changes (length given) some)))
    ≡ front ++ answered_group group (given ++ Some answer ∷ [])
next_put group given some answer front less any =
    let marks = marks_of group.marks in
    let entry = entry_of marks answer (action (get_or group.changes (length given) some)) in
    let header = header_spelling group.marks group.name in
    let there = some_answered marks group.changes given less any in
    let entries = there.0 ∷ there.1 in
    let after : entries_of marks group.changes (given ++ Some answer ∷ []) ≡ there.0 ∷ (there.1 ++ entry ∷ []) =
    entry_more marks group.changes given some answer less ∙ ap (λ es. es ++ entry ∷ []) there.2 in
    let was : answered_group group given ≡ header ++ spelled entries =
    ap (λ es. blob_spelling (group_if_any group es)) there.2 ∙ some_spelled group there.0 there.1 in
    let one : spelled (entries ++ entry ∷ []) ≡ spelled entries ++ blob_entry_spelling entry =
    flat_map-append blob_entry_spelling entries (entry ∷ []) ∙ ap (λ bytes. spelled entries ++ bytes) (append-nil (blob_entry_spelling entry)) in
    let is : answered_group group (given ++ Some answer ∷ []) ≡ (header ++ spelled entries) ++ blob_entry_spelling entry =
    ap (λ es. blob_spelling (group_if_any group es)) after ∙ (some_spelled group there.0 (there.1 ++ entry ∷ [])
    ∙ (ap (λ bytes. header ++ bytes) one ∙ sym (append_assoc header (spelled entries) (blob_entry_spelling entry)))) in
    append_assoc front (answered_group group given) (blob_entry_spelling entry)
    ∙ ap (λ bytes. front ++ bytes) (ap (λ bytes. bytes ++ blob_entry_spelling entry) was ∙ sym is)

module _ (group : Group) (given : List (Option Resolution)) (at : ℕ) (change : Change) (answer : Resolution) (front before : List ℕ)
    (less : at < length group.changes) (is : change ≡ get_or group.changes at change) (long : length given ≡ at)
    (was : before ≡ front ++ answered_group group given) where
  there : action (get_or group.changes (length given) change) ≡ action change
  there = ap (λ n. action (get_or group.changes n change)) long ∙ ap action (sym is)

  inside : length given < length group.changes
  inside = omega (arith, less, long)

  abbrev entry : Entry
  entry = entry_of (marks_of group.marks) answer (action change)

  -- the bytes behind the first answer
  pub after_first : (headed next : List ℕ) → list_any is_some given ≡ false → headed ≡ before ++ header_spelling group.marks group.name
      → next ≡ headed ++ blob_entry_spelling entry → next ≡ front ++ answered_group group (given ++ Some answer ∷ [])
  after_first headed next none header put =
      put ∙ (ap (λ bytes. bytes ++ blob_entry_spelling entry) (header ∙ ap (λ bytes. bytes ++ header_spelling group.marks group.name) was)
      ∙ (ap (λ a. ((front ++ answered_group group given) ++ header_spelling group.marks group.name) ++ blob_entry_spelling (entry_of (marks_of group.marks) answer a)) (sym there)
      ∙ first_put group given change answer front inside none))

  -- the bytes behind another one
  pub after_next : (next : List ℕ) → list_any is_some given ≡ true
      → next ≡ before ++ blob_entry_spelling entry → next ≡ front ++ answered_group group (given ++ Some answer ∷ [])
  after_next next any put =
      put ∙ (ap (λ bytes. bytes ++ blob_entry_spelling entry) was
      ∙ (ap (λ a. (front ++ answered_group group given) ++ blob_entry_spelling (entry_of (marks_of group.marks) answer a)) (sym there)
      ∙ next_put group given change answer front inside any))

-- ---- what is told of groups

pub unanswered_group : UnansweredGroup
unanswered_group group given none =
    ap (λ entries. blob_spelling (group_if_any group entries)) (none_answered (marks_of group.marks) group.changes given none)

none_more : (marks : List Bool) (changes : List Change) (given : List (Option Resolution))
    → entries_of marks changes (given ++ None ∷ []) ≡ entries_of marks changes given
unfolding entries_of
none_more marks [] given = refl
none_more marks (change ∷ []) [] = refl
none_more marks (change ∷ other ∷ changes) [] = refl
none_more marks (change ∷ changes) (None ∷ given) = none_more marks changes given
none_more marks (change ∷ changes) (Some answer ∷ given) = rw (none_more marks changes given) refl

pub unanswered_change : UnansweredChange
unanswered_change group given =
    ap (λ entries. blob_spelling (group_if_any group entries)) (none_more (marks_of group.marks) group.changes given)

front_is : (some others : List (Option Resolution)) → take (length some) (some ++ others) ≡ some
front_is [] others = refl
front_is (one ∷ some) others = ap (λ list. one ∷ list) (front_is some others)

behind_is : (some others : List (Option Resolution)) → drop (length some) (some ++ others) ≡ others
behind_is [] others = refl
behind_is (one ∷ some) others = behind_is some others

pub blob_by_groups : BlobByGroups
unfolding blob_of
blob_by_groups tables group groups given others long =
    let count = length (tasks_at (table_of group tables) group) in
    let front : take count (given ++ others) ≡ given = ap (λ n. take n (given ++ others)) (sym long) ∙ front_is given others in
    let behind : drop count (given ++ others) ≡ others = ap (λ n. drop n (given ++ others)) (sym long) ∙ behind_is given others in
    flat_map-append blob_group_spelling
    (group_if_any group (entries_of (marks_of group.marks) group.changes (take count (given ++ others))))
    (blob_of tables groups (drop count (given ++ others)))
    ∙ (ap (λ list. answered_group group list ++ blob_spelling (blob_of tables groups (drop count (given ++ others)))) front
    ∙ ap (λ list. answered_group group given ++ blob_spelling (blob_of tables groups list)) behind)
