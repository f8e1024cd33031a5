-- From one stage to the next.
use Rattle.std.proofs.Common.{◌≡◌, ℕ, ◌+◌, ◌-◌, ◌<◌, ◌≤◌, Bool, nat_eq, List, [], ◌∷◌, ◌++◌, length, take, drop, get_or, Some, None, refl, sym, ap, ◌∙◌, append_assoc, append-nil, arith, subst, length-append}
use Rattle.std.specs.Prelude.{IsUtf8}
use Rattle.std.specs.List.{position, AllByRecursion}
use Rattle.std.proofs.Math.Seq.{drop-append_seam}
use Rattle.std.proofs.lemmas.List.{length-drop, length-take-le, drop-drop, drop-take, drop_all, drop_more, flat_map_more}
use Rattle.cs_varint.specs.Varint.{spelling}
use Rattle.cs_value.specs.declared.value.Value.{Value}
use Rattle.cs_value.specs.declared.value.Field.{Field}
use Rattle.cs_value.specs.declared.value.Field.TheVariants.{Is}
use Rattle.cs_record.specs.Spelling.{field, record_of, Fits}
use Rattle.cs_record.specs.Reading.{StandsAt}
use Rattle.cs_record.specs.Facts.{tail, take-add, stands, reaches, all_more}
use Rattle.cs_record.specs.OneSpelling.{one_spelled_record}
use Rattle.cs_record.specs.Spelled.{SpellsRecord}
use Rattle.cs_change.specs.Spelling.{flag_byte, is_nonzero, marks_of}
use Rattle.cs_changeset.specs.Facts.{name_before, no_end, stands_behind}
use Rattle.cs_changeset.specs.Records.{InRow, InOld, InNew, IsRight, row_rules, old_rules, new_rules}
use Rattle.cs_changeset.specs.Reading.{FitsMarks, HasNoZero, IsChangesetFault}
use Rattle.cs_feed.proofs.FieldSteps.{column_ahead, column_wrong, none_ahead, none_wrong, HasRow, row_ahead, row_wrong, old_ahead, old_wrong}
use Rattle.cs_feed.proofs.Following.{length_behind, leads_as, leads_at, within_at}
use Rattle.cs_feed.proofs.Groups.{columns_front, name_follows, name_wrong, changes_follow, changes_wrong, header_follows, header_wrong, header_spells, header_told}
use Rattle.cs_feed.specs.Steps.{Leads, behind, part, last, ChangesAhead, ChangesWrong, HeaderAhead, HeaderWrong, NameAhead, NameWrong, RowAhead, RowWrong, NewAhead, NewWrong, OldAhead, OldWrong, RowReached, OldReached, NewReached, ChangesReached, NameReached, GroupReached}
use Rattle.cs_feed.specs.declared.stage.Span.{Span}

-- ---- the last columns

last_rest : (marks : List ℕ) (first : ℕ) (more : List ℕ) → length (first ∷ more) ≤ length marks → last (length (first ∷ more)) marks ≡ first ∷ more → last (length more) marks ≡ more
last_rest marks first more room is =
    let before = length marks - length (first ∷ more) in
    let e : length marks - length more ≡ before + 1 = omega (arith, room) in
    ap (λ (n : ℕ). drop n marks) e ∙ sym (drop-drop 1 before marks) ∙ ap (drop 1) is

pub last_none : (marks : List ℕ) → last 0 marks ≡ []
last_none marks = drop_all (length marks - 0) marks (omega arith)

pub last_all : (marks : List ℕ) → last (length marks) marks ≡ marks
last_all marks = let e : length marks - length marks ≡ 0 = omega arith in ap (λ (n : ℕ). drop n marks) e

-- ---- a row

pub record RowSoFar (bytes marks left : List ℕ) (at : ℕ) : Type 0 where
  pub ends : last (length left) marks ≡ left
  pub reached : RowReached bytes marks (length left) at

pub row_on : (bytes marks : List ℕ) (first : ℕ) (more : List ℕ) (at len : ℕ) (value : Value) → RowSoFar bytes marks (first ∷ more) at → IsRight InRow (Is value) → StandsAt (behind bytes at) (field (Is value)) len
    → RowSoFar bytes marks more (at + len)
row_on bytes marks first more at len value so_far right there =
    let keys = marks_of marks in
    let rest = last_rest marks first more so_far.reached.room so_far.ends in
    let leads = subst (λ (r : List ℕ). Leads (RowAhead keys (marks_of r)) (RowWrong keys (marks_of r)) (take at bytes)) so_far.ends so_far.reached.leads in
    let next = leads_at (RowAhead keys (marks_of (first ∷ more))) (RowWrong keys (marks_of (first ∷ more))) (RowAhead keys (marks_of more)) (RowWrong keys (marks_of more)) bytes (field (Is value)) at len there
    (column_ahead InRow (row_rules (marks_of more)) (Is value) (λ _. ChangesAhead keys) (λ _. ChangesAhead keys) right (λ fields rest ahead. ahead))
    (column_wrong InRow (row_rules (marks_of more)) (Is value) (λ _. ChangesWrong keys) (λ _. ChangesWrong keys) right (λ fields fault offset rest told. told))
    leads in
    record {
      ends = rest;
      reached = record {
        room = omega (arith, so_far.reached.room);
        within = within_at bytes (field (Is value)) at len so_far.reached.within there;
        leads = subst (λ (r : List ℕ). Leads (RowAhead keys (marks_of r)) (RowWrong keys (marks_of r)) (take (at + len) bytes)) (sym rest) next;
      };
    }

-- no column is left
pub row_done : (bytes marks : List ℕ) (at : ℕ) → RowReached bytes marks 0 at → ChangesReached bytes marks at
row_done bytes marks at reached =
    let keys = marks_of marks in
    let leads = subst (λ (r : List ℕ). Leads (RowAhead keys (marks_of r)) (RowWrong keys (marks_of r)) (take at bytes)) (last_none marks) reached.leads in
    record {
      within = reached.within;
      leads = leads_as (RowAhead keys []) (RowWrong keys []) (ChangesAhead keys) (ChangesWrong keys) (take at bytes) (none_ahead (λ _. ChangesAhead keys)) (none_wrong (λ _. ChangesWrong keys)) leads;
    }

-- the columns that were kept
rest_count : (marks rest : List ℕ) (left : ℕ) → left ≤ length marks → rest ≡ last left marks → length rest ≡ left
rest_count marks rest left room is = omega (arith, ap length is, length-drop (length marks - left) marks, room)

pub row_starts : (bytes marks rest : List ℕ) (left at : ℕ) → rest ≡ last left marks → RowReached bytes marks left at → RowSoFar bytes marks rest at
row_starts bytes marks rest left at is reached =
    let count = rest_count marks rest left reached.room is in
    record {
      ends = ap (λ (n : ℕ). last n marks) count ∙ sym is;
      reached = subst (λ (n : ℕ). RowReached bytes marks n at) (sym count) reached;
    }

pub row_ends : (bytes marks rest : List ℕ) (at : ℕ) → length rest ≡ 0 → RowSoFar bytes marks rest at → RowReached bytes marks 0 at
row_ends bytes marks rest at none so_far = subst (λ (n : ℕ). RowReached bytes marks n at) none so_far.reached

-- ---- spans that grow and shrink

pub part_on : (bytes token : List ℕ) (start end len : ℕ) → start ≤ end → end ≤ length bytes → StandsAt (behind bytes end) token len → take (end + len - start) (drop start bytes) ≡ take (end - start) (drop start bytes) ++ token
part_on bytes token start end len rises within there =
    let split : end + len - start ≡ (end - start) + len = omega (arith, rises) in
    let here : start + (end - start) ≡ end = omega (arith, rises) in
    let next : take len (drop (end - start) (drop start bytes)) ≡ token =
    ap (take len) (drop-drop (end - start) start bytes ∙ ap (λ (n : ℕ). drop n bytes) here ∙ sym (tail bytes end)) ∙ there.front in
    ap (λ (n : ℕ). take n (drop start bytes)) split ∙ take-add (end - start) len (drop start bytes) ∙ ap (λ (t : List ℕ). take (end - start) (drop start bytes) ++ t) next

-- what stands there begins with one thing, and the rest stands behind that
pub part_off : (bytes first rest : List ℕ) (start end : ℕ) → start ≤ end → end ≤ length bytes → take (end - start) (drop start bytes) ≡ first ++ rest → take (end - (start + length first)) (drop (start + length first) bytes) ≡ rest
part_off bytes first rest start end rises within is =
    let whole : length first + length rest ≡ end - start = sym (length-append first rest) ∙ ap length (sym is) ∙ length-take-le (end - start) (drop start bytes) (omega (arith, length-drop start bytes, rises, within)) in
    let size : end - (start + length first) ≡ length rest = omega (arith, whole) in
    let split : end - start ≡ length first + length rest = sym whole in
    let taken : take (length first + length rest) (drop start bytes) ≡ first ++ rest = ap (λ (n : ℕ). take n (drop start bytes)) (sym split) ∙ is in
    let cut : drop (length first) (take (length first + length rest) (drop start bytes)) ≡ rest = ap (drop (length first)) taken ∙ drop-append_seam first rest in
    ap (λ (n : ℕ). take n (drop (start + length first) bytes)) size ∙ ap (take (length rest)) (sym (drop-drop (length first) start bytes)) ∙ sym (drop-take (length first) (length rest) (drop start bytes)) ∙ cut

-- ---- an old record

pub record OldSoFar (bytes marks left : List ℕ) (old : Span) : Type 0 where
  pub ends : last (length left) marks ≡ left
  pub reached : OldReached bytes marks (length left) old

pub old_on : (bytes marks : List ℕ) (first : ℕ) (more : List ℕ) (start end len : ℕ) (next : Field) → OldSoFar bytes marks (first ∷ more) (record { start = start; end = end }) → IsRight (InOld (is_nonzero first)) next → StandsAt (behind bytes end) (field next) len
    → OldSoFar bytes marks more (record { start = start; end = end + len })
old_on bytes marks first more start end len next so_far right there =
    let keys = marks_of marks in
    let reached = so_far.reached in
    let before = reached.before in
    let rest = last_rest marks first more reached.room so_far.ends in
    let leads = subst (λ (r : List ℕ). Leads (OldAhead keys (marks_of r) before) (OldWrong keys (marks_of r) before) (take end bytes)) so_far.ends reached.leads in
    let longer = before ++ next ∷ [] in
    let on = leads_at (OldAhead keys (marks_of (first ∷ more)) before) (OldWrong keys (marks_of (first ∷ more)) before) (OldAhead keys (marks_of more) longer) (OldWrong keys (marks_of more) longer) bytes (field next) end len there
    (column_ahead (InOld (is_nonzero first)) (old_rules (marks_of more)) next (λ fields. NewAhead keys keys (before ++ fields)) (λ fields. NewAhead keys keys (longer ++ fields)) right
    (λ fields r ahead. subst (λ (fs : List Field). NewAhead keys keys fs r) (append_assoc before (next ∷ []) fields) ahead))
    (column_wrong (InOld (is_nonzero first)) (old_rules (marks_of more)) next (λ fields. NewWrong keys keys (before ++ fields)) (λ fields. NewWrong keys keys (longer ++ fields)) right
    (λ fields fault offset r told. subst (λ (fs : List Field). NewWrong keys keys fs fault offset r) (append_assoc before (next ∷ []) fields) told))
    leads in
    record {
      ends = rest;
      reached = record {
        room = omega (arith, reached.room);
        within = (omega (arith, reached.within.0), within_at bytes (field next) end len reached.within.1 there);
        before = longer;
        fit = all_more Fits before next reached.fit right.0;
        count = omega (arith, reached.count, length-append before (next ∷ []));
        spelled = part_on bytes (field next) start end len reached.within.0 reached.within.1 there ∙ ap (λ (t : List ℕ). t ++ field next) reached.spelled ∙ flat_map_more field [] before next;
        leads = subst (λ (r : List ℕ). Leads (OldAhead keys (marks_of r) longer) (OldWrong keys (marks_of r) longer) (take (end + len) bytes)) (sym rest) on;
      };
    }

pub old_starts : (bytes marks rest : List ℕ) (left : ℕ) (old : Span) → rest ≡ last left marks → OldReached bytes marks left old → OldSoFar bytes marks rest old
old_starts bytes marks rest left old is reached =
    let count = rest_count marks rest left reached.room is in
    record {
      ends = ap (λ (n : ℕ). last n marks) count ∙ sym is;
      reached = subst (λ (n : ℕ). OldReached bytes marks n old) (sym count) reached;
    }

pub old_ends : (bytes marks rest : List ℕ) (old : Span) → length rest ≡ 0 → OldSoFar bytes marks rest old → OldReached bytes marks 0 old
old_ends bytes marks rest old none so_far = subst (λ (n : ℕ). OldReached bytes marks n old) none so_far.reached

-- no column is left: the new record begins
pub old_done : (bytes marks : List ℕ) (old : Span) → OldReached bytes marks 0 old → NewReached bytes marks (length marks) old old.end
old_done bytes marks old reached =
    let keys = marks_of marks in
    let before = reached.before in
    let leads = subst (λ (r : List ℕ). Leads (OldAhead keys (marks_of r) before) (OldWrong keys (marks_of r) before) (take old.end bytes)) (last_none marks) reached.leads in
    let next = leads_as (OldAhead keys [] before) (OldWrong keys [] before) (NewAhead keys keys before) (NewWrong keys keys before) (take old.end bytes)
    (λ rest ahead. none_ahead (λ fields. NewAhead keys keys (before ++ fields)) rest (subst (λ (fs : List Field). NewAhead keys keys fs rest) (sym (append-nil before)) ahead))
    (λ fault offset rest told. none_wrong (λ fields. NewWrong keys keys (before ++ fields)) fault offset rest (subst (λ (fs : List Field). NewWrong keys keys fs fault offset rest) (sym (append-nil before)) told))
    leads in
    record {
      room = omega arith;
      within = reached.within.1;
      behind = reached.within;
      fields = before;
      fit = reached.fit;
      count = omega (arith, reached.count);
      spelled = reached.spelled;
      leads = subst (λ (r : List ℕ). Leads (NewAhead keys (marks_of r) before) (NewWrong keys (marks_of r) before) (take old.end bytes)) (sym (last_all marks)) next;
    }

-- ---- a new record

pub record NewSoFar (bytes marks left : List ℕ) (fields : List Field) (at end : ℕ) : Type 0 where
  pub ends : last (length left) marks ≡ left
  pub room : length left ≤ length marks
  pub within : at ≤ length bytes
  pub behind : end ≤ length bytes
  pub fit : AllByRecursion Fits fields
  pub count : length fields ≡ length left
  pub short : length (record_of fields) ≤ end
  pub spelled : take (end - (end - length (record_of fields))) (drop (end - length (record_of fields)) bytes) ≡ record_of fields
  pub leads : Leads (NewAhead (marks_of marks) (marks_of left) fields) (NewWrong (marks_of marks) (marks_of left) fields) (take at bytes)

-- the old columns behind the first
fields_off : (bytes : List ℕ) (first : Field) (rest : List Field) (end : ℕ) → end ≤ length bytes → length (record_of (first ∷ rest)) ≤ end
    → take (end - (end - length (record_of (first ∷ rest)))) (drop (end - length (record_of (first ∷ rest))) bytes) ≡ record_of (first ∷ rest)
    → take (end - (end - length (record_of rest))) (drop (end - length (record_of rest)) bytes) ≡ record_of rest
fields_off bytes first rest end within short is =
    let long = length-append (field first) (record_of rest) in
    let start = end - length (record_of (first ∷ rest)) in
    let next : start + length (field first) ≡ end - length (record_of rest) = omega (arith, long, short) in
    let there = part_off bytes (field first) (record_of rest) start end (omega arith) within is in
    subst (λ (n : ℕ). take (end - n) (drop n bytes) ≡ record_of rest) next there

pub new_on : (bytes marks : List ℕ) (first : ℕ) (more : List ℕ) (before : Field) (rest : List Field) (at len end : ℕ) (next : Field) → NewSoFar bytes marks (first ∷ more) (before ∷ rest) at end → IsRight (InNew (is_nonzero first) before) next → StandsAt (behind bytes at) (field next) len
    → NewSoFar bytes marks more rest (at + len) end
new_on bytes marks first more before rest at len end next so_far right there =
    let keys = marks_of marks in
    record {
      ends = last_rest marks first more so_far.room so_far.ends;
      room = omega (arith, so_far.room);
      within = within_at bytes (field next) at len so_far.within there;
      behind = so_far.behind;
      fit = so_far.fit.1;
      count = omega (arith, so_far.count);
      short = omega (arith, so_far.short, length-append (field before) (record_of rest));
      spelled = fields_off bytes before rest end so_far.behind so_far.short so_far.spelled;
      leads = leads_at (NewAhead keys (marks_of (first ∷ more)) (before ∷ rest)) (NewWrong keys (marks_of (first ∷ more)) (before ∷ rest)) (NewAhead keys (marks_of more) rest) (NewWrong keys (marks_of more) rest) bytes (field next) at len there
          (column_ahead (InNew (is_nonzero first) before) (new_rules (marks_of more) rest) next (λ _. ChangesAhead keys) (λ _. ChangesAhead keys) right (λ fields r ahead. ahead))
          (column_wrong (InNew (is_nonzero first) before) (new_rules (marks_of more) rest) next (λ _. ChangesWrong keys) (λ _. ChangesWrong keys) right (λ fields fault offset r told. told))
          so_far.leads;
    }

-- the columns so far, as they are kept
pub new_kept : (bytes marks left : List ℕ) (fields : List Field) (at end : ℕ) → NewSoFar bytes marks left fields at end → NewReached bytes marks (length left) (record { start = end - length (record_of fields); end = end }) at
new_kept bytes marks left fields at end so_far = record {
  room = so_far.room;
  within = so_far.within;
  behind = (omega arith, so_far.behind);
  fields = fields;
  fit = so_far.fit;
  count = so_far.count;
  spelled = so_far.spelled;
  leads = subst (λ (r : List ℕ). Leads (NewAhead (marks_of marks) (marks_of r) fields) (NewWrong (marks_of marks) (marks_of r) fields) (take at bytes)) (sym so_far.ends) so_far.leads;
}

-- the columns that were kept
pub new_starts : (bytes marks rest : List ℕ) (left : ℕ) (old : Span) (at : ℕ) (fields : List Field) → rest ≡ last left marks → NewReached bytes marks left old at → SpellsRecord (part bytes old) fields → NewSoFar bytes marks rest fields at old.end
new_starts bytes marks rest left old at fields is r spelled =
    let same : r.fields ≡ fields = one_spelled_record r.fields fields r.fit spelled.0 (sym r.spelled ∙ sym spelled.1) in
    let size : length (record_of fields) ≡ old.end - old.start = ap length spelled.1 ∙ length-take-le (old.end - old.start) (drop old.start bytes) (omega (arith, length-drop old.start bytes, r.behind.0, r.behind.1)) in
    let start : old.end - length (record_of fields) ≡ old.start = omega (arith, size, r.behind.0) in
    let count = rest_count marks rest left r.room is in
    let leads = subst (λ (fs : List Field). Leads (NewAhead (marks_of marks) (marks_of (last left marks)) fs) (NewWrong (marks_of marks) (marks_of (last left marks)) fs) (take at bytes)) same r.leads in
    record {
      ends = ap (λ (n : ℕ). last n marks) count ∙ sym is;
      room = omega (arith, count, r.room);
      within = r.within;
      behind = r.behind.1;
      fit = spelled.0;
      count = omega (arith, count, r.count, ap length same);
      short = omega (arith, size);
      spelled = subst (λ (n : ℕ). take (old.end - n) (drop n bytes) ≡ record_of fields) (sym start) (sym spelled.1);
      leads = subst (λ (m : List ℕ). Leads (NewAhead (marks_of marks) (marks_of m) fields) (NewWrong (marks_of marks) (marks_of m) fields) (take at bytes)) (sym is) leads;
    }

no_bytes : (fields : List Field) → length fields ≡ 0 → length (record_of fields) ≡ 0
no_bytes [] none = refl
no_bytes (f ∷ fields) none = absurd (omega (arith, none))

pub new_ends : (bytes marks rest : List ℕ) (fields : List Field) (at end : ℕ) → length rest ≡ 0 → NewSoFar bytes marks rest fields at end → NewReached bytes marks 0 (record { start = end; end = end }) at
new_ends bytes marks rest fields at end none so_far =
    let kept = new_kept bytes marks rest fields at end so_far in
    let no_fields : length fields ≡ 0 = omega (arith, so_far.count, none) in
    let start : end - length (record_of fields) ≡ end = omega (arith, no_bytes fields no_fields) in
    subst (λ (n : ℕ). NewReached bytes marks 0 (record { start = n; end = end }) at) start (subst (λ (n : ℕ). NewReached bytes marks n (record { start = end - length (record_of fields); end = end }) at) none kept)

-- no column is left
pub new_done : (bytes marks : List ℕ) (old : Span) (at : ℕ) → NewReached bytes marks 0 old at → ChangesReached bytes marks at
new_done bytes marks old at reached =
    let keys = marks_of marks in
    let leads = subst (λ (r : List ℕ). Leads (NewAhead keys (marks_of r) reached.fields) (NewWrong keys (marks_of r) reached.fields) (take at bytes)) (last_none marks) reached.leads in
    record {
      within = reached.within;
      leads = leads_as (NewAhead keys [] reached.fields) (NewWrong keys [] reached.fields) (ChangesAhead keys) (ChangesWrong keys) (take at bytes) (none_ahead (λ _. ChangesAhead keys)) (none_wrong (λ _. ChangesWrong keys)) leads;
    }

-- ---- an operation and its flag

flag_stands : (bytes : List ℕ) (at operation flag : ℕ) (rest : List ℕ) → behind bytes at ≡ operation ∷ flag ∷ rest → StandsAt (behind bytes at) (operation ∷ flag ∷ []) 2
flag_stands bytes at operation flag rest is = stands (behind bytes at) (operation ∷ flag ∷ []) rest is

pub row_begins : (bytes marks : List ℕ) (at operation : ℕ) (flag : Bool) (rest : List ℕ) → HasRow operation → ChangesReached bytes marks at → behind bytes at ≡ operation ∷ flag_byte flag ∷ rest → RowReached bytes marks (length marks) (at + 2)
row_begins bytes marks at operation flag rest is reached e =
    let keys = marks_of marks in
    let there = flag_stands bytes at operation (flag_byte flag) rest e in
    let next = leads_at (ChangesAhead keys) (ChangesWrong keys) (RowAhead keys keys) (RowWrong keys keys) bytes (operation ∷ flag_byte flag ∷ []) at 2 there (row_ahead keys operation is flag) (row_wrong keys operation is flag) reached.leads in
    record {
      room = omega arith;
      within = within_at bytes (operation ∷ flag_byte flag ∷ []) at 2 reached.within there;
      leads = subst (λ (r : List ℕ). Leads (RowAhead keys (marks_of r)) (RowWrong keys (marks_of r)) (take (at + 2) bytes)) (sym (last_all marks)) next;
    }

pub old_begins : (bytes marks : List ℕ) (at : ℕ) (flag : Bool) (rest : List ℕ) → ChangesReached bytes marks at → behind bytes at ≡ 23 ∷ flag_byte flag ∷ rest → OldReached bytes marks (length marks) (record { start = at + 2; end = at + 2 })
old_begins bytes marks at flag rest reached e =
    let keys = marks_of marks in
    let there = flag_stands bytes at 23 (flag_byte flag) rest e in
    let next = leads_at (ChangesAhead keys) (ChangesWrong keys) (OldAhead keys keys []) (OldWrong keys keys []) bytes (23 ∷ flag_byte flag ∷ []) at 2 there (old_ahead keys flag) (old_wrong keys flag) reached.leads in
    let none : at + 2 - (at + 2) ≡ 0 = omega arith in
    record {
      room = omega arith;
      within = (omega arith, within_at bytes (23 ∷ flag_byte flag ∷ []) at 2 reached.within there);
      before = [];
      fit = tt;
      count = omega arith;
      spelled = ap (λ (n : ℕ). take n (drop (at + 2) bytes)) none;
      leads = subst (λ (r : List ℕ). Leads (OldAhead keys (marks_of r) []) (OldWrong keys (marks_of r) []) (take (at + 2) bytes)) (sym (last_all marks)) next;
    }

-- ---- a group

-- the byte there, and what follows it
pub first_behind : (bytes : List ℕ) (at first : ℕ) → at < length bytes → get_or bytes at 0 ≡ first → behind bytes at ≡ first ∷ behind bytes (at + 1)
first_behind bytes at first within is =
    tail bytes at ∙ drop_more bytes at 0 within ∙ ap (λ (n : ℕ). n ∷ drop (at + 1) bytes) is ∙ ap (λ (t : List ℕ). first ∷ t) (sym (tail bytes (at + 1)))

pub begins_at : (bytes : List ℕ) (at : ℕ) → GroupReached bytes at → behind bytes at ≡ 84 ∷ behind bytes (at + 1)
begins_at bytes at reached = first_behind bytes at 84 reached.within reached.first

pub columns_stand : (bytes : List ℕ) (at len : ℕ) (marks : List ℕ) → GroupReached bytes at → StandsAt (behind bytes (at + 1)) (spelling (length marks) ++ marks) len → StandsAt (behind bytes at) (columns_front marks) (len + 1)
columns_stand bytes at len marks reached there =
    subst (λ (b : List ℕ). StandsAt b (columns_front marks) (len + 1)) (sym (begins_at bytes at reached)) (stands_behind 84 (behind bytes (at + 1)) (spelling (length marks) ++ marks) len there)

-- the last part of what stands there
last_part : (bytes first rest : List ℕ) (at len : ℕ) → at ≤ length bytes → StandsAt (behind bytes at) (first ++ rest) len → take (at + len - (at + len - length rest)) (drop (at + len - length rest) bytes) ≡ rest
last_part bytes first rest at len within there =
    let size : len ≡ length first + length rest = reaches (behind bytes at) (first ++ rest) len there ∙ length-append first rest in
    let next : at + length first ≡ at + len - length rest = omega (arith, size) in
    let len_is : at + len - at ≡ len = omega arith in
    let is : take (at + len - at) (drop at bytes) ≡ first ++ rest = ap (λ (n : ℕ). take n (drop at bytes)) len_is ∙ ap (take len) (sym (tail bytes at)) ∙ there.front in
    subst (λ (n : ℕ). take (at + len - n) (drop n bytes) ≡ rest) next (part_off bytes first rest at (at + len) (omega arith) (within_at bytes (first ++ rest) at len within there) is)

pub marks_part : (bytes : List ℕ) (at len : ℕ) (marks : List ℕ) → GroupReached bytes at → StandsAt (behind bytes (at + 1)) (spelling (length marks) ++ marks) len → part bytes (record { start = at + 1 + len - length marks; end = at + 1 + len }) ≡ marks
marks_part bytes at len marks reached there = last_part bytes (spelling (length marks)) marks (at + 1) len (omega (arith, reached.within)) there

pub name_begins : (bytes : List ℕ) (at len : ℕ) (marks : List ℕ) → GroupReached bytes at → FitsMarks marks → StandsAt (behind bytes (at + 1)) (spelling (length marks) ++ marks) len → NameReached bytes marks (at + 1 + len) (at + 1 + len)
name_begins bytes at len marks reached fits there =
    let stands = columns_stand bytes at len marks reached there in
    let here : at + (len + 1) ≡ at + 1 + len = omega arith in
    let next = leads_at HeaderAhead HeaderWrong (NameAhead (marks_of marks)) (NameWrong (marks_of marks)) bytes (columns_front marks) at (len + 1) stands (name_follows marks fits) (name_wrong marks fits) reached.leads in
    let none : at + 1 + len - (at + 1 + len) ≡ 0 = omega arith in
    record {
      behind = omega arith;
      within = omega (arith, within_at bytes (columns_front marks) at (len + 1) (omega (arith, reached.within)) stands);
      none = subst (λ (n : ℕ). HasNoZero (take n (drop (at + 1 + len) bytes))) (sym none) tt;
      leads = subst (λ (n : ℕ). Leads (NameAhead (marks_of marks)) (NameWrong (marks_of marks)) (take n bytes)) here next;
    }

-- a group begins in a change's place
pub group_there : (bytes marks : List ℕ) (at : ℕ) → ChangesReached bytes marks at → at < length bytes → get_or bytes at 0 ≡ 84 → GroupReached bytes at
group_there bytes marks at reached within first = record {
  first = first;
  within = within;
  leads = leads_as (ChangesAhead (marks_of marks)) (ChangesWrong (marks_of marks)) HeaderAhead HeaderWrong (take at bytes) (header_follows (marks_of marks)) (header_wrong (marks_of marks)) reached.leads;
}

-- the first group begins
pub group_first : (bytes : List ℕ) → 0 < length bytes → get_or bytes 0 0 ≡ 84 → GroupReached bytes 0
group_first bytes within first = record {
  first = first;
  within = within;
  leads = record {
    whole = λ rest ahead. header_spells rest ahead;
    wrong = λ fault offset rest told. let same : offset ≡ 0 + offset = omega arith in subst (λ (n : ℕ). IsChangesetFault fault n rest) same (header_told fault offset rest told);
  };
}

-- ---- a name

none_both : (first rest : List ℕ) → HasNoZero first → HasNoZero rest → HasNoZero (first ++ rest)
none_both [] rest none more = more
none_both (b ∷ first) rest none more = (none.0, none_both first rest none.1 more)

-- no zero byte up to there, where there is none in what was searched and in what was searched now
none_to : (bytes : List ℕ) (at searched len : ℕ) → at ≤ searched → searched ≤ length bytes → HasNoZero (take (searched - at) (drop at bytes)) → HasNoZero (take len (drop searched bytes)) → HasNoZero (take (searched + len - at) (drop at bytes))
none_to bytes at searched len rises within none more =
    let split : searched + len - at ≡ (searched - at) + len = omega (arith, rises) in
    let here : at + (searched - at) ≡ searched = omega (arith, rises) in
    let next : take (searched + len - at) (drop at bytes) ≡ take (searched - at) (drop at bytes) ++ take len (drop searched bytes) =
    ap (λ (n : ℕ). take n (drop at bytes)) split ∙ take-add (searched - at) len (drop at bytes) ∙ ap (λ (t : List ℕ). take (searched - at) (drop at bytes) ++ take len t) (drop-drop (searched - at) at bytes ∙ ap (λ (n : ℕ). drop n bytes) here) in
    subst HasNoZero (sym next) (none_both (take (searched - at) (drop at bytes)) (take len (drop searched bytes)) none more)

-- the name goes on to the end of the bytes
pub name_goes_on : (bytes marks : List ℕ) (searched at : ℕ) → NameReached bytes marks searched at → None ≡ position (λ byte. nat_eq byte 0) (behind bytes searched) → NameReached bytes marks (length bytes) at
name_goes_on bytes marks searched at reached none =
    let size : searched + (length bytes - searched) ≡ length bytes = omega (arith, reached.within) in
    record {
      behind = omega (arith, reached.behind, reached.within);
      within = omega arith;
      none = subst (λ (n : ℕ). HasNoZero (take (n - at) (drop at bytes))) size (none_to bytes at searched (length bytes - searched) reached.behind reached.within reached.none (no_end (behind bytes searched) none));
      leads = reached.leads;
    }

-- the name, and what stands behind its end
pub record NameFound (bytes : List ℕ) (at end : ℕ) : Type 0 where
  pub none : HasNoZero (take (end - at) (drop at bytes))
  pub within : end < length bytes
  pub rises : at ≤ end
  pub stands : StandsAt (behind bytes at) (take (end - at) (drop at bytes) ++ 0 ∷ []) (end + 1 - at)

pub name_found : (bytes marks : List ℕ) (searched at len : ℕ) → NameReached bytes marks searched at → Some len ≡ position (λ byte. nat_eq byte 0) (behind bytes searched) → NameFound bytes at (searched + len)
name_found bytes marks searched at len reached some =
    let found = name_before (behind bytes searched) len (sym some) in
    let end = searched + len in
    let end_in : end < length bytes = omega (arith, found.0, length_behind bytes searched reached.within) in
    let none : HasNoZero (take len (drop searched bytes)) = subst (λ (t : List ℕ). HasNoZero (take len t)) (tail bytes searched) found.1 in
    let zero_there : get_or (drop searched bytes) len 0 ≡ 0 = subst (λ (t : List ℕ). get_or t len 0 ≡ 0) (tail bytes searched) found.2 in
    let short : len < length (drop searched bytes) = omega (arith, length-drop searched bytes, end_in) in
    let far : searched + (len + 1) ≡ end + 1 = omega arith in
    let cut : drop end bytes ≡ 0 ∷ drop (end + 1) bytes =
    sym (drop-drop len searched bytes) ∙ drop_more (drop searched bytes) len 0 short ∙ ap (λ (n : ℕ). n ∷ drop (len + 1) (drop searched bytes)) zero_there ∙ ap (λ (t : List ℕ). 0 ∷ t) (drop-drop (len + 1) searched bytes ∙ ap (λ (n : ℕ). drop n bytes) far) in
    let rises : at ≤ end = omega (arith, reached.behind) in
    let one : take 1 (drop end bytes) ≡ 0 ∷ [] = ap (take 1) cut in
    let split : end + 1 - at ≡ (end - at) + 1 = omega (arith, rises) in
    let here : at + (end - at) ≡ end = omega (arith, rises) in
    let front : take (end + 1 - at) (drop at bytes) ≡ take (end - at) (drop at bytes) ++ 0 ∷ [] =
    ap (λ (n : ℕ). take n (drop at bytes)) split ∙ take-add (end - at) 1 (drop at bytes) ∙ ap (λ (t : List ℕ). take (end - at) (drop at bytes) ++ take 1 t) (drop-drop (end - at) at bytes ∙ ap (λ (n : ℕ). drop n bytes) here) ∙ ap (λ (t : List ℕ). take (end - at) (drop at bytes) ++ t) one in
    record {
      none = none_to bytes at searched len reached.behind reached.within reached.none none;
      within = end_in;
      rises = rises;
      stands = record {
        within = omega (arith, length_behind bytes at (omega (arith, rises, end_in)), end_in, rises);
        front = ap (take (end + 1 - at)) (tail bytes at) ∙ front;
      };
    }

-- behind the name changes follow
pub name_done : (bytes marks : List ℕ) (searched at end : ℕ) → NameReached bytes marks searched at → NameFound bytes at end → IsUtf8 (take (end - at) (drop at bytes)) → ChangesReached bytes marks (end + 1)
name_done bytes marks searched at end reached found text =
    let keys = marks_of marks in
    let name = take (end - at) (drop at bytes) in
    let here : at + (end + 1 - at) ≡ end + 1 = omega (arith, found.rises) in
    let next = leads_at (NameAhead keys) (NameWrong keys) (ChangesAhead keys) (ChangesWrong keys) bytes (name ++ 0 ∷ []) at (end + 1 - at) found.stands (changes_follow keys name found.none text) (changes_wrong keys name found.none text) reached.leads in
    record {
      within = omega (arith, found.within);
      leads = subst (λ (n : ℕ). Leads (ChangesAhead keys) (ChangesWrong keys) (take n bytes)) here next;
    }
