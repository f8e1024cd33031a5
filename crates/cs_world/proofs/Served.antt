-- What the hub answers to a request of a sound world. It is true of the log after it, and the log grew by what was asked at most.
use Rattle.std.proofs.Common.{◌≡◌, ◌≢◌, ◌≤◌, ◌<◌, ◌+◌, ◌^◌, ◌∙◌, ◌++◌, ℕ, List, [], ◌∷◌, Option, Some, None, Result, Ok, Err, length, map, slice_get, take, drop, option_map, refl, sym, ap, subst, inl, inr, arith, append-nil, length-append}
use Rattle.std.specs.Prelude.{◌⊎◌}
use Rattle.std.proofs.Math.Nat.{min-eq_left}
use Rattle.std.proofs.lemmas.List.{length-drop, length-take, take_all}
use Rattle.std.proofs.lemmas.List.Elements.{All-drop, All-take, All-weaker}
use Rattle.std.proofs.lemmas.Option.{slice_get-map, slice_get_within}
use Rattle.cs_change.specs.declared.group.Group.{Group}
use Rattle.cs_changeset.specs.Laws.{ChangesetLaws}
use Rattle.cs_hub.specs.judgement.Laws.{WidenIsEntry}
use Rattle.cs_hub.specs.judgement.Widens.{CanGrow, WidenAsked, Widens, entry_of_widen}
use Rattle.cs_hub.specs.Serves.{AnswersAsked, Outcome, ServesIf, TakesBytes, TakesGroups, TakesNormal, caught_answer, or_refusal, push_answer, widen_head}
use Rattle.cs_hub.specs.catching.Catches.{Catches}
use Rattle.cs_hub.specs.catching.Laws.{CaughtAreOthers, CaughtIsShort}
use Rattle.cs_hub.specs.declared.catching.caught.Caught.{Caught}
use Rattle.cs_hub.specs.declared.catching.caught.Caught.TheVariants as caught
use Rattle.cs_hub.specs.judgement.Hub.{HubState, entries_from, judging}
use Rattle.cs_hub.specs.judgement.Judged.{hub_of}
use Rattle.cs_hub.specs.judgement.Pushes.{CanFollow, Push, Pushes, entry_of_push}
use Rattle.cs_hub.specs.declared.judgement.fault.HubFault.{HubFault}
use Rattle.cs_hub.specs.declared.judgement.fault.HubFault.TheVariants as hub
use Rattle.cs_hub.specs.declared.judgement.push.Pushed.{Pushed}
use Rattle.cs_hub.specs.declared.judgement.push.Pushed.TheVariants as pushed
use Rattle.cs_normalising.specs.NormalFormOf.{IsNormalFormOf, IsUnfit}
use Rattle.cs_value.specs.Catalog.{AreTables}
use Rattle.cs_value.specs.declared.catalog.TableDef.{TableDef}
use Rattle.cs_store.specs.log.Laws.{AppendedIsLog, CatalogsAreTables, LongerLog}
use Rattle.cs_store.specs.log.Log.{IsLog, catalog_at, state_of}
use Rattle.cs_store.specs.declared.log.body.Body.{Body}
use Rattle.cs_store.specs.declared.log.body.Body.TheVariants.{Changes, Widen}
use Rattle.cs_store.specs.declared.log.entry.LogEntry.{LogEntry}
use Rattle.cs_store.specs.declared.log.entry.TheConstants.{MAX_CHANGESET}
use Rattle.cs_normalising.specs.Laws.{NoFaultWhereFit, NormalAgain, OneNormalForm}
use Rattle.cs_normal.specs.Laws.{NormalIsTaken}
use Rattle.cs_normal.specs.Normal.{groups_of, normal_spelling}
use Rattle.cs_normal.specs.State.{IsDefinedOn}
use Rattle.cs_normal.specs.declared.normal.TableChanges.{TableChanges}
use Rattle.cs_wire.specs.Answers.{FitsAnswer, answer_spelling}
use Rattle.cs_wire.specs.Entries.{ToldEntry}
use Rattle.cs_wire.specs.Laws.{HasNumbersInRange, OneRequest, OneToldAnswer, ToldAreRead}
use Rattle.cs_wire.specs.Requests.{Asked, AsksCatch, AsksPull, AsksPush, AsksWiden, FitsRequest, request_spelling}
use Rattle.cs_wire.specs.Told.{FitsMessage, told_entry}
use Rattle.cs_wire.specs.declared.answer.Answer.{Answer}
use Rattle.cs_wire.specs.declared.answer.Answer.TheVariants.{Short, Entries, Merged}
use Rattle.cs_wire.specs.declared.fault.WireFault.{WireFault}
use Rattle.cs_wire.specs.declared.push_head.PushHead.{PushHead}
use Rattle.cs_wire.specs.declared.short_answer.ShortAnswer.TheVariants.{Accepted, Stale, Refused}
use Rattle.cs_hub.specs.declared.judgement.widen.TheConstants.{WIDEN_ORIGIN}
use Rattle.cs_world.specs.Sound.{ArePartOf, AreStored, IsAcceptedIn, IsSound, IsStoredEntry, IsTrueAnswer, IsTrueAsked, IsTrueOrder, IsTruePush}
use Rattle.cs_world.specs.World.{World, with_log}
use Rattle.cs_world.proofs.Found.{added, all_from, in_append, in_drop, in_one, in_take}

-- the laws below
pub record Below : Type 0 where
  pub changesets : ChangesetLaws
  pub form : OneNormalForm
  pub fit : NoFaultWhereFit
  pub taken : NormalIsTaken
  pub again : NormalAgain
  pub request : OneRequest
  pub answer : OneToldAnswer
  pub read : ToldAreRead
  pub appended : AppendedIsLog
  pub longer : LongerLog
  pub catalogs : CatalogsAreTables
  pub caught : CaughtAreOthers
  pub caught_short : CaughtIsShort
  pub most : MAX_CHANGESET ≡ 4294967295
  pub origin : WIDEN_ORIGIN ≡ 4294967295
  pub widen_entry : WidenIsEntry

-- what an entry does, on so many first entries, is what was asked
abbrev pub IsOfferedBy : Asked → PushHead → Body → Type 0
IsOfferedBy asked head (Changes changes) = asked ≡ AsksPush head (normal_spelling changes)
IsOfferedBy asked head (Widen table width) = (head.origin ≡ WIDEN_ORIGIN) × (asked ≡ AsksWiden head.number head.base width table)

abbrev pub IsOfferedAt : Asked → ℕ → LogEntry → Type 0
IsOfferedAt asked base entry =
    IsOfferedBy asked (record { origin = entry.origin; number = entry.number; base = base }) entry.body

-- the bytes that answer what was asked of a world spell an answer that is true of the log after it
pub record IsServed (limit : ℕ) (world : World) (asked : Asked) (bytes : List ℕ) (log : List LogEntry) : Type 0 where
  pub answer : Answer
  pub fits : FitsAnswer answer
  pub spelled : bytes ≡ answer_spelling answer
  pub more : List LogEntry
  pub log_is : log ≡ world.log ++ more
  pub is_log : IsLog world.tables log
  pub entries : AreStored world.tables log
  pub short : length log ≤ limit
  pub new_at : (at : ℕ) (entry : LogEntry) → slice_get log at ≡ Some entry → (slice_get world.log at ≡ Some entry) ⊎ IsOfferedAt asked at entry
  pub true : IsTrueAnswer (with_log world log) answer

-- an entry that can be told
abbrev IsTold : LogEntry → Type 0
IsTold entry = FitsMessage entry × HasNumbersInRange entry

module _ (laws : Below) (limit : ℕ) (small : limit < 2 ^ 32) (world : World) (s : IsSound limit world) where
  -- the catalog at a version
  abbrev at_version : ℕ → List TableDef
  at_version version = catalog_at world.tables world.log version

  -- the bytes of an answer are of one answer
  one_answer : (some other : Answer) → FitsAnswer some → FitsAnswer other → answer_spelling some ≡ answer_spelling other → some ≡ other
  one_answer some other fits its same =
      let both : Ok some ≡ Ok other = laws.answer (answer_spelling some) (Ok some) (Ok other) (fits, refl) (its, same) in
      cc

  -- the log stays
  kept : (asked : Asked) (bytes : List ℕ) (answer : Answer) (log : List LogEntry) → log ≡ world.log → FitsAnswer answer → bytes ≡ answer_spelling answer → IsTrueAnswer world answer → IsServed limit world asked bytes log
  kept asked bytes answer log same fits spelled t =
      subst (λ (l : List LogEntry). IsServed limit world asked bytes l) (sym same) (record {
        answer = answer;
        fits = fits;
        spelled = spelled;
        more = [];
        log_is = sym (append-nil world.log);
        is_log = s.log;
        entries = s.entries;
        short = s.short;
        new_at = λ at entry there. inl there;
        true = t;
      })

  -- ---- entries are told

  told_at : (log : List LogEntry) (first count at : ℕ) (told : ToldEntry) (found : Option LogEntry) → slice_get (entries_from first count log) at ≡ found → option_map told_entry found ≡ Some told
      → (entry : LogEntry) × (slice_get log (first + at) ≡ Some entry) × (told ≡ told_entry entry)
  told_at log first count at told None there is = absurd (cc)
  told_at log first count at told (Some entry) there is =
      (entry, in_drop first log at entry (in_take count (drop first log) at entry there), cc)

  told_are_part : (first count : ℕ) → ArePartOf world.log first (map told_entry (entries_from first count world.log))
  told_are_part first count at told there =
      told_at world.log first count at told (slice_get (entries_from first count world.log) at) refl
      (sym (slice_get-map told_entry (entries_from first count world.log) at) ∙ there)

  fits_entries : (first count : ℕ) → first < 2 ^ 64 → FitsAnswer (Entries first (map told_entry (entries_from first count world.log)))
  fits_entries first count in_range =
      let some = All-take IsTold count (drop first world.log) (All-drop IsTold first world.log (all_from IsTold world.log (λ at e there. let stored = s.entries at e there in (stored.0.size, stored.1)))) in
      let n = length-take count (drop first world.log) in
      let m = length-drop first world.log in
      laws.read first (entries_from first count world.log) in_range (omega (arith, n, m, s.short, small))
      (All-weaker IsTold FitsMessage (λ e told. told.0) (entries_from first count world.log) some)
      (All-weaker IsTold HasNumbersInRange (λ e told. told.1) (entries_from first count world.log) some)

  -- ---- entries are told together

  module _ (asker first count : ℕ) (bytes : List ℕ) (log : List LogEntry) (fits : FitsRequest (AsksCatch asker first count)) (within : first ≤ length world.log) (same : log ≡ world.log) where
    merged_so : (taken : ℕ) (changes : List TableChanges) → Catches (at_version first) asker count (drop first world.log) (caught.Merged taken changes)
        → bytes ≡ answer_spelling (Merged asker first (first + taken) (normal_spelling changes))
        → IsServed limit world (AsksCatch asker first count) bytes log
    merged_so taken changes catches is =
        let others = laws.caught (at_version first) world.log asker count first taken changes within catches in
        let short = laws.caught_short (at_version first) asker count (drop first world.log) taken changes (laws.catalogs world.tables world.log first s.tables s.log) catches in
        kept (AsksCatch asker first count) bytes (Merged asker first (first + taken) (normal_spelling changes)) log same
        (record {
          origin_fits = fits.origin_fits;
          first_fits = fits.first_fits;
          next_fits = (let end = others.within in omega (arith, end, s.short, small));
          size_fits = omega (arith, short, laws.most);
        }) is others

    caught_so : (told : Caught) → Catches (at_version first) asker count (drop first world.log) told → bytes ≡ answer_spelling (caught_answer asker first world.log told) → IsServed limit world (AsksCatch asker first count) bytes log
    caught_so caught.Alone alone is =
        kept (AsksCatch asker first count) bytes (Entries first (map told_entry (entries_from first 1 world.log))) log same (fits_entries first 1 fits.first_fits) is (told_are_part first 1)
    caught_so (caught.Merged taken changes) catches is = merged_so taken changes catches is

  -- ---- a push is judged

  module _ (head : PushHead) (changeset : List ℕ) (t : IsTruePush world head changeset) (fits : FitsRequest (AsksPush head changeset)) where
    abbrev the_push : Push
    the_push = record { head = head; changes = t.changes }

    abbrev the_entry : LogEntry
    the_entry = entry_of_push the_push

    as_asked : AsksPush head changeset ≡ AsksPush head (normal_spelling t.changes)
    as_asked = ap (λ (c : List ℕ). AsksPush head c) t.spelled

    -- refused by the hub, with this code
    refused_so : (bytes : List ℕ) (log : List LogEntry) (code : ℕ) → code < 256 → code ≢ 41 → bytes ≡ answer_spelling (Short (Refused code)) → log ≡ world.log
        → IsServed limit world (AsksPush head changeset) bytes log
    refused_so bytes log code few other spelled same =
        kept (AsksPush head changeset) bytes (Short (Refused code)) log same few spelled other

    accepted : (at : ℕ) (log : List LogEntry) → at ≡ head.base → slice_get log at ≡ Some the_entry → IsAcceptedIn log head.origin head.number (head.base + 1)
    accepted at log is there = record {
      at = at;
      entry = the_entry;
      next = omega (arith, is);
      there = there;
      by = refl;
      numbered = refl;
    }

    fits_accepted : FitsAnswer (Short (Accepted head.origin head.number (head.base + 1)))
    fits_accepted = (fits.origin_fits, fits.number_fits, omega (arith, t.within, s.short, small))

    -- on the newest version it follows
    at_newest : head.base ≡ length world.log → CanFollow (hub_of world.tables world.log) the_push
    at_newest at_end =
        subst (λ (l : List LogEntry). IsDefinedOn (at_version (length world.log)) t.changes (state_of l)) (take_all head.base world.log (omega (arith, at_end)))
        (subst (λ (v : ℕ). IsDefinedOn (at_version v) t.changes (state_of (take head.base world.log))) at_end t.defined)

    stored : IsStoredEntry (at_version head.base) the_entry
    stored = (record { changes = t.of_tables; widens = tt; size = t.size }, (fits.origin_fits, fits.number_fits))

    appended_so : (bytes : List ℕ) (log : List LogEntry) → head.base ≡ length world.log → length world.log < limit
        → bytes ≡ answer_spelling (Short (Accepted head.origin head.number (head.base + 1))) → log ≡ world.log ++ the_entry ∷ []
        → IsServed limit world (AsksPush head changeset) bytes log
    appended_so bytes log at_end room spelled is =
        let follows = at_newest at_end in
        let n = length-append world.log (the_entry ∷ []) in
        subst (λ (l : List LogEntry). IsServed limit world (AsksPush head changeset) bytes l) (sym is) (record {
          answer = Short (Accepted head.origin head.number (head.base + 1));
          fits = fits_accepted;
          spelled = spelled;
          more = the_entry ∷ [];
          log_is = refl;
          is_log = laws.appended world.tables world.log the_entry s.log (record { normal = t.of_tables.0; defined = follows; widens = tt });
          entries = λ at entry there. elim (in_append world.log (the_entry ∷ []) entry at there) [
            | inl old ↦
                let below = slice_get_within world.log at entry old in
                subst (λ (ts : List TableDef). IsStoredEntry ts entry) (sym (laws.longer world.tables world.log (the_entry ∷ []) at (omega (arith, below))).0) (s.entries at entry old)
            | inr new ↦
                let one = in_one entry the_entry new.0 new.2 in
                let place : head.base ≡ at = omega (arith, new.1, one.0, at_end) in
                let stays = (laws.longer world.tables world.log (the_entry ∷ []) at (omega (arith, place, at_end))).0 in
                subst (λ (ts : List TableDef). IsStoredEntry ts entry) (sym stays)
                (subst (λ (e : LogEntry). IsStoredEntry (at_version at) e) (sym one.1)
                (subst (λ (v : ℕ). IsStoredEntry (at_version v) the_entry) place stored))
          ];
          short = omega (arith, n, room);
          new_at = λ at entry there. elim (in_append world.log (the_entry ∷ []) entry at there) [
            | inl old ↦ inl old
            | inr new ↦
                let one = in_one entry the_entry new.0 new.2 in
                let place : at ≡ head.base = omega (arith, new.1, one.0, at_end) in
                inr (subst (λ (e : LogEntry). IsOfferedAt (AsksPush head changeset) at e) (sym one.1)
                (subst (λ (b : ℕ). IsOfferedAt (AsksPush head changeset) b the_entry) (sym place) as_asked))
          ];
          true = accepted head.base (world.log ++ the_entry ∷ []) refl (rw at_end (added world.log the_entry));
        })

    -- the log of a hub
    log_of : (log other : List LogEntry) → hub_of world.tables log ≡ hub_of world.tables other → log ≡ other
    log_of log other same = ap (λ (h : HubState). h.log) same

    judged : (bytes : List ℕ) (log : List LogEntry) (told : Result Pushed HubFault) (outcome : Outcome) → bytes ≡ answer_spelling (push_answer head outcome) → outcome ≡ or_refusal told
        → Pushes limit (hub_of world.tables world.log) the_push told (hub_of world.tables log)
        → IsServed limit world (AsksPush head changeset) bytes log
    judged bytes log told outcome spelled as_told pushes =
        elim pushes [
          | inl (none, (is, same)) ↦
              refused_so bytes log 42 (omega arith) (λ e. omega (arith, e)) (spelled_as (Err hub.Empty) is) (log_of log world.log same)
          | inr (some, ahead) ↦ elim ahead [
            | inl (above, (is, same)) ↦
                refused_so bytes log 40 (omega arith) (λ e. omega (arith, e)) (spelled_as (Err hub.Ahead) is) (log_of log world.log same)
            | inr (not_above, repeat) ↦ elim repeat [
              | inl (again, (is, same)) ↦
                  kept (AsksPush head changeset) bytes (Short (Accepted head.origin head.number (head.base + 1))) log (log_of log world.log same) fits_accepted
                  (spelled_as (Ok (pushed.Accepted (head.base + 1))) is) (accepted head.base world.log refl again)
              | inr (no_repeat, late) ↦ elim late [
                | inl (below, (is, same)) ↦
                    kept (AsksPush head changeset) bytes (Short (Stale (length world.log))) log (log_of log world.log same) (omega (arith, s.short, small))
                    (spelled_as (Ok (pushed.Stale (length world.log))) is) tt
                | inr (not_below, filled) ↦ elim filled [
                  | inl (full, (is, same)) ↦
                      refused_so bytes log 43 (omega arith) (λ e. omega (arith, e)) (spelled_as (Err hub.Full) is) (log_of log world.log same)
                  | inr (room, follows) ↦ elim follows [
                    | inl (can, (is, same)) ↦
                        appended_so bytes log (at_end not_above not_below) (less room) (spelled_as (Ok (pushed.Accepted (head.base + 1))) is) (log_of log (world.log ++ the_entry ∷ []) same)
                    | inr (cannot, conflict) ↦ absurd (cannot (at_newest (at_end not_above not_below)))
                  ]
                ]
              ]
            ]
          ]
        ]
      where
        spelled_as : (is : Result Pushed HubFault) → told ≡ is → bytes ≡ answer_spelling (push_answer head (or_refusal is))
        spelled_as is same = spelled ∙ ap (λ (o : Outcome). answer_spelling (push_answer head o)) (as_told ∙ ap or_refusal same)

        at_end : ((length world.log < head.base) → ⊥) → ((head.base < length world.log) → ⊥) → head.base ≡ length world.log
        at_end above below = omega (arith, above, below)

        less : ((limit ≤ length world.log) → ⊥) → length world.log < limit
        less full = omega (arith, full)

    normal_taken : (bytes : List ℕ) (log : List LogEntry) (outcome : Outcome) → bytes ≡ answer_spelling (push_answer head outcome)
        → TakesNormal limit (hub_of world.tables world.log) the_push outcome (hub_of world.tables log)
        → IsServed limit world (AsksPush head changeset) bytes log
    normal_taken bytes log outcome spelled (told, pushes, is) = judged bytes log told outcome spelled is pushes

    -- it is judged by the tables at its base
    judged_by : judging (hub_of world.tables world.log) head.base ≡ at_version head.base
    judged_by = ap (λ (v : ℕ). at_version v) (min-eq_left t.within)

    are : AreTables (at_version head.base)
    are = laws.catalogs world.tables world.log head.base s.tables s.log

    groups_taken : (bytes : List ℕ) (log : List LogEntry) (outcome : Outcome) → bytes ≡ answer_spelling (push_answer head outcome)
        → TakesGroups limit (hub_of world.tables world.log) head (groups_of t.changes) outcome (hub_of world.tables log)
        → IsServed limit world (AsksPush head changeset) bytes log
    groups_taken bytes log outcome spelled (inl (fault, some, wrong, is, same)) =
        let wrong_there = subst (λ (ts : List TableDef). IsUnfit fault ts (groups_of t.changes)) judged_by wrong in
        let form = laws.again (at_version head.base) t.changes are t.of_tables.0 t.of_tables.1 in
        absurd (some (laws.fit fault (at_version head.base) (groups_of t.changes) are form.fit wrong_there))
    groups_taken bytes log outcome spelled (inr (changes, formed, taken)) =
        let form = subst (λ (ts : List TableDef). IsNormalFormOf ts (groups_of t.changes) changes) judged_by formed in
        let own = laws.again (at_version head.base) t.changes are t.of_tables.0 t.of_tables.1 in
        let same : changes ≡ t.changes = laws.form (at_version head.base) (groups_of t.changes) changes t.changes are form own in
        normal_taken bytes log outcome spelled
        (subst (λ (c : List TableChanges). TakesNormal limit (hub_of world.tables world.log) (record { head = head; changes = c }) outcome (hub_of world.tables log)) same taken)

    bytes_taken : (bytes : List ℕ) (log : List LogEntry) (outcome : Outcome) → bytes ≡ answer_spelling (push_answer head outcome)
        → TakesBytes limit (hub_of world.tables world.log) head changeset outcome (hub_of world.tables log)
        → IsServed limit world (AsksPush head changeset) bytes log
    bytes_taken bytes log outcome spelled (inl (fault, offset, wrong, is, same)) =
        let taken = laws.taken t.changes t.of_tables.0 in
        absurd (laws.changesets.right (groups_of t.changes) fault offset taken.0 (rw (taken.1, ← t.spelled) wrong))
    bytes_taken bytes log outcome spelled (inr (groups, fit, is, taken)) =
        let own = laws.taken t.changes t.of_tables.0 in
        let same : groups ≡ groups_of t.changes = laws.changesets.one groups (groups_of t.changes) fit own.0 (sym is ∙ (t.spelled ∙ sym own.1)) in
        groups_taken bytes log outcome spelled
        (subst (λ (g : List Group). TakesGroups limit (hub_of world.tables world.log) head g outcome (hub_of world.tables log)) same taken)

  -- ---- a wider table is judged

  module _ (wide : WidenAsked) (fits : FitsRequest (AsksWiden wide.number wide.base wide.width wide.table)) where
    abbrev widen_asked : Asked
    widen_asked = AsksWiden wide.number wide.base wide.width wide.table

    abbrev widen_entry : LogEntry
    widen_entry = entry_of_widen wide

    widen_accepted : (at : ℕ) (log : List LogEntry) → at ≡ wide.base → slice_get log at ≡ Some widen_entry → IsAcceptedIn log WIDEN_ORIGIN wide.number (wide.base + 1)
    widen_accepted at log is there = record {
      at = at;
      entry = widen_entry;
      next = omega (arith, is);
      there = there;
      by = refl;
      numbered = refl;
    }

    widen_answer_fits : wide.base ≤ length world.log → FitsAnswer (Short (Accepted WIDEN_ORIGIN wide.number (wide.base + 1)))
    widen_answer_fits within = (omega (arith, laws.origin), fits.0.number_fits, omega (arith, within, s.short, small))

    -- on the newest version it follows
    widen_appended : (bytes : List ℕ) (log : List LogEntry) → wide.base ≡ length world.log → length world.log < limit → CanGrow (hub_of world.tables world.log) wide
        → bytes ≡ answer_spelling (Short (Accepted WIDEN_ORIGIN wide.number (wide.base + 1))) → log ≡ world.log ++ widen_entry ∷ []
        → IsServed limit world widen_asked bytes log
    widen_appended bytes log at_end room may spelled is =
        let n = length-append world.log (widen_entry ∷ []) in
        let fit = laws.widen_entry (hub_of world.tables world.log) wide (record { tables = s.tables; log = s.log }) may in
        let stored : IsStoredEntry (at_version (length world.log)) widen_entry = (fit, (omega (arith, laws.origin), fits.0.number_fits)) in
        subst (λ (l : List LogEntry). IsServed limit world widen_asked bytes l) (sym is) (record {
          answer = Short (Accepted WIDEN_ORIGIN wide.number (wide.base + 1));
          fits = widen_answer_fits (omega (arith, at_end));
          spelled = spelled;
          more = widen_entry ∷ [];
          log_is = refl;
          is_log = laws.appended world.tables world.log widen_entry s.log (record { normal = tt; defined = none_defined; widens = may });
          entries = λ at entry there. elim (in_append world.log (widen_entry ∷ []) entry at there) [
            | inl old ↦
                let below = slice_get_within world.log at entry old in
                subst (λ (ts : List TableDef). IsStoredEntry ts entry) (sym (laws.longer world.tables world.log (widen_entry ∷ []) at (omega (arith, below))).0) (s.entries at entry old)
            | inr new ↦
                let one = in_one entry widen_entry new.0 new.2 in
                let place : length world.log ≡ at = omega (arith, new.1, one.0) in
                let stays = (laws.longer world.tables world.log (widen_entry ∷ []) at (omega (arith, place))).0 in
                subst (λ (ts : List TableDef). IsStoredEntry ts entry) (sym stays)
                (subst (λ (e : LogEntry). IsStoredEntry (at_version at) e) (sym one.1)
                (subst (λ (v : ℕ). IsStoredEntry (at_version v) widen_entry) place stored))
          ];
          short = omega (arith, n, room);
          new_at = λ at entry there. elim (in_append world.log (widen_entry ∷ []) entry at there) [
            | inl old ↦ inl old
            | inr new ↦
                let one = in_one entry widen_entry new.0 new.2 in
                let place : at ≡ wide.base = omega (arith, new.1, one.0, at_end) in
                inr (subst (λ (e : LogEntry). IsOfferedAt widen_asked at e) (sym one.1)
                (subst (λ (b : ℕ). IsOfferedAt widen_asked b widen_entry) (sym place) (refl, refl)))
          ];
          true = widen_accepted wide.base (world.log ++ widen_entry ∷ []) refl (rw at_end (added world.log widen_entry));
        })
      where
        none_defined : IsDefinedOn (at_version (length world.log)) [] (state_of world.log)
        none_defined = (tt, λ name key. refl)

    log_so : (log other : List LogEntry) → hub_of world.tables log ≡ hub_of world.tables other → log ≡ other
    log_so log other same = ap (λ (h : HubState). h.log) same

    widened : (bytes : List ℕ) (log : List LogEntry) (told : Result Pushed HubFault) (outcome : Outcome)
        → bytes ≡ answer_spelling (push_answer (widen_head wide.number wide.base) outcome) → outcome ≡ or_refusal told
        → Widens limit (hub_of world.tables world.log) wide told (hub_of world.tables log)
        → IsServed limit world widen_asked bytes log
    widened bytes log told outcome spelled as_told widens =
        elim widens [
          | inl (above, (is, same)) ↦ refuses 40 (omega arith) (λ e. omega (arith, e)) (as_answer (Err hub.Ahead) is) same
          | inr (not_above, repeat) ↦ elim repeat [
            | inl (again, (is, same)) ↦
                kept widen_asked bytes (Short (Accepted WIDEN_ORIGIN wide.number (wide.base + 1))) log (log_so log world.log same) (widen_answer_fits (not_ahead not_above))
                (as_answer (Ok (pushed.Accepted (wide.base + 1))) is) (widen_accepted wide.base world.log refl again)
            | inr (no_repeat, late) ↦ elim late [
              | inl (below, (is, same)) ↦
                  kept widen_asked bytes (Short (Stale (length world.log))) log (log_so log world.log same) (omega (arith, s.short, small)) (as_answer (Ok (pushed.Stale (length world.log))) is) tt
              | inr (not_below, full) ↦ elim full [
                | inl (filled, (is, same)) ↦ refuses 43 (omega arith) (λ e. omega (arith, e)) (as_answer (Err hub.Full) is) same
                | inr (room, grows) ↦ elim grows [
                  | inl (may, (is, same)) ↦
                      widen_appended bytes log (at_the_end (not_ahead not_above) not_below) (has_room room) may (as_answer (Ok (pushed.Accepted (wide.base + 1))) is) (ap (λ (h : HubState). h.log) same)
                  | inr (not, (is, same)) ↦ refuses 46 (omega arith) (λ e. omega (arith, e)) (as_answer (Err hub.BadWiden) is) same
                ]
              ]
            ]
          ]
        ]
      where
        as_answer : (its : Result Pushed HubFault) → told ≡ its → bytes ≡ answer_spelling (push_answer (widen_head wide.number wide.base) (or_refusal its))
        as_answer its is =
            spelled ∙ ap (λ (o : Outcome). answer_spelling (push_answer (widen_head wide.number wide.base) o)) (as_told ∙ ap or_refusal is)

        refuses : (code : ℕ) → code < 256 → code ≢ 41 → bytes ≡ answer_spelling (Short (Refused code)) → hub_of world.tables log ≡ hub_of world.tables world.log → IsServed limit world widen_asked bytes log
        refuses code few other its same = kept widen_asked bytes (Short (Refused code)) log (log_so log world.log same) few its other

        not_ahead : (length world.log < wide.base → ⊥) → wide.base ≤ length world.log
        not_ahead above = omega (arith, above)

        at_the_end : wide.base ≤ length world.log → (wide.base < length world.log → ⊥) → wide.base ≡ length world.log
        at_the_end within below = omega (arith, within, below)

        has_room : (limit ≤ length world.log → ⊥) → length world.log < limit
        has_room full = omega (arith, full)

  -- ---- what is asked is answered

  -- what is asked by a replica is true, or a wider table is asked for
  abbrev IsAskedTruly : Asked → Type 0
  IsAskedTruly asked = IsTrueAsked world asked ⊎ IsTrueOrder asked

  answered : (asked : Asked) (bytes : List ℕ) (log : List LogEntry) → FitsRequest asked → IsAskedTruly asked
      → AnswersAsked limit (hub_of world.tables world.log) (Ok asked) bytes (hub_of world.tables log)
      → IsServed limit world asked bytes log
  answered (AsksPull first count) bytes log fits t (inl (above, is), same) =
      kept (AsksPull first count) bytes (Short (Refused 40)) log (ap (λ (h : HubState). h.log) same) (omega arith) is (λ e. omega (arith, e))
  answered (AsksPull first count) bytes log fits t (inr (within, is), same) =
      kept (AsksPull first count) bytes (Entries first (map told_entry (entries_from first count world.log))) log (ap (λ (h : HubState). h.log) same)
      (fits_entries first count fits.first_fits) is (told_are_part first count)
  answered (AsksCatch asker first count) bytes log fits t (inl (above, is), same) =
      kept (AsksCatch asker first count) bytes (Short (Refused 40)) log (ap (λ (h : HubState). h.log) same) (omega arith) is (λ e. omega (arith, e))
  answered (AsksCatch asker first count) bytes log fits t (inr (within, (told, catches, is)), same) =
      caught_so asker first count bytes log fits within (ap (λ (h : HubState). h.log) same) told catches is
  answered (AsksWiden number base width table) bytes log fits t (outcome, (told, widens, as_told), is) =
      widened (record { number = number; base = base; table = table; width = width }) fits bytes log told outcome is as_told widens
  answered (AsksPush head changeset) bytes log fits (inl t) (outcome, taken, is) = bytes_taken head changeset t fits bytes log outcome is taken
  answered (AsksPush head changeset) bytes log fits (inr none) answers = absurd none

  pub served : (asked : Asked) (bytes : List ℕ) (log : List LogEntry) → FitsRequest asked → IsAskedTruly asked
      → ServesIf (Unit {0}) limit (hub_of world.tables world.log) (request_spelling asked) bytes (hub_of world.tables log)
      → IsServed limit world asked bytes log
  served asked bytes log fits t (inl (read, reads, answers)) =
      let same : read ≡ Ok asked = laws.request (request_spelling asked) read (Ok asked) reads (fits, refl) in
      answered asked bytes log fits t
      (subst (λ (a : Result Asked WireFault). AnswersAsked limit (hub_of world.tables world.log) a bytes (hub_of world.tables log)) same answers)
  served asked bytes log fits t (inr (failed, is, same)) =
      kept asked bytes (Short (Refused 44)) log (ap (λ (h : HubState). h.log) same) (omega arith) is (λ e. omega (arith, e))

  -- and it is the answer that the bytes are known to spell
  pub served_true : (asked : Asked) (answer : Answer) (log : List LogEntry) → FitsAnswer answer → (v : IsServed limit world asked (answer_spelling answer) log) → IsTrueAnswer (with_log world log) answer
  served_true asked answer log its v =
      subst (IsTrueAnswer (with_log world log)) (sym (one_answer answer v.answer its v.fits v.spelled)) v.true
