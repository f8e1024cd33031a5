-- New columns of a table, judged: the laws of their answers, and which case decides.
use Rattle.std.proofs.Common.{◌≡◌, ◌⊎◌, ◌+◌, ◌<◌, ◌≤◌, ◌++◌, ◌∷◌, [], inl, inr, ℕ, List, length, Option, Some, None, Result, Ok, Err, slice_get, refl, sym, ap, subst, ◌∙◌, arith}
use Rattle.std.proofs.lemmas.Option.{same_Some, slice_get_within}
use Rattle.cs_value.specs.Catalog.{AreTables}
use Rattle.cs_value.specs.Decided.{OrNot, same_bytes_or_not}
use Rattle.cs_value.specs.declared.catalog.TableDef.{TableDef}
use Rattle.cs_widening.specs.Laws.{CanWidenOrNot}
use Rattle.cs_store.specs.Contents.{Contents}
use Rattle.cs_store.specs.log.Entry.{MayWiden}
use Rattle.cs_store.specs.log.Laws.{AppendedIsLog}
use Rattle.cs_store.specs.log.Log.{IsNextEntry}
use Rattle.cs_store.specs.log.Stored.{IsEntryOf}
use Rattle.cs_store.specs.log.Widens.{CatalogByWidens}
use Rattle.cs_store.specs.declared.log.body.Body.{Body}
use Rattle.cs_store.specs.declared.log.body.Body.TheVariants.{Changes, Widen}
use Rattle.cs_store.specs.declared.log.entry.LogEntry.{LogEntry}
use Rattle.cs_store.specs.declared.log.entry.TheConstants.{MAX_CHANGESET}
use Rattle.cs_hub.specs.appending.Appended.{IsAppendFault}
use Rattle.cs_hub.specs.declared.appending.fault.AppendFault.{AppendFault}
use Rattle.cs_hub.specs.declared.appending.fault.AppendFault.TheVariants as append
use Rattle.cs_hub.specs.log_store.Versions.{ShowsBy, Versions, newest_tables}
use Rattle.cs_hub.specs.judgement.Hub.{HubState, synced, with_entry}
use Rattle.cs_hub.specs.judgement.Judged.{hub_of}
use Rattle.cs_hub.specs.judgement.Laws.{IsOfHub, OneWidenAnswer, WidenHasAnswer, WidenedAgain, WidensKeepLog}
use Rattle.cs_hub.specs.judgement.Pushes.{Case}
use Rattle.cs_hub.specs.judgement.Widens.{CanGrow, IsWidenRepeat, WidenAsked, Widens, WidensIf, entry_of_widen}
use Rattle.cs_hub.specs.declared.judgement.fault.HubFault.{HubFault}
use Rattle.cs_hub.specs.declared.judgement.fault.HubFault.TheVariants.{Ahead, BadWiden, Device, Full, Memory}
use Rattle.cs_hub.specs.declared.judgement.push.Pushed.{Pushed}
use Rattle.cs_hub.specs.declared.judgement.push.Pushed.TheVariants.{Accepted, Stale}
use Rattle.cs_hub.specs.declared.judgement.widen.TheConstants.{WIDEN_ORIGIN}
use Rattle.cs_hub.proofs.Entries.{widen_fits}
use Rattle.cs_hub.proofs.JudgementLemmas.Once.{one_case, same}
use Rattle.cs_hub.proofs.JudgementLemmas.Existence.{Told, in_case, is_below, is_within, same_number}
use Rattle.cs_hub.proofs.LogStoreLemmas.Versions.{newest_shown}

-- an entry by which a table gets so many columns
abbrev pub of_table : ℕ → ℕ → List ℕ → LogEntry
of_table number width table = record { origin = WIDEN_ORIGIN; number = number; body = Widen table width }

-- ---- there is one answer

pub one_widen_answer : OneWidenAnswer
one_widen_answer limit old new last asked one other =
    one_case same (one_case same (one_case same (one_case same (one_case same same))))

-- ---- and one at all

same_widen : (body : Body) (table : List ℕ) (width : ℕ) → OrNot (body ≡ Widen table width)
same_widen (Changes changes) table width = inr (λ is. cc)
same_widen (Widen other columns) table width =
    elim (same_bytes_or_not other table) [
      | inr not ↦ inr (λ is. not (widen_table is))
      | inl named ↦ elim (same_number columns width) [
        | inr not ↦ inr (λ is. not (widen_width is))
        | inl wide ↦ inl (ap (λ (t : List ℕ). Widen t columns) named ∙ ap (Widen table) wide)
      ]
    ]
  where
    widen_table : Widen other columns ≡ Widen table width → other ≡ table
    widen_table is = cc

    widen_width : Widen other columns ≡ Widen table width → columns ≡ width
    widen_width is = cc

same_as_widen : (asked : WidenAsked) (entry : LogEntry) → OrNot (entry ≡ entry_of_widen asked)
same_as_widen asked entry =
    elim (same_number entry.origin (entry_of_widen asked).origin) [
      | inr not ↦ inr (λ is. not (ap (λ (e : LogEntry). e.origin) is))
      | inl origin ↦ elim (same_number entry.number asked.number) [
        | inr not ↦ inr (λ is. not (ap (λ (e : LogEntry). e.number) is))
        | inl number ↦ elim (same_widen entry.body asked.table asked.width) [
          | inr not ↦ inr (λ is. not (ap (λ (e : LogEntry). e.body) is))
          | inl body ↦ inl (
              ap (λ (o : ℕ). parts o entry.number entry.body) origin
              ∙ ap (λ (n : ℕ). parts (entry_of_widen asked).origin n entry.body) number
              ∙ ap (parts (entry_of_widen asked).origin asked.number) body
              )
        ]
      ]
    ]
  where
    parts : ℕ → ℕ → Body → LogEntry
    parts origin number body = record { origin = origin; number = number; body = body }

repeat_or_not : (log : List LogEntry) (asked : WidenAsked) (found : Option LogEntry) → slice_get log asked.base ≡ found → OrNot (IsWidenRepeat log asked)
repeat_or_not log asked None is = inr (λ there. absurd (let no = sym is ∙ there in cc))
repeat_or_not log asked (Some entry) is =
    elim (same_as_widen asked entry) [
      | inl same_entry ↦ inl (is ∙ ap (λ (e : LogEntry). Some e) same_entry)
      | inr not ↦ inr (λ there. not (same_Some entry (entry_of_widen asked) (sym is ∙ there)))
    ]

abbrev OfNewest : HubState → WidenAsked → Told → HubState → Type 0
OfNewest old asked answer new =
    Case (CanGrow old asked) ((answer ≡ Ok (Accepted (asked.base + 1))) × (new ≡ with_entry old (entry_of_widen asked))) ((answer ≡ Err BadWiden) × (new ≡ old))

abbrev OfRoom : ℕ → HubState → WidenAsked → Told → HubState → Type 0
OfRoom limit old asked answer new = Case (limit ≤ length old.log) ((answer ≡ Err Full) × (new ≡ old)) (OfNewest old asked answer new)

abbrev OfOther : ℕ → HubState → WidenAsked → Told → HubState → Type 0
OfOther limit old asked answer new = Case (asked.base < length old.log) ((answer ≡ Ok (Stale (length old.log))) × (new ≡ old)) (OfRoom limit old asked answer new)

abbrev OfBase : ℕ → HubState → WidenAsked → Told → HubState → Type 0
OfBase limit old asked answer new = Case (IsWidenRepeat old.log asked) ((answer ≡ Ok (Accepted (asked.base + 1))) × (new ≡ old)) (OfOther limit old asked answer new)

pub widen_has_answer : CanWidenOrNot → WidenHasAnswer
widen_has_answer can limit old asked =
    in_case (OfBase limit old asked) (Err Ahead) old (is_below (length old.log) asked.base)
    (λ within. in_case (OfOther limit old asked) (Ok (Accepted (asked.base + 1))) old (repeat_or_not old.log asked (slice_get old.log asked.base) refl)
    (λ other. in_case (OfRoom limit old asked) (Ok (Stale (length old.log))) old (is_below asked.base (length old.log))
    (λ newest. in_case (OfNewest old asked) (Err Full) old (is_within limit (length old.log))
    (λ room. in_case (λ answer new. (answer ≡ Err BadWiden) × (new ≡ old)) (Ok (Accepted (asked.base + 1))) (with_entry old (entry_of_widen asked)) (can (synced old) asked.table asked.width)
    (λ bad. (Err BadWiden, old, (refl, refl)))))))

-- ---- what becomes of the log: it stays, or the entry is appended to it where it may be

pub kept_or_taken : (limit : ℕ) (old new : HubState) (asked : WidenAsked) (answer : Result Pushed HubFault) → Widens limit old asked answer new
    → (new ≡ old) ⊎ ((asked.base ≡ length old.log) × CanGrow old asked × (new ≡ with_entry old (entry_of_widen asked)) × (answer ≡ Ok (Accepted (asked.base + 1))))
kept_or_taken limit old new asked answer (inl (g, (a, s))) = inl s
kept_or_taken limit old new asked answer (inr (g, inl (h, (a, s)))) = inl s
kept_or_taken limit old new asked answer (inr (g, inr (h, inl (i, (a, s))))) = inl s
kept_or_taken limit old new asked answer (inr (g, inr (h, inr (i, inl (j, (a, s)))))) = inl s
kept_or_taken limit old new asked answer (inr (g, inr (h, inr (i, inr (j, inl (k, (a, s))))))) = inr ((let last : asked.base ≡ length old.log = omega (arith, g, i) in last), k, s, a)
kept_or_taken limit old new asked answer (inr (g, inr (h, inr (i, inr (j, inr (k, (a, s))))))) = inl s

pub widens_keep_log : AppendedIsLog → WidensKeepLog
widens_keep_log appended limit old new asked answer hub widens =
    elim (kept_or_taken limit old new asked answer widens) [
      | inl kept ↦ subst IsOfHub (sym kept) hub
      | inr (last, may, grown, told) ↦
          let next : IsNextEntry old.opening old.log (entry_of_widen asked) = record { normal = tt; defined = (tt, λ name key. refl); widens = may } in
          subst IsOfHub (sym grown) (record { tables = hub.tables; log = appended old.opening old.log (entry_of_widen asked) hub.log next })
    ]

-- ---- a repeat

at_end : (log : List LogEntry) (entry : LogEntry) → slice_get (log ++ entry ∷ []) (length log) ≡ Some entry
at_end [] entry = refl
at_end (first ∷ log) entry = at_end log entry

pub widened_again : WidenedAgain
widened_again limit old new asked answer widens =
    elim (kept_or_taken limit old new asked answer widens) [
      | inl kept ↦ subst (λ (h : HubState). Widens limit h asked answer new) (sym kept) widens
      | inr (last, may, grown, told) ↦
          let after = with_entry old (entry_of_widen asked) in
          let there : IsWidenRepeat after.log asked = ap (slice_get after.log) last ∙ at_end old.log (entry_of_widen asked) in
          let within : asked.base < length after.log = slice_get_within after.log asked.base (entry_of_widen asked) there in
          subst (λ (h : HubState). Widens limit h asked answer h) (sym grown) (inr (λ above. omega (arith, above, within), inl (there, (told, refl))))
    ]

-- ---- which case decides, where the base is the newest version and there is room

module _ (law : CatalogByWidens) (limit : ℕ) (versions : Versions) (asked : WidenAsked) (contents : Contents) (log : List LogEntry) (shows : ShowsBy versions contents log) where
  abbrev Hub : HubState
  Hub = hub_of versions.opening log

  same_tables : newest_tables versions ≡ synced Hub
  same_tables = newest_shown law versions log shows.2 shows.1

  pub may_there : IsEntryOf (newest_tables versions) (entry_of_widen asked) → CanGrow Hub asked
  may_there fits = subst (λ (t : List TableDef). MayWiden t (Widen asked.table asked.width)) same_tables fits.widens

  pub ahead : versions.newest < asked.base → Widens limit Hub asked (Err Ahead) Hub
  ahead above = inl (omega (arith, above, shows.1), (refl, refl))

  pub told_repeat : asked.base < versions.newest → slice_get log asked.base ≡ Some (entry_of_widen asked) → Widens limit Hub asked (Ok (Accepted (asked.base + 1))) Hub
  told_repeat below there = inr (λ above. omega (arith, above, below, shows.1), inl (there, (refl, refl)))

  pub told_stale : asked.base < versions.newest → (slice_get log asked.base ≡ Some (entry_of_widen asked) → ⊥) → Widens limit Hub asked (Ok (Stale versions.newest)) Hub
  told_stale below not = inr (λ above. omega (arith, above, below, shows.1), inr (not, inl (omega (arith, below, shows.1), (ap (λ (n : ℕ). Ok (Stale n)) shows.1, refl))))

  module _ (newest : asked.base ≡ versions.newest) where
    none_there : IsWidenRepeat log asked → ⊥
    none_there there = let within = slice_get_within log asked.base (entry_of_widen asked) there in omega (arith, within, newest, shows.1)

    pub full : limit ≤ versions.newest → Widens limit Hub asked (Err Full) Hub
    full many =
        inr (λ above. omega (arith, above, newest, shows.1), inr (none_there, inr (λ late. omega (arith, late, newest, shows.1), inl (omega (arith, many, shows.1), (refl, refl)))))

    of_last : (answer : Result Pushed HubFault) (new : HubState) → versions.newest < limit → OfNewest Hub asked answer new → Widens limit Hub asked answer new
    of_last answer new room below =
        inr (λ above. omega (arith, above, newest, shows.1), inr (none_there, inr (λ late. omega (arith, late, newest, shows.1), inr (λ many. omega (arith, many, room, shows.1), below))))

    pub to_append : versions.newest < limit → IsEntryOf (newest_tables versions) (entry_of_widen asked) → Widens limit Hub asked (Ok (Accepted (asked.base + 1))) (with_entry Hub (entry_of_widen asked))
    to_append room fits = of_last (Ok (Accepted (asked.base + 1))) (with_entry Hub (entry_of_widen asked)) room (inl (may_there fits, (refl, refl)))

    pub bad : AreTables (newest_tables versions) → MAX_CHANGESET ≡ 4294967295 → versions.newest < limit → (IsEntryOf (newest_tables versions) (entry_of_widen asked) → ⊥) → Widens limit Hub asked (Err BadWiden) Hub
    bad are most room not =
        of_last (Err BadWiden) Hub room (inr ((λ may. not (widen_fits (newest_tables versions) are most asked.table asked.width (subst (λ (t : List TableDef). MayWiden t (Widen asked.table asked.width)) (sym same_tables) may))), (refl, refl)))

  -- it can't be that it isn't defined
  pub no_conflict : IsEntryOf (newest_tables versions) (entry_of_widen asked) → (fault : AppendFault) (told : HubFault) → (fault ≡ append.Memory → told ≡ Memory) → (fault ≡ append.Device → told ≡ Device)
      → IsAppendFault versions.opening log (entry_of_widen asked) fault → WidensIf limit Hub asked (Err told) Hub
  no_conflict fits append.Memory told memory device is = subst (λ (f : HubFault). WidensIf limit Hub asked (Err f) Hub) (sym (memory refl)) refl
  no_conflict fits append.Device told memory device is = subst (λ (f : HubFault). WidensIf limit Hub asked (Err f) Hub) (sym (device refl)) refl
  no_conflict fits (append.Conflict conflict) told memory device is =
      absurd (is.0 (record { normal = tt; defined = (tt, λ name key. refl); widens = may_there fits }))
