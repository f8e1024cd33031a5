-- What is read stays read as more bytes come, and where the bytes may end.
use Rattle.std.proofs.Common.{◌≡◌, ℕ, ◌-◌, ◌≤◌, List, [], ◌∷◌, ◌++◌, length, take, drop, refl, sym, ap, ◌∙◌, append-nil, arith, inl, inr, subst, length-append}
use Rattle.std.proofs.lemmas.List.{length-drop, take-append-le, drop-append-le, take_all}
use Rattle.cs_changeset.specs.Laws.{ChangesetLaws}
use Rattle.cs_changeset.specs.Reading.{HasNoZero, IsChangesetFault}
use Rattle.cs_changeset.specs.declared.fault.Fault.{Fault}
use Rattle.cs_changeset.specs.declared.fault.Fault.TheVariants.{Truncated}
use Rattle.cs_feed.specs.Feeding.{IsChangeset, IsFaultSoFar}
use Rattle.cs_feed.specs.Steps.{Leads, part, IsWithin, RowReached, OldReached, NewReached, ChangesReached, NameReached, IsReached, IsAtEnd, IsWaiting}
use Rattle.cs_feed.specs.declared.stage.Span.{Span}
use Rattle.cs_feed.specs.declared.stage.Stage.{Stage}
use Rattle.cs_feed.specs.declared.stage.Stage.TheVariants.{Start, Name, Changes, Row, Old, New}

module _ (bytes more : List ℕ) where
  within_more : (at : ℕ) → at ≤ length bytes → at ≤ length (bytes ++ more)
  within_more at within = omega (arith, length-append bytes more, within)

  span_more : (span : Span) → IsWithin bytes span → IsWithin (bytes ++ more) span
  span_more span within = (within.0, within_more span.end within.1)

  slice_more : (start end : ℕ) → start ≤ end → end ≤ length bytes → take (end - start) (drop start (bytes ++ more)) ≡ take (end - start) (drop start bytes)
  slice_more start end rises within =
      let here : start ≤ length bytes = omega (arith, rises, within) in
      let room : end - start ≤ length (drop start bytes) = omega (arith, length-drop start bytes, rises, within) in
      ap (take (end - start)) (drop-append-le start bytes more here) ∙ take-append-le (end - start) (drop start bytes) more room

  part_more : (span : Span) → IsWithin bytes span → part (bytes ++ more) span ≡ part bytes span
  part_more span within = slice_more span.start span.end within.0 within.1

  leads_more : (Ahead : List ℕ → Type 0) (Wrong : Fault → ℕ → List ℕ → Type 0) (at : ℕ) → at ≤ length bytes → Leads Ahead Wrong (take at bytes) → Leads Ahead Wrong (take at (bytes ++ more))
  leads_more Ahead Wrong at within leads = subst (Leads Ahead Wrong) (sym (take-append-le at bytes more within)) leads

  changes_more : (marks : List ℕ) (at : ℕ) → ChangesReached bytes marks at → ChangesReached (bytes ++ more) marks at
  changes_more marks at reached = record {
    within = within_more at reached.within;
    leads = leads_more _ _ at reached.within reached.leads;
  }

  name_more : (marks : List ℕ) (searched at : ℕ) → NameReached bytes marks searched at → NameReached (bytes ++ more) marks searched at
  name_more marks searched at reached = record {
    behind = reached.behind;
    within = within_more searched reached.within;
    none = subst HasNoZero (sym (slice_more at searched reached.behind reached.within)) reached.none;
    leads = leads_more _ _ at (omega (arith, reached.behind, reached.within)) reached.leads;
  }

  row_more : (marks : List ℕ) (left at : ℕ) → RowReached bytes marks left at → RowReached (bytes ++ more) marks left at
  row_more marks left at reached = record {
    room = reached.room;
    within = within_more at reached.within;
    leads = leads_more _ _ at reached.within reached.leads;
  }

  old_more : (marks : List ℕ) (left : ℕ) (old : Span) → OldReached bytes marks left old → OldReached (bytes ++ more) marks left old
  old_more marks left old reached = record {
    room = reached.room;
    within = span_more old reached.within;
    before = reached.before;
    fit = reached.fit;
    count = reached.count;
    spelled = part_more old reached.within ∙ reached.spelled;
    leads = leads_more _ _ old.end reached.within.1 reached.leads;
  }

  new_more : (marks : List ℕ) (left : ℕ) (old : Span) (at : ℕ) → NewReached bytes marks left old at → NewReached (bytes ++ more) marks left old at
  new_more marks left old at reached = record {
    room = reached.room;
    within = within_more at reached.within;
    behind = span_more old reached.behind;
    fields = reached.fields;
    fit = reached.fit;
    count = reached.count;
    spelled = part_more old reached.behind ∙ reached.spelled;
    leads = leads_more _ _ at reached.within reached.leads;
  }

  -- as more bytes come, all that was reached stays so
  pub reached_more : (at : ℕ) (stage : Stage) → IsReached bytes at stage → IsReached (bytes ++ more) at stage
  reached_more at Start reached = reached
  reached_more at (Name marks searched) (within, reached) =
      (span_more marks within, subst (λ (m : List ℕ). NameReached (bytes ++ more) m searched at) (sym (part_more marks within)) (name_more (part bytes marks) searched at reached))
  reached_more at (Changes marks) (within, reached) =
      (span_more marks within, subst (λ (m : List ℕ). ChangesReached (bytes ++ more) m at) (sym (part_more marks within)) (changes_more (part bytes marks) at reached))
  reached_more at (Row marks left) (within, reached) =
      (span_more marks within, subst (λ (m : List ℕ). RowReached (bytes ++ more) m left at) (sym (part_more marks within)) (row_more (part bytes marks) left at reached))
  reached_more at (Old marks left start) (within, reached) =
      let old : Span = record { start = start; end = at } in
      (span_more marks within, subst (λ (m : List ℕ). OldReached (bytes ++ more) m left old) (sym (part_more marks within)) (old_more (part bytes marks) left old reached))
  reached_more at (New marks left old) (within, reached) =
      (span_more marks within, subst (λ (m : List ℕ). NewReached (bytes ++ more) m left old at) (sym (part_more marks within)) (new_more (part bytes marks) left old at reached))

-- ---- where the bytes end

empty_spells : (bytes : List ℕ) → 0 ≡ length bytes → IsChangeset bytes
empty_spells [] e = ([], tt, refl)
empty_spells (b ∷ bytes) e = absurd (omega (arith, e))

pub end_spells : (bytes : List ℕ) (at : ℕ) (stage : Stage) → IsReached bytes at stage → IsAtEnd bytes at stage → IsChangeset bytes
end_spells bytes at Start reached end = empty_spells bytes (sym reached ∙ end)
end_spells bytes at (Changes marks) (within, reached) end =
    let whole : take at bytes ++ [] ≡ bytes = append-nil (take at bytes) ∙ take_all at bytes (omega (arith, end)) in
    subst IsChangeset whole (reached.leads.whole [] ([], [], tt, tt, refl))
end_spells bytes at (Name marks searched) reached end = absurd end
end_spells bytes at (Row marks left) reached end = absurd end
end_spells bytes at (Old marks left start) reached end = absurd end
end_spells bytes at (New marks left old) reached end = absurd end

-- where no more can be read, the bytes have no fault but that they may end early
pub none_so_far : ChangesetLaws → (bytes : List ℕ) (at : ℕ) (stage : Stage) → IsReached bytes at stage → IsWaiting bytes at stage → (fault : Fault) (offset : ℕ) → IsFaultSoFar fault offset bytes → ⊥
none_so_far laws bytes at stage reached (inl end) fault offset (whole, told) =
    let spelled = end_spells bytes at stage reached end in
    laws.right spelled.0 fault offset spelled.1 (subst (IsChangesetFault fault offset) spelled.2 told)
none_so_far laws bytes at stage reached (inr early) fault offset (whole, told) =
    whole (laws.fault fault Truncated offset (length bytes) bytes told early).0
