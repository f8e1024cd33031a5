-- A request that is answered again, by the hub after it, or by one whose log goes on otherwise.
use Rattle.std.proofs.Common.{◌≡◌, ◌≢◌, ℕ, ◌<◌, List, [], ◌∷◌, ◌++◌, length, min, Some, Result, Ok, Err, slice_get, inl, inr, refl, sym, ap, subst, ◌∙◌, arith, length-append}
use Rattle.std.proofs.lemmas.Option.{same_Some, slice_get_within}
use Rattle.cs_value.specs.declared.catalog.TableDef.{TableDef}
use Rattle.cs_change.specs.declared.group.Group.{Group}
use Rattle.cs_store.specs.log.Laws.{LongerLog}
use Rattle.cs_store.specs.log.Log.{catalog_at}
use Rattle.cs_store.specs.declared.log.entry.LogEntry.{LogEntry}
use Rattle.cs_normalising.specs.NormalFormOf.{IsNormalFormOf}
use Rattle.cs_hub.specs.judgement.Hub.{HubState, judging, with_entry}
use Rattle.cs_hub.specs.judgement.Judged.{hub_of}
use Rattle.cs_hub.specs.judgement.Laws.{WidenedAgain}
use Rattle.cs_hub.specs.judgement.Pushes.{IsRepeat, Push, Pushes, entry_of_push}
use Rattle.cs_hub.specs.judgement.Widens.{IsWidenRepeat, WidenAsked, Widens, entry_of_widen}
use Rattle.cs_hub.specs.declared.judgement.fault.HubFault.{HubFault}
use Rattle.cs_hub.specs.declared.judgement.push.Pushed.{Pushed}
use Rattle.cs_hub.specs.declared.judgement.push.Pushed.TheVariants as pushed
use Rattle.cs_wire.specs.Answers.{answer_spelling}
use Rattle.cs_wire.specs.Requests.{Asked, AsksCatch, AsksPush, AsksPull, AsksWiden}
use Rattle.cs_wire.specs.declared.answer.Answer.TheVariants.{Short}
use Rattle.cs_wire.specs.declared.fault.WireFault.{WireFault}
use Rattle.cs_wire.specs.declared.push_head.PushHead.{PushHead}
use Rattle.cs_wire.specs.declared.short_answer.ShortAnswer.TheVariants.{Stale}
use Rattle.cs_hub.specs.Laws.{ServedAgain, StaleBehindAnother}
use Rattle.cs_hub.specs.Serves.{AnswersAsked, Outcome, TakesBytes, TakesGroups}
use Rattle.cs_hub.proofs.JudgementLemmas.Widened.{kept_or_taken}

at_end : (before rest : List LogEntry) (entry : LogEntry) → slice_get (before ++ entry ∷ rest) (length before) ≡ Some entry
at_end [] rest entry = refl
at_end (first ∷ before) rest entry = at_end before rest entry

-- ---- what became of a push: the hub is as it was, or has the push behind its log

record IsAppendedTo (old : HubState) (push : Push) (new : HubState) : Type 0 where
  last : push.head.base ≡ length old.log
  grown : new ≡ with_entry old (entry_of_push push)

data IsLeft (old : HubState) (push : Push) (new : HubState) : Type 0 where
  stays : new ≡ old → IsLeft old push new
  grows : IsAppendedTo old push new → IsLeft old push new

left : (limit : ℕ) (old new : HubState) (push : Push) (told : Result Pushed HubFault) → Pushes limit old push told new → IsLeft old push new
left limit old new push told (inl (g, (a, s))) = stays s
left limit old new push told (inr (g, inl (h, (a, s)))) = stays s
left limit old new push told (inr (g, inr (h, inl (i, (a, s))))) = stays s
left limit old new push told (inr (g, inr (h, inr (i, inl (j, (a, s)))))) = stays s
left limit old new push told (inr (g, inr (h, inr (i, inr (j, inl (k, (a, s))))))) = stays s
left limit old new push told (inr (g, inr (h, inr (i, inr (j, inr (k, inl (l, (a, s)))))))) = grows (record { last = omega (arith, h, j); grown = s })
left limit old new push told (inr (g, inr (h, inr (i, inr (j, inr (k, inr (l, (c, s)))))))) = stays s

-- ---- the same again

same_again : (limit : ℕ) (old new : HubState) (push : Push) (told : Result Pushed HubFault) → new ≡ old → Pushes limit old push told new → Pushes limit new push told new
same_again limit old new push told same p = subst (λ (h : HubState). Pushes limit h push told new) (sym same) p

repeated : (old : HubState) (push : Push) → push.head.base ≡ length old.log → IsRepeat (with_entry old (entry_of_push push)).log push
repeated old push last =
    subst (λ (n : ℕ). slice_get (old.log ++ entry_of_push push ∷ []) n ≡ Some (entry_of_push push)) (sym last) (at_end old.log [] (entry_of_push push))

pushes_again : (limit : ℕ) (old new : HubState) (push : Push) (told : Result Pushed HubFault) → Pushes limit old push told new → Pushes limit new push told new
pushes_again limit old new push told (inl (g, (a, s))) = same_again limit old new push told s (inl (g, (a, s)))
pushes_again limit old new push told (inr (g, inl (h, (a, s)))) = same_again limit old new push told s (inr (g, inl (h, (a, s))))
pushes_again limit old new push told (inr (g, inr (h, inl (i, (a, s))))) = same_again limit old new push told s (inr (g, inr (h, inl (i, (a, s)))))
pushes_again limit old new push told (inr (g, inr (h, inr (i, inl (j, (a, s)))))) = same_again limit old new push told s (inr (g, inr (h, inr (i, inl (j, (a, s))))))
pushes_again limit old new push told (inr (g, inr (h, inr (i, inr (j, inl (k, (a, s))))))) = same_again limit old new push told s (inr (g, inr (h, inr (i, inr (j, inl (k, (a, s)))))))
pushes_again limit old new push told (inr (g, inr (h, inr (i, inr (j, inr (k, inl (l, (a, s)))))))) =
    let grown = with_entry old (entry_of_push push) in
    let last : push.head.base ≡ length old.log = omega (arith, h, j) in
    let within : push.head.base < length grown.log = slice_get_within grown.log push.head.base (entry_of_push push) (repeated old push last) in
    let again : Pushes limit grown push told grown = inr (g, inr (λ above. omega (arith, above, within), inl (repeated old push last, (a, refl)))) in
    subst (λ (h : HubState). Pushes limit h push told h) (sym s) again
pushes_again limit old new push told (inr (g, inr (h, inr (i, inr (j, inr (k, inr (l, (c, s)))))))) = same_again limit old new push told s (inr (g, inr (h, inr (i, inr (j, inr (k, inr (l, (c, s))))))))

-- the catalog at the length of a log is that of any longer one
judged_alike : LongerLog → (opening : List TableDef) (log more : List LogEntry) (base : ℕ) → base ≡ length log → judging (hub_of opening (log ++ more)) base ≡ judging (hub_of opening log) base
judged_alike longer opening log more base last =
    let long : min base (length (log ++ more)) ≡ length log = omega (arith, last, length-append log more) in
    let short : length log ≡ min base (length log) = omega (arith, last) in
    ap (λ (n : ℕ). catalog_at opening (log ++ more) n) long ∙ (longer opening log more (length log) (omega arith)).0 ∙ ap (λ (n : ℕ). catalog_at opening log n) short

tables_stay : LongerLog → (old new : HubState) (push : Push) → IsLeft old push new → judging new push.head.base ≡ judging old push.head.base
tables_stay longer old new push (stays same) = ap (λ (h : HubState). judging h push.head.base) same
tables_stay longer old new push (grows is) =
    ap (λ (h : HubState). judging h push.head.base) is.grown ∙ judged_alike longer old.opening old.log (entry_of_push push ∷ []) push.head.base is.last

groups_again : LongerLog → (limit : ℕ) (old new : HubState) (head : PushHead) (groups : List Group) (outcome : Outcome) → TakesGroups limit old head groups outcome new → TakesGroups limit new head groups outcome new
groups_again longer limit old new head groups outcome (inl (f, m, u, a, s)) =
    subst (λ (h : HubState). TakesGroups limit h head groups outcome new) (sym s) (inl (f, m, u, a, s))
groups_again longer limit old new head groups outcome (inr (changes, form, (told, p, is))) =
    let push : Push = record { head = head; changes = changes } in
    inr (changes, subst (λ (t : List TableDef). IsNormalFormOf t groups changes) (sym (tables_stay longer old new push (left limit old new push told p))) form, (told, pushes_again limit old new push told p, is))

bytes_again : LongerLog → (limit : ℕ) (old new : HubState) (head : PushHead) (changeset : List ℕ) (outcome : Outcome) → TakesBytes limit old head changeset outcome new → TakesBytes limit new head changeset outcome new
bytes_again longer limit old new head changeset outcome (inl (f, at, w, a, s)) = inl (f, at, w, a, refl)
bytes_again longer limit old new head changeset outcome (inr (groups, fits, is, p)) = inr (groups, fits, is, groups_again longer limit old new head groups outcome p)

asked_again : LongerLog → WidenedAgain → (limit : ℕ) (old new : HubState) (asked : Result Asked WireFault) (answer : List ℕ) → AnswersAsked limit old asked answer new → AnswersAsked limit new asked answer new
asked_again longer again limit old new (Err fault) answer (a, s) = (a, refl)
asked_again longer again limit old new (Ok (AsksPull first count)) answer (a, s) =
    subst (λ (h : HubState). AnswersAsked limit h (Ok (AsksPull first count)) answer new) (sym s) (a, s)
asked_again longer again limit old new (Ok (AsksCatch asker first count)) answer (a, s) =
    subst (λ (h : HubState). AnswersAsked limit h (Ok (AsksCatch asker first count)) answer new) (sym s) (a, s)
asked_again longer again limit old new (Ok (AsksWiden number base width table)) answer (outcome, (told, p, is), a) = (outcome, (told, again limit old new (record { number = number; base = base; table = table; width = width }) told p, is), a)
asked_again longer again limit old new (Ok (AsksPush head changeset)) answer (outcome, p, a) = (outcome, bytes_again longer limit old new head changeset outcome p, a)

pub served_again : LongerLog → WidenedAgain → ServedAgain
served_again longer again limit old new request answer (asked, reads, answers) = (asked, reads, asked_again longer again limit old new asked answer answers)

-- ---- where another entry came

-- a log that is longer is another
another_log : (opening : List TableDef) (log : List LogEntry) (entry : LogEntry) → hub_of opening (log ++ entry ∷ []) ≡ hub_of opening log → ⊥
another_log opening log entry same =
    let count : length (log ++ entry ∷ []) ≡ length log = ap (λ (h : HubState). length h.log) same in
    omega (arith, count, length-append log (entry ∷ []))

module _ (limit : ℕ) (opening : List TableDef) (log more : List LogEntry) (entry held : LogEntry) (another : held ≢ entry) where
  abbrev Before : HubState
  Before = hub_of opening log

  abbrev Long : HubState
  Long = hub_of opening (log ++ held ∷ more)

  abbrev With : HubState
  With = hub_of opening (log ++ entry ∷ [])

  last_is : (other : LogEntry) → With ≡ with_entry Before other → entry ≡ other
  last_is other same =
      same_Some entry other (sym (at_end log [] entry) ∙ ap (λ (h : HubState). slice_get h.log (length log)) same ∙ at_end log [] other)

  not_there : (push : Push) → push.head.base ≡ length log → entry ≡ entry_of_push push → IsRepeat (log ++ held ∷ more) push → ⊥
  not_there push last is repeat =
      another (same_Some held entry (sym (at_end log more held) ∙ ap (λ (n : ℕ). slice_get (log ++ held ∷ more) n) (sym last) ∙ repeat ∙ ap (λ (e : LogEntry). Some e) (sym is)))

  within_long : (push : Push) → push.head.base ≡ length log → push.head.base < length (log ++ held ∷ more)
  within_long push last = omega (arith, last, length-append log (held ∷ more))

  abbrev AsStale : Push → Type 0
  AsStale push = Pushes limit Long push (Ok (pushed.Stale (length (log ++ held ∷ more)))) Long

  stale_at : (push : Push) → (push.changes ≡ [] → ⊥) → push.head.base ≡ length log → entry ≡ entry_of_push push → AsStale push
  stale_at push some last is =
      let within = within_long push last in
      inr (some, inr (λ above. omega (arith, above, within), inr (not_there push last is, inl (within, (refl, refl)))))

  stale_push : (push : Push) (told : Result Pushed HubFault) → Pushes limit Before push told With → AsStale push
  stale_push push told (inl (g, (a, s))) = absurd (another_log opening log entry s)
  stale_push push told (inr (g, inl (h, (a, s)))) = absurd (another_log opening log entry s)
  stale_push push told (inr (g, inr (h, inl (i, (a, s))))) = absurd (another_log opening log entry s)
  stale_push push told (inr (g, inr (h, inr (i, inl (j, (a, s)))))) = absurd (another_log opening log entry s)
  stale_push push told (inr (g, inr (h, inr (i, inr (j, inl (k, (a, s))))))) = absurd (another_log opening log entry s)
  stale_push push told (inr (g, inr (h, inr (i, inr (j, inr (k, inl (l, (a, s)))))))) =
      stale_at push g (omega (arith, h, j)) (last_is (entry_of_push push) s)
  stale_push push told (inr (g, inr (h, inr (i, inr (j, inr (k, inr (l, (c, s)))))))) = absurd (another_log opening log entry s)

  abbrev TakesStale : PushHead → List ℕ → Type 0
  TakesStale head changeset = TakesBytes limit Long head changeset (Ok (pushed.Stale (length (log ++ held ∷ more)))) Long

  last_of : (push : Push) → IsLeft Before push With → push.head.base ≡ length log
  last_of push (stays same) = absurd (another_log opening log entry same)
  last_of push (grows is) = is.last

  stale_bytes : LongerLog → (head : PushHead) (changeset : List ℕ) (outcome : Outcome) → TakesBytes limit Before head changeset outcome With → TakesStale head changeset
  stale_bytes longer head changeset outcome (inl (f, at, w, a, s)) = absurd (another_log opening log entry s)
  stale_bytes longer head changeset outcome (inr (groups, fits, is, inl (f, m, u, a, s))) = absurd (another_log opening log entry s)
  stale_bytes longer head changeset outcome (inr (groups, fits, is, inr (changes, form, (told, p, o)))) =
      let push : Push = record { head = head; changes = changes } in
      let last : head.base ≡ length log = last_of push (left limit Before With push told p) in
      let there = subst (λ (t : List TableDef). IsNormalFormOf t groups changes) (sym (judged_alike longer opening log (held ∷ more) head.base last)) form in
      inr (groups, fits, is, inr (changes, there, (Ok (pushed.Stale (length (log ++ held ∷ more))), stale_push push told p, refl)))

  -- so are new columns
  widen_not_there : (asked : WidenAsked) → asked.base ≡ length log → entry ≡ entry_of_widen asked → IsWidenRepeat (log ++ held ∷ more) asked → ⊥
  widen_not_there asked last is repeat =
      another (same_Some held entry (sym (at_end log more held) ∙ ap (λ (n : ℕ). slice_get (log ++ held ∷ more) n) (sym last) ∙ repeat ∙ ap (λ (e : LogEntry). Some e) (sym is)))

  stale_widen : (asked : WidenAsked) (told : Result Pushed HubFault) → Widens limit Before asked told With → Widens limit Long asked (Ok (pushed.Stale (length (log ++ held ∷ more)))) Long
  stale_widen asked told p =
      elim (kept_or_taken limit Before With asked told p) [
        | inl kept ↦ absurd (another_log opening log entry kept)
        | inr (last, may, grown, is) ↦
            let within : asked.base < length (log ++ held ∷ more) = omega (arith, last, length-append log (held ∷ more)) in
            inr (λ above. omega (arith, above, within), inr (widen_not_there asked last (last_is (entry_of_widen asked) grown), inl (within, (refl, refl))))
      ]

  pub stale_asked : LongerLog → (asked : Result Asked WireFault) (answer : List ℕ) → AnswersAsked limit Before asked answer With
      → AnswersAsked limit Long asked (answer_spelling (Short (Stale (length (log ++ held ∷ more))))) Long
  stale_asked longer (Err fault) answer (a, s) = absurd (another_log opening log entry s)
  stale_asked longer (Ok (AsksPull first count)) answer (a, s) = absurd (another_log opening log entry s)
  stale_asked longer (Ok (AsksCatch asker first count)) answer (a, s) = absurd (another_log opening log entry s)
  stale_asked longer (Ok (AsksWiden number base width table)) answer (outcome, (told, p, o), a) =
      let asked : WidenAsked = record { number = number; base = base; table = table; width = width } in
      (Ok (pushed.Stale (length (log ++ held ∷ more))), (Ok (pushed.Stale (length (log ++ held ∷ more))), stale_widen asked told p, refl), refl)
  stale_asked longer (Ok (AsksPush head changeset)) answer (outcome, p, a) = (Ok (pushed.Stale (length (log ++ held ∷ more))), stale_bytes longer head changeset outcome p, refl)

pub stale_behind_another : LongerLog → StaleBehindAnother
stale_behind_another longer limit opening log more entry held request answer (asked, reads, answers) another =
    (asked, reads, stale_asked limit opening log more entry held another longer asked answer answers)
