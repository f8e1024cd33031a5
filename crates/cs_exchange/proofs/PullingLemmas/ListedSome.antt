-- A list of entries has a result, and there is what it leaves.
use Rattle.std.proofs.Common.{◌≡◌, ◌<◌, ◌≤◌, ◌+◌, ◌⊎◌, ◌++◌, ℕ, zero, suc, List, [], ◌∷◌, drop, get_or, length, take, Option, Some, None, Result, Ok, Err, refl, sym, ap, subst, ◌∙◌, arith, inl, inr}
use Rattle.std.specs.Prelude.{◌-◌, ◌^◌, slice_get}
use Rattle.std.specs.FinMap.{len}
use Rattle.std.specs.Int.{from_be_bytes, w32}
use Rattle.std.specs.List.{AllByRecursion}
use Rattle.std.proofs.lemmas.Nat.{be_bytes_4, from_be_bytes-to_be_bytes_4}
use Rattle.std.proofs.lemmas.Bool.{cases_lt}
use Rattle.std.proofs.lemmas.Option.{same_Some, slice_get_within}
use Rattle.cs_varint.specs.Bytes.{AreBytes}
use Rattle.cs_value.specs.Catalog.{AreTables}
use Rattle.cs_value.specs.Decided.{OrNot}
use Rattle.cs_value.specs.declared.catalog.TableDef.{TableDef}
use Rattle.cs_normal.specs.declared.normal.TableChanges.{TableChanges}
use Rattle.cs_normal.specs.Normal.{IsNormalChangeset}
use Rattle.cs_store.specs.log.Entry.{MayWiden, changes_of_body, kind_of, widen_spelling}
use Rattle.cs_store.specs.log.Laws.{NextOrNot}
use Rattle.cs_store.specs.log.Log.{catalog_after}
use Rattle.cs_store.specs.declared.log.body.Body.{Body}
use Rattle.cs_store.specs.declared.log.body.Body.TheVariants.{Changes, Widen}
use Rattle.cs_store.specs.declared.log.entry.LogEntry.{LogEntry}
use Rattle.cs_store.specs.Contents.{Contents}
use Rattle.cs_conflict.specs.declared.clash.Clash.{Clash}
use Rattle.cs_conflict.specs.declared.wish.Wish.{Wish}
use Rattle.cs_pending.specs.View.{View}
use Rattle.cs_pending.specs.position.Shows.{ShowsAt}
use Rattle.cs_pending.specs.declared.position.position.Position.{Position}
use Rattle.cs_exchange.specs.taking.Laws.{AnswersLawfully}
use Rattle.cs_exchange.specs.taking.Takes.{taken}
use Rattle.cs_wire.specs.Entries.{ToldEntry}
use Rattle.cs_exchange.specs.pulling.Laws.{FormOrNot, IsOfEntry, IsOfList, ListHasResult, OneRead, PulledOrRefused, ReadOrNot}
use Rattle.cs_exchange.specs.pulling.Listed.{Ends, IsToldAt, PullsList, PullsMany, count_of}
use Rattle.cs_exchange.specs.pulling.Pulls.{IsBad, IsPullFault, IsPulledIn, PullsOne}
use Rattle.cs_exchange.specs.pulling.Told.{IsFormOf, IsReadAs, IsReadBody}
use Rattle.cs_exchange.specs.declared.pulling.fault.AnswerFault.{AnswerFault}
use Rattle.cs_exchange.specs.declared.pulling.fault.AnswerFault.TheVariants as list
use Rattle.cs_exchange.specs.declared.pulling.fault.PullFault.{PullFault}
use Rattle.cs_exchange.specs.declared.pulling.fault.PullFault.TheVariants.{Memory, Behind, Gap, BadEntry, Stopped, Device}
use Rattle.cs_exchange.specs.declared.pulling.listing.Pulled.{Pulled}
use Rattle.cs_exchange.specs.declared.pulling.listing.Pulled.TheVariants as pulled
use Rattle.cs_widening.specs.Laws.{WidenedAreTables}
use Rattle.cs_exchange.proofs.PullingLemmas.Bodies.{may_or_not, next_tables}
use Rattle.cs_exchange.proofs.PullingLemmas.PulledSome.{same_number}

-- ---- one entry is read, or can't be

-- bytes are a number of columns and a name, or they are too short
module _ (next_or_not : NextOrNot) (tables : List TableDef) where
  abbrev Widens : List ℕ → Type 0
  Widens bytes =
      ((table : List ℕ) × (width : ℕ) × IsReadBody tables bytes (Widen table width)) ⊎ ((table : List ℕ) (width : ℕ) → IsReadBody tables bytes (Widen table width) → ⊥)

  too_short : (bytes : List ℕ) → length bytes < 4 → (table : List ℕ) (width : ℕ) → IsReadBody tables bytes (Widen table width) → ⊥
  too_short bytes short table width is = let long = ap length is.1 in absurd (omega (arith, short, long))

  -- the number in the first bytes, and the rest
  module _ (a b c d : ℕ) (rest : List ℕ) (small : AreBytes (a ∷ b ∷ c ∷ d ∷ rest)) where
    abbrev front : List ℕ
    front = a ∷ b ∷ c ∷ d ∷ []

    front_small : (i : ℕ) → get_or front i 0 < 256
    front_small zero = small 0
    front_small (suc zero) = small 1
    front_small (suc (suc zero)) = small 2
    front_small (suc (suc (suc zero))) = small 3
    front_small (suc (suc (suc (suc i)))) = omega arith

    spelled : a ∷ b ∷ c ∷ d ∷ rest ≡ widen_spelling rest (from_be_bytes w32 front)
    spelled = ap (λ (f : List ℕ). f ++ rest) (sym (be_bytes_4 front (from_be_bytes w32 front) refl front_small refl))

    told : (table : List ℕ) (width : ℕ) → width < 2 ^ 32 → a ∷ b ∷ c ∷ d ∷ rest ≡ widen_spelling table width → (table ≡ rest) × (width ≡ from_be_bytes w32 front)
    told table width fits is = (
      sym (ap (λ (bs : List ℕ). drop 4 bs) is),
      sym (from_be_bytes-to_be_bytes_4 width fits) ∙ ap (λ (bs : List ℕ). from_be_bytes w32 (take 4 bs)) (sym is),
    )

    by_may : OrNot (MayWiden tables (Widen rest (from_be_bytes w32 front))) → Widens (a ∷ b ∷ c ∷ d ∷ rest)
    by_may (inl may) = inl (rest, from_be_bytes w32 front, (may, spelled))
    by_may (inr never) =
        inr (λ table width is.
        let same = told table width (let most = is.0.4 in omega (arith, most)) is.1 in
        never (subst (λ (n : List ℕ). MayWiden tables (Widen n (from_be_bytes w32 front))) same.0 (subst (λ (w : ℕ). MayWiden tables (Widen table w)) same.1 is.0)))

  wide_or_not : (bytes : List ℕ) → AreBytes bytes → Widens bytes
  wide_or_not [] small = inr (too_short [] (omega arith))
  wide_or_not (a ∷ []) small = inr (too_short (a ∷ []) (omega arith))
  wide_or_not (a ∷ b ∷ []) small = inr (too_short (a ∷ b ∷ []) (omega arith))
  wide_or_not (a ∷ b ∷ c ∷ []) small = inr (too_short (a ∷ b ∷ c ∷ []) (omega arith))
  wide_or_not (a ∷ b ∷ c ∷ d ∷ rest) small = by_may a b c d rest small (may_or_not next_or_not tables rest (from_be_bytes w32 (a ∷ b ∷ c ∷ d ∷ [])))

module _ (forms : FormOrNot) (next_or_not : NextOrNot) (tables : List TableDef) (told : ToldEntry) (are : AreTables tables) (small : AreBytes told.body) where
  abbrev Reads : Type 0
  Reads = ((entry : LogEntry) × IsReadAs tables told entry) ⊎ ((entry : LogEntry) → IsReadAs tables told entry → ⊥)

  read_as : (body : Body) → told.kind ≡ kind_of body → IsReadBody tables told.body body → Reads
  read_as body kind read = inl (record { origin = told.origin; number = told.number; body = body }, record { kind = kind; origin = refl; number = refl; read = read })

  not_read : ((body : Body) → told.kind ≡ kind_of body → IsReadBody tables told.body body → ⊥) → Reads
  not_read none = inr (λ entry read. none entry.body read.kind read.read)

  by_form : told.kind ≡ 0 → ((changes : List TableChanges) × IsFormOf tables told.body changes) ⊎ ((changes : List TableChanges) → IsFormOf tables told.body changes → ⊥) → Reads
  by_form kind (inl (changes, form)) = read_as (Changes changes) kind form
  by_form kind (inr none) = not_read no
    where
      no : (body : Body) → told.kind ≡ kind_of body → IsReadBody tables told.body body → ⊥
      no (Changes changes) is read = none changes read
      no (Widen table width) is read = let wrong = sym kind ∙ is in cc

  by_wide : told.kind ≡ 1 → ((table : List ℕ) × (width : ℕ) × IsReadBody tables told.body (Widen table width)) ⊎ ((table : List ℕ) (width : ℕ) → IsReadBody tables told.body (Widen table width) → ⊥) → Reads
  by_wide kind (inl (table, width, read)) = read_as (Widen table width) kind read
  by_wide kind (inr none) = not_read no
    where
      no : (body : Body) → told.kind ≡ kind_of body → IsReadBody tables told.body body → ⊥
      no (Changes changes) is read = let wrong = sym kind ∙ is in cc
      no (Widen table width) is read = none table width read

  by_kinds : OrNot (told.kind ≡ 0) → OrNot (told.kind ≡ 1) → Reads
  by_kinds (inl zero_is) one = by_form zero_is (forms tables told.body are small)
  by_kinds (inr other) (inl one_is) = by_wide one_is (wide_or_not next_or_not tables told.body small)
  by_kinds (inr other) (inr neither) = not_read no
    where
      no : (body : Body) → told.kind ≡ kind_of body → IsReadBody tables told.body body → ⊥
      no (Changes changes) is read = other is
      no (Widen table width) is read = neither is

pub read_or_not : FormOrNot → NextOrNot → ReadOrNot
read_or_not forms next_or_not tables told are small = by_kinds forms next_or_not tables told are small (same_number told.kind 0) (same_number told.kind 1)

-- ---- one after another

bytes_at : (xs : List ToldEntry) → AllByRecursion (λ (told : ToldEntry). AreBytes told.body) xs → (at : ℕ) (told : ToldEntry) → slice_get xs at ≡ Some told → AreBytes told.body
bytes_at [] all at told is = absurd cc
bytes_at (x ∷ xs) all zero told is = subst (λ (t : ToldEntry). AreBytes t.body) (same_Some _ _ is) all.0
bytes_at (x ∷ xs) all (suc at) told is = bytes_at xs all.1 at told is

-- the changes of what is read are in normal form
pub read_normal : (tables : List TableDef) (bytes : List ℕ) (body : Body) → IsReadBody tables bytes body → IsNormalChangeset (changes_of_body body)
read_normal tables bytes (Changes changes) read = read.form.normal
read_normal tables bytes (Widen table width) read = tt

module _ (one_read : OneRead) (reads : ReadOrNot) {P : Type 0} (picks : P → Clash → Wish → P → Type 0) (is_ready : P → Type 0) (pulls : PulledOrRefused picks is_ready) (wide_tables : WidenedAreTables) (first : ℕ) (entries : List ToldEntry)
    (bytes : AllByRecursion (λ (told : ToldEntry). AreBytes told.body) entries) (answers : AnswersLawfully picks is_ready) where
  abbrev Ended : List TableDef → Position → View → P → Type 0
  Ended tables position before p =
      (result : Result Pulled AnswerFault) × (others : List TableDef) × (other : Position) × (new : Contents) × (q : P) × IsOfList result × PullsList picks first entries result tables position before p others other new q

  -- none is pulled
  at_once : (tables : List TableDef) (result : Result Pulled AnswerFault) → IsOfList result → count_of result ≡ 0 → (position : Position) (store : Contents) (view : View) (p q : P) → ShowsAt tables store position view
      → Ends picks first entries result tables position view p q → Ended tables position view p
  unfolding PullsMany
  at_once tables result of none position store view p q shows ends = (
    result,
    tables,
    position,
    store,
    q,
    of,
    (view, p, subst (λ (n : ℕ). PullsMany picks first entries n tables position view p tables position view p) (sym none) (refl, refl, refl, refl), shows, ends),
  )

  with_one : (result : Result Pulled AnswerFault) → IsOfList result
      → (more : Result Pulled AnswerFault) × IsOfList more × (count_of more ≡ suc (count_of result))
      × ((tables : List TableDef) (position : Position) (view : View) (p q : P) → Ends picks first entries result tables position view p q → Ends picks first entries more tables position view p q)
  with_one (Ok (pulled.Taken count)) of = (Ok (pulled.Taken (suc count)), tt, refl, λ tables position view p q ends. ends)
  with_one (Ok (pulled.Stopped count)) of = (Ok (pulled.Stopped (suc count)), tt, refl, λ tables position view p q ends. ends)
  with_one (Err (list.Memory count)) of = absurd of
  with_one (Err (list.Device count)) of = absurd of
  with_one (Err (list.BadEntry count)) of = (Err (list.BadEntry (suc count)), tt, refl, λ tables position view p q ends. ends)

  -- one is pulled before the others
  behind_one : (tables : List TableDef) (position : Position) (view : View) (p : P) (told : ToldEntry) (entry : LogEntry) (pending : ℕ) (left : Contents) (next : View) (between : P) → IsToldAt first entries position.version told → IsReadAs tables told entry
      → PullsOne picks tables position entry view p next between → ShowsAt (catalog_after tables entry.body) left (taken position pending) next → Ended (catalog_after tables entry.body) (taken position pending) next between
      → Ended tables position view p
  unfolding PullsMany
  behind_one tables position view p told entry pending left next between there read one shows (result, others, other, new, q, of, (end, among, many, shown, ends)) =
      let more = with_one result of in (
        more.0,
        others,
        other,
        new,
        q,
        more.1,
        (
          end,
          among,
          subst (λ (n : ℕ). PullsMany picks first entries n tables position view p others other end among) (sym more.2) (told, entry, pending, left, next, between, there, read, one, shows, many),
          shown,
          more.3 others other end among q ends,
        ),
      )

  -- what is told at a version
  abbrev ToldOrNone : ℕ → Type 0
  ToldOrNone version = ((told : ToldEntry) × IsToldAt first entries version told × AreBytes told.body) ⊎ ((told : ToldEntry) → IsToldAt first entries version told → ⊥)

  none_told : (version : ℕ) → first ≤ version → slice_get entries (version - first) ≡ None → (told : ToldEntry) → IsToldAt first entries version told → ⊥
  none_told version least none told is =
      let place = is.place in
      let at : is.at ≡ version - first = omega (arith, place, least) in
      let e = sym is.there ∙ ap (λ (n : ℕ). slice_get entries n) at ∙ none in
      absurd cc

  by_entry : (version : ℕ) → first ≤ version → (found : Option ToldEntry) → slice_get entries (version - first) ≡ found → ToldOrNone version
  by_entry version least None none = inr (none_told version least none)
  by_entry version least (Some told) some = inl (told, record { at = version - first; place = omega (arith, least); there = some }, bytes_at entries bytes (version - first) told some)

  by_place : (version : ℕ) → (version < first) ⊎ (first ≤ version) → ToldOrNone version
  by_place version (inl less) = inr (λ told is. let place = is.place in absurd (omega (arith, less, place)))
  by_place version (inr least) = by_entry version least (slice_get entries (version - first)) refl

  module _ (left : ℕ) (tables : List TableDef) (are : AreTables tables) (position : Position) (store : Contents) (view : View) (p : P) (enough : first + length entries ≤ position.version + suc left) (ranged : position.version < 2 ^ 64)
      (shows : ShowsAt tables store position view) (ready : is_ready p)
      (others : (wide : List TableDef) → AreTables wide → (other : Position) (new : Contents) (next : View) (q : P) → first + length entries ≤ other.version + left → other.version < 2 ^ 64 → ShowsAt wide new other next → is_ready q → Ended wide other next q) where
    module _ (told : ToldEntry) (there : IsToldAt first entries position.version told) where
      by_fault : (entry : LogEntry) → IsReadAs tables told entry → (fault : PullFault) (q : P) → IsOfEntry fault → IsPullFault picks tables position position.version entry view p q fault → Ended tables position view p
      by_fault entry read Memory q of wrong = absurd (of.0 refl)
      by_fault entry read Behind q of wrong = absurd (omega (arith, wrong.0))
      by_fault entry read Gap q of wrong = absurd (omega (arith, wrong.0))
      by_fault entry read BadEntry q of wrong =
          at_once tables (Err (list.BadEntry 0)) tt refl position store view p q shows
          (record { told = told; there = there; bad = λ other so. subst (λ (e : LogEntry). IsBad tables position e view) (one_read tables told entry other are read so) wrong.1 }, wrong.2)
      by_fault entry read (Stopped conflict) q of wrong =
          at_once tables (Ok (pulled.Stopped 0)) tt refl position store view p q shows
          (record { told = told; entry = entry; conflict = conflict; there = there; read = read; stops = wrong.1 })
      by_fault entry read Device q of wrong = absurd (of.1 refl)

      pulled_on : (entry : LogEntry) → IsReadAs tables told entry → (new : Contents) (q : P) (next : View) → ShowsAt (catalog_after tables entry.body) new (taken position (len new.pending)) next → PullsOne picks tables position entry view p next q → is_ready q → Ended tables position view p
      pulled_on entry read new q next shown (room, how) again =
          behind_one tables position view p told entry (len new.pending) new next q there read (room, how) shown
          (others (catalog_after tables entry.body) (next_tables wide_tables picks tables position view next p q are entry (room, how)) (taken position (len new.pending)) new next q (omega (arith, enough)) (omega (arith, room)) shown again)

      by_pull : (entry : LogEntry) → IsReadAs tables told entry
          → ((new : Contents) × (q : P) × (position.version ≡ position.version) × IsPulledIn picks tables position entry p q store new × is_ready q)
          ⊎ ((fault : PullFault) × (q : P) × IsOfEntry fault × IsPullFault picks tables position position.version entry view p q fault) → Ended tables position view p
      by_pull entry read (inl (new, q, same, is, again)) = let one = is view shows in pulled_on entry read new q one.0 one.1 one.2 again
      by_pull entry read (inr (fault, q, of, wrong)) = by_fault entry read fault q of wrong

      by_read : ((entry : LogEntry) × IsReadAs tables told entry) ⊎ ((entry : LogEntry) → IsReadAs tables told entry → ⊥) → Ended tables position view p
      by_read (inl (entry, read)) = by_pull entry read (pulls tables store position position.version entry view p are (read_normal tables told.body entry.body read.read) ranged shows answers ready)
      by_read (inr unread) = at_once tables (Err (list.BadEntry 0)) tt refl position store view p p shows (record { told = told; there = there; bad = λ entry read. absurd (unread entry read) }, refl)

    by_told : ToldOrNone position.version → Ended tables position view p
    by_told (inl (told, there, small)) = by_read told there (reads tables told are small)
    by_told (inr none) = at_once tables (Ok (pulled.Taken 0)) tt refl position store view p p shows (none, refl)

  -- with so many entries left at most
  ended : (left : ℕ) (tables : List TableDef) → AreTables tables → (position : Position) (store : Contents) (view : View) (p : P) → first + length entries ≤ position.version + left → position.version < 2 ^ 64 → ShowsAt tables store position view → is_ready p → Ended tables position view p
  ended zero tables are position store view p enough ranged shows ready =
      at_once tables (Ok (pulled.Taken 0)) tt refl position store view p p shows
      (λ told is. (let place = is.place in let within = slice_get_within entries is.at told is.there in absurd (omega (arith, enough, place, within))), refl)
  ended (suc left) tables are position store view p enough ranged shows ready =
      by_told left tables are position store view p enough ranged shows ready (λ wide are_wide other new next q least small shown again. ended left wide are_wide other new next q least small shown again) (by_place position.version (cases_lt position.version first))

pub list_has_result : OneRead → ReadOrNot → WidenedAreTables → {P : Type 0} (picks : P → Clash → Wish → P → Type 0) (is_ready : P → Type 0) → PulledOrRefused picks is_ready → ListHasResult picks is_ready
list_has_result one_read reads wide_tables picks is_ready pulls tables first entries old position before p are bytes ranged shows answers ready =
    ended one_read reads picks is_ready pulls wide_tables first entries bytes answers (first + length entries) tables are position old before p (omega arith) ranged shows ready
