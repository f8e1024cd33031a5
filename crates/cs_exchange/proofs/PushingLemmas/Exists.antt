-- A push can be made, or has a fault.
use Rattle.std.proofs.Common.{◌≡◌, ◌≢◌, ◌<◌, ◌≤◌, ◌+◌, ◌⊎◌, inl, inr, ℕ, zero, suc, cond, List, Option, Some, None, length, refl, sym, ap, ◌∙◌, arith}
use Rattle.std.specs.Prelude.{pos}
use Rattle.std.specs.FinMap.{empty, get, get-empty, get-insert, insert, len-empty}
use Rattle.std.proofs.lemmas.Bool.{cases_lt}
use Rattle.std.proofs.lemmas.Cmp.{nat_list_cmp_total}
use Rattle.cs_value.specs.Facts.{by_test}
use Rattle.cs_pending.specs.Spots.{key_is}
use Rattle.cs_store.specs.declared.log.entry.TheConstants.{MAX_CHANGESET}
use Rattle.cs_normal.specs.Normal.{normal_spelling}
use Rattle.cs_normal.specs.declared.normal.TableChanges.{TableChanges}
use Rattle.cs_order.specs.Order.{same_bytes}
use Rattle.cs_pending.specs.outgoing.Outgoing.{IsOutgoing, IsPendingOf, PendingIsOutgoing}
use Rattle.cs_pending.specs.declared.outgoing.gathering.Outgoing.{Outgoing}
use Rattle.cs_pending.specs.declared.outgoing.gathering.Outgoing.TheVariants as outgoing
use Rattle.cs_pending.specs.View.{View}
use Rattle.cs_pending.specs.position.Shows.{ShowsAt}
use Rattle.cs_pending.specs.position.Values.{flight_bytes, value_of}
use Rattle.cs_pending.specs.declared.position.position.Position.{Position}
use Rattle.cs_pending.specs.declared.position.position.TheConstants.{LAST_NUMBER}
use Rattle.cs_exchange.specs.pushing.Laws.{IsOfPush, MadeOrPushFault}
use Rattle.cs_exchange.specs.pushing.Pushes.{IsPushFault, IsPushMade, grounded, pushed}
use Rattle.cs_exchange.specs.declared.pushing.fault.PushFault.{PushFault}
use Rattle.cs_exchange.specs.declared.pushing.fault.PushFault.TheVariants.{InFlight, Nothing, Spent, TooLarge}
use Rattle.cs_exchange.proofs.PushingLemmas.Confirmed.{sound_nothing}
use Rattle.cs_exchange.proofs.PushingLemmas.Counted.{nothing_there, something_there}
use Rattle.cs_exchange.proofs.PushingLemmas.Pushed.{log_rows_stay, under_way}
use Rattle.cs_store.specs.Contents.{Contents, Meta, meta_value, name_text, place_cmp}
use Rattle.cs_store.specs.Whole.{IsName}
use Rattle.cs_store.specs.declared.names.MetaName.{MetaName}
use Rattle.cs_store.specs.declared.names.MetaName.TheVariants.{Id, Version, Number, Flight, Pending, Catalog}
use Rattle.cs_value.specs.declared.catalog.TableDef.{TableDef}
use Rattle.cs_wire.specs.Numbers.{eight_bytes}

-- ---- contents after a push

abbrev number_text : List ℕ
number_text = name_text Number

abbrev flight_text : List ℕ
flight_text = name_text Flight

module _ (contents : Contents) (position : Position) (changes : List TableChanges) where
  abbrev left_meta : Meta
  left_meta = insert (insert contents.meta number_text (eight_bytes (position.number + 1))) flight_text (flight_bytes (position.number + 1) changes)

  abbrev left : Contents
  left = record contents { pending = empty; meta = left_meta }

  left_value : (name : List ℕ)
      → get left_meta name ≡ cond (same_bytes name flight_text) (Some (flight_bytes (position.number + 1) changes)) (cond (same_bytes name number_text) (Some (eight_bytes (position.number + 1))) (get contents.meta name))
  left_value name =
      get-insert nat_list_cmp_total (insert contents.meta number_text (eight_bytes (position.number + 1))) flight_text (flight_bytes (position.number + 1) changes) name
      ∙ ap (cond (same_bytes name flight_text) (Some (flight_bytes (position.number + 1) changes))) (get-insert nat_list_cmp_total contents.meta number_text (eight_bytes (position.number + 1)) name)

  module _ (tables : List TableDef) (view : View) (shows : ShowsAt tables contents position view) (is : IsPendingOf tables view.pending changes) (small : length (normal_spelling changes) ≤ MAX_CHANGESET) where
    named_so : (name : MetaName) → meta_value left name ≡ value_of tables (pushed position changes) name
    named_so Id = left_value (name_text Id) ∙ shows.values Id
    named_so Version = left_value (name_text Version) ∙ shows.values Version
    named_so Number = left_value (name_text Number)
    named_so Flight = left_value (name_text Flight)
    named_so Pending = left_value (name_text Pending) ∙ shows.values Pending
    named_so Catalog = left_value (name_text Catalog) ∙ shows.values Catalog

    ours : (name value : List ℕ) → get left_meta name ≡ Some value → IsName name
    ours name value found =
        by_test (same_bytes name flight_text) _
        (λ t. (Flight, key_is name flight_text t))
        (λ t. by_test (same_bytes name number_text) _
        (λ u. (Number, key_is name number_text u))
        (λ u. shows.alone.names name value (let e = sym (left_value name) ∙ found in rw (t, u) at e)))

    left_shows : position.number < LAST_NUMBER → ShowsAt tables left (pushed position changes) (grounded view)
    left_shows more = record {
      rows = record {
        rows = record { rows = shows.rows.rows.rows; stored = shows.rows.rows.stored };
        pends = record { stored = λ n t k at. get-empty place_cmp (pos n, k); fits = λ t k inside. tt };
        sound = sound_nothing tables view.tables shows.rows.sound.after_state;
      };
      values = named_so;
      alone = record { rows = shows.alone.rows; pending = λ place elsewhere. get-empty place_cmp place; log = shows.alone.log; names = ours };
      under_way = under_way tables view changes shows.rows.sound is small;
      counted = sym (len-empty place_cmp (List ℕ));
      numbered = omega (arith, more);
    }

    left_made : position.pending ≢ 0 → position.flight ≡ None → position.number < LAST_NUMBER → IsPushMade tables position view left changes
    left_made some none more = record {
      something = something_there tables contents position view shows some;
      none_under_way = none;
      number = more;
      pending = is;
      shows = left_shows more;
      log_rows = log_rows_stay tables view changes shows.rows.sound is position.flight none;
    }

-- ---- how a push can end

module _ (tables : List TableDef) (contents : Contents) (position : Position) (view : View) (shows : ShowsAt tables contents position view) where
  abbrev CanEnd : Type 0
  CanEnd =
      ((changes : List TableChanges) × (new : Contents) × IsPushMade tables position view new changes)
      ⊎ ((fault : PushFault) × IsOfPush fault × IsPushFault fault tables position view)

  sends : position.pending ≢ 0 → position.flight ≡ None → position.number < LAST_NUMBER → (answer : Outgoing) → IsOutgoing tables view.pending answer → CanEnd
  sends some none more outgoing.Nothing is = absurd (something_there tables contents position view shows some is)
  sends some none more outgoing.TooLarge is = inr (TooLarge, ((λ e. (let no = e in cc)), (λ e. (let no = e in cc))), (something_there tables contents position view shows some, none, more, is))
  sends some none more (outgoing.Changes changes) (is, some_changes, small) =
      inl (changes, left contents position changes, left_made contents position changes tables view shows is small some none more)

  counts : position.pending ≢ 0 → position.flight ≡ None → (answer : Outgoing) → IsOutgoing tables view.pending answer → CanEnd
  counts some none answer is =
      elim (cases_lt position.number LAST_NUMBER) [
        | inl more ↦ sends some none more answer is
        | inr last ↦ inr (Spent, ((λ e. (let no = e in cc)), (λ e. (let no = e in cc))), (something_there tables contents position view shows some, none, omega (arith, last, shows.numbered)))
      ]

  flies : position.pending ≢ 0 → (flight : Option (List TableChanges)) → position.flight ≡ flight → (answer : Outgoing) → IsOutgoing tables view.pending answer → CanEnd
  flies some None is answer out = counts some is answer out
  flies some (Some changes) is answer out =
      inr (InFlight, ((λ e. (let no = e in cc)), (λ e. (let no = e in cc))), (something_there tables contents position view shows some, rw is refl))

  ends : (pending : ℕ) → position.pending ≡ pending → (answer : Outgoing) → IsOutgoing tables view.pending answer → CanEnd
  ends zero is answer out = inr (Nothing, ((λ e. (let no = e in cc)), (λ e. (let no = e in cc))), nothing_there tables contents position view shows is)
  ends (suc pending) is answer out = flies (λ none. absurd (omega (arith, is, none))) position.flight refl answer out

pub made_or_push_fault : PendingIsOutgoing → MadeOrPushFault
made_or_push_fault law tables contents position view are named shows =
    let answer = law tables contents view are named shows.rows in
    ends tables contents position view shows position.pending refl answer.0 answer.1
