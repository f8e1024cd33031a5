-- A push of the same replica asks the same, or has one fault, and leaves the same replica.
use Rattle.std.proofs.Common.{◌≡◌, ◌∙◌, ◌≤◌, List, [], Option, None, Result, Ok, Err, length, refl, sym, ap, subst, arith}
use Rattle.std.specs.Prelude.{IsSome}
use Rattle.cs_store.specs.declared.log.entry.TheConstants.{MAX_CHANGESET}
use Rattle.cs_normal.specs.Normal.{normal_spelling}
use Rattle.cs_normal.specs.declared.normal.TableChanges.{TableChanges}
use Rattle.cs_pending.specs.outgoing.Outgoing.{IsPendingOf, OnePending}
use Rattle.cs_pending.specs.View.{View}
use Rattle.cs_pending.specs.position.Shows.{flown}
use Rattle.cs_pending.specs.declared.position.position.Position.{Position}
use Rattle.cs_exchange.specs.pushing.Laws.{IsOfPush, NoFaultWhereMade, OnePushFault}
use Rattle.cs_exchange.specs.pushing.Pushes.{IsPushFault, IsResendFault, grounded, pushed, request_of}
use Rattle.cs_exchange.specs.declared.pushing.fault.PushFault.{PushFault}
use Rattle.cs_exchange.specs.declared.pushing.fault.PushFault.TheVariants.{Device, InFlight, Memory, Nothing, Spent, TooLarge}
use Rattle.cs_value.specs.declared.catalog.TableDef.{TableDef}
use Rattle.cs_wire.specs.Requests.{Asked}
use Rattle.cs_replica.specs.StepLaws.{IsOfPushed, OnePushed, OneResent}
use Rattle.cs_value.specs.Catalog.{AreTables}
use Rattle.cs_replica.specs.Step.{IsAskedAgain, IsPushAsked, Member}
use Rattle.cs_replica.specs.Same.{IsSameMember, IsSameView, IsShown}
use Rattle.cs_replica.proofs.OneEdit.{at_tables, same_as, same_there, with_tables}

-- ---- what is pending, and the fault that it has

turned : (tables : List TableDef) (view seen : View) → IsSameView tables view seen → IsSameView tables seen view
turned tables view seen same = record { rows = λ n k. sym (same.rows n k); pending = λ table key inside. sym (same.pending table key inside) }

pending_as : (tables : List TableDef) (view seen : View) → IsSameView tables view seen → (changes : List TableChanges) → IsPendingOf tables seen.pending changes → IsPendingOf tables view.pending changes
pending_as tables view seen same changes is = record {
  fits = is.fits;
  normal = is.normal;
  changes_are = λ table key inside. is.changes_are table key inside ∙ same.pending table key inside;
}

fault_as : (tables : List TableDef) (view seen : View) → IsSameView tables view seen → (fault : PushFault) (position : Position) → IsPushFault fault tables position seen → IsPushFault fault tables position view
fault_as tables view seen same Memory position is = tt
fault_as tables view seen same Nothing position is = pending_as tables view seen same [] is
fault_as tables view seen same InFlight position (some, flight) = (λ nothing. some (pending_as tables seen view (turned tables view seen same) [] nothing), flight)
fault_as tables view seen same Device position is = tt
fault_as tables view seen same Spent position (some, none, last) = (λ nothing. some (pending_as tables seen view (turned tables view seen same) [] nothing), none, last)
fault_as tables view seen same TooLarge position (some, none, small, (changes, pending, large)) =
    (λ nothing. some (pending_as tables seen view (turned tables view seen same) [] nothing), none, small, (changes, pending_as tables view seen same changes pending, large))

-- ---- a push is made

module _ (before : Member) (place : Position) (seen : View) (one last : Member) (is_at : place ≡ before.position) (same : IsSameView before.tables before.view seen) where
  abbrev its : Member
  its = with_tables before place seen

  -- the fault of the same replica
  fault_of : (fault : PushFault) → IsPushFault fault before.tables place seen → IsPushFault fault before.tables before.position before.view
  fault_of fault is = fault_as before.tables before.view seen same fault before.position (subst (λ (p : Position). IsPushFault fault before.tables p seen) is_at is)

  fault_back : (fault : PushFault) → IsPushFault fault before.tables before.position before.view → IsPushFault fault before.tables place seen
  fault_back fault is =
      fault_as before.tables seen before.view (turned before.tables before.view seen same) fault place (subst (λ (p : Position). IsPushFault fault before.tables p before.view) (sym is_at) is)

  pushed_there : OnePending → OnePushFault → NoFaultWhereMade → (some other : Result Asked PushFault) → AreTables before.tables → IsOfPushed some → IsOfPushed other → IsPushAsked some before one → IsPushAsked other its last
      → (some ≡ other) × IsSameMember one last
  pushed_there pending fault made (Ok request) (Ok other) are of so (changes, left, is, makes, asks) (others, held, was, did, asked) =
      let alike : changes ≡ others = pending before.tables before.view.pending changes others are makes.pending (pending_as before.tables before.view seen same others did.pending) in
      let positions : pushed place others ≡ pushed before.position changes = ap (λ (p : Position). pushed p others) is_at ∙ ap (pushed before.position) (sym alike) in
      let requests : request_of (pushed before.position changes) changes ≡ request_of (pushed place others) others =
      ap (λ (cs : List TableChanges). request_of (pushed before.position cs) cs) alike ∙ ap (λ (p : Position). request_of (pushed p others) others) (sym is_at) in
      let both : request ≡ other = asks ∙ (requests ∙ sym asked) in (
        ap (λ (a : Asked). Ok a) both,
        same_as (record before { position = pushed before.position changes; view = grounded before.view }) (record its { position = pushed place others; view = grounded seen }) one last is was
            (record { tables = refl; position = positions; view = record { rows = same.rows; pending = λ table key inside. refl } }),
      )
  pushed_there pending fault made (Ok request) (Err why) are of so (changes, left, is, makes, asks) (stays, refused) =
      absurd (made before.tables before.position before.view left changes why are makes so (fault_of why refused))
  pushed_there pending fault made (Err why) (Ok request) are of so (stays, refused) (changes, left, is, makes, asks) =
      absurd (made before.tables place seen left changes why are makes of (fault_back why refused))
  pushed_there pending fault made (Err why) (Err other) are of so (still, refused) (stays, denied) =
      let both : why ≡ other = fault before.tables before.position before.view why other of so refused (fault_of other denied) in
      (ap (λ (f : PushFault). Err f) both, same_as before its one last still stays (same_there before place seen one last is_at same))

pub one_pushed : OnePending → OnePushFault → NoFaultWhereMade → OnePushed
one_pushed pending fault made some other before its one last are same of so is was =
    pushed_there before its.position its.view one last same.position same.view pending fault made some other are of so is
    (subst (λ (m : Member). IsPushAsked other m last) (at_tables before its same) was)

-- ---- and asked for once more

-- the one fault that it may have
nothing_resent : (fault : PushFault) (position : Position) → IsOfPush fault → length (normal_spelling (flown position.flight)) ≤ MAX_CHANGESET → IsResendFault fault position → (fault ≡ Nothing) × (position.flight ≡ None)
nothing_resent Memory position of size is = absurd (of.0 refl)
nothing_resent Nothing position of size is = (refl, is)
nothing_resent InFlight position of size is = absurd is
nothing_resent Device position of size is = absurd (of.1 refl)
nothing_resent Spent position of size is = absurd is
nothing_resent TooLarge position of size is = absurd (omega (arith, size, is))

none_flies : (flight : Option (List TableChanges)) → flight ≡ None → IsSome flight → ⊥
none_flies flight none some = let is = subst (λ (f : Option (List TableChanges)). IsSome f) none some in absurd cc

asked_once : (some other : Result Asked PushFault) (member : Member) → IsShown member → IsOfPushed some → IsOfPushed other → IsAskedAgain some member.position → IsAskedAgain other member.position → some ≡ other
asked_once (Ok request) (Ok other) member shown of so (flies, asks) (flew, asked) = ap (λ (a : Asked). Ok a) (asks ∙ sym asked)
asked_once (Ok request) (Err why) member shown of so (flies, asks) refused =
    absurd (none_flies member.position.flight (nothing_resent why member.position so shown.shows.under_way.size refused).1 flies)
asked_once (Err why) (Ok request) member shown of so refused (flies, asks) =
    absurd (none_flies member.position.flight (nothing_resent why member.position of shown.shows.under_way.size refused).1 flies)
asked_once (Err why) (Err other) member shown of so refused denied =
    ap (λ (f : PushFault). Err f)
    ((nothing_resent why member.position of shown.shows.under_way.size refused).0 ∙ sym (nothing_resent other member.position so shown.shows.under_way.size denied).0)

pub one_resent : OneResent
one_resent some other before mine shown same of so asks again =
    asked_once some other before shown of so asks (subst (λ (p : Position). IsAskedAgain other p) same.position again)
