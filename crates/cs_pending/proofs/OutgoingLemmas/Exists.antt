-- What contents show as pending has an answer.
use Rattle.std.proofs.Common.{◌≡◌, ◌+◌, ◌++◌, ◌&&◌, inl, inr, ℕ, Bool, true, false, cond, List, [], ◌∷◌, map, length, Some, T, refl, sym, subst, ◌∙◌}
use Rattle.std.specs.Prelude.{ℤ, pos, IsUtf8}
use Rattle.std.specs.FinMap.{entries, entries_sorted, find, get-entries, is_sorted}
use Rattle.std.specs.FinMap.Entries.{below_all}
use Rattle.std.specs.List.{AllByRecursion, filter}
use Rattle.std.specs.Cmp.{eq_by_cmp_equiv}
use Rattle.std.specs.Ordering.{eq_by_cmp, int_cmp, int_eq, is_eq, is_lt, ordering_then}
use Rattle.std.specs.declared.cmp.Ordering.{Ordering}
use Rattle.std.specs.declared.cmp.Ordering.TheVariants.{Less, Equal, Greater}
use Rattle.std.proofs.lemmas.Bool.{cases_lt}
use Rattle.std.proofs.lemmas.Cmp.{int_cmp_total}
use Rattle.cs_value.specs.Catalog.{AreTables}
use Rattle.cs_value.specs.declared.catalog.TableDef.{TableDef}
use Rattle.cs_store.specs.declared.log.entry.TheConstants.{MAX_CHANGESET}
use Rattle.cs_normal.specs.Laws.{CatalogIsApart, FittingIsNormal}
use Rattle.cs_normal.specs.Normal.{normal_spelling}
use Rattle.cs_normal.specs.declared.normal.TableChanges.{TableChanges}
use Rattle.cs_order.specs.Order.{by_bytes}
use Rattle.cs_store.specs.Contents.{Contents, IsListing, StorePlace, place_cmp, stored_pending}
use Rattle.cs_pending.specs.OnePlace.{contained}
use Rattle.cs_pending.specs.View.{Changed}
use Rattle.cs_pending.specs.outgoing.Outgoing.{IsOutgoing, IsPendingOf, PendingIsOutgoing}
use Rattle.cs_pending.specs.outgoing.Steps.{ArePut, listing_spelling}
use Rattle.cs_pending.specs.declared.outgoing.gathering.Outgoing.{Outgoing}
use Rattle.cs_pending.specs.declared.outgoing.gathering.Outgoing.TheVariants.{Nothing, TooLarge, Changes}
use Rattle.cs_pending.proofs.OutgoingLemmas.Gathered.{Laws, all_gathered}
use Rattle.cs_pending.proofs.OutgoingLemmas.Listed.{Listing}

-- ---- the entries of one table are a listing

abbrev pub Entry : Type 0
Entry = StorePlace × List ℕ

abbrev pub among : ℤ → List Entry → Listing
among number es = map (λ (e : Entry). (e.0.1, e.1)) (filter (λ (e : Entry). int_eq e.0.0 number) es)

-- an entry before those of others, if it is of the table
abbrev pub joined : Bool → Entry → List Entry → Listing
joined here e es = map (λ (e : Entry). (e.0.1, e.1)) (cond here (e ∷ es) es)

both : (a b : Bool) → T a → T b → T (a && b)
both true b p q = q
both false b p q = p

first : (a b : Bool) → T (a && b) → T a
first true b p = tt
first false b p = p

second : (a b : Bool) → T (a && b) → T b
second true b p = p
second false b p = absurd p

not_equal : (o r : Ordering) → is_eq o ≡ false → is_eq (ordering_then o r) ≡ false
not_equal Less r h = refl
not_equal Equal r h = absurd (let no = h in cc)
not_equal Greater r h = refl

after_equal : (o r : Ordering) → is_eq o ≡ true → ordering_then o r ≡ r
after_equal Less r h = absurd (let no = h in cc)
after_equal Equal r h = refl
after_equal Greater r h = absurd (let no = h in cc)

turned : (a b : ℤ) → int_eq a b ≡ int_eq b a
turned a b = (eq_by_cmp_equiv int_cmp_total).symm a b

abbrev pub of_table : ℤ → List Entry → List Entry
of_table number es = filter (λ (e : Entry). int_eq e.0.0 number) es

find_among : (number : ℤ) (key : List ℕ) (es : List Entry) → find by_bytes key (among number es) ≡ find place_cmp (number, key) es
find_among number key [] = refl
find_among number key (e ∷ es) =
    elim (int_eq e.0.0 number) as (λ b. int_eq e.0.0 number ≡ b → find by_bytes key (joined b e (of_table number es)) ≡ cond (eq_by_cmp place_cmp (number, key) e.0) (Some e.1) (find place_cmp (number, key) es)) [
      | true ↦ λ p. (λ i. cond (is_eq (sym (after_equal (int_cmp number e.0.0) (by_bytes key e.0.1) (turned number e.0.0 ∙ p)) i)) (Some e.1) (find_among number key es i))
      | false ↦ λ p. (λ i. cond (sym (not_equal (int_cmp number e.0.0) (by_bytes key e.0.1) (turned number e.0.0 ∙ p)) i) (Some e.1) (find_among number key es i))
    ] refl

below_among : (number : ℤ) (p : StorePlace) → int_eq p.0 number ≡ true → (es : List Entry) → T (below_all place_cmp p es) → T (below_all by_bytes p.1 (among number es))
below_among number p h [] s = tt
below_among number p h (e ∷ es) s =
    elim (int_eq e.0.0 number) as (λ b. int_eq e.0.0 number ≡ b → T (below_all by_bytes p.1 (joined b e (of_table number es)))) [
      | true ↦ λ q. both _ _
          (subst (λ o. T (is_lt o)) (after_equal (int_cmp p.0 e.0.0) (by_bytes p.1 e.0.1) ((eq_by_cmp_equiv int_cmp_total).congr p.0 number e.0.0 h ∙ turned number e.0.0 ∙ q)) (first _ _ s))
          (below_among number p h es (second _ _ s))
      | false ↦ λ q. below_among number p h es (second _ _ s)
    ] refl

among_rises : (number : ℤ) (es : List Entry) → T (is_sorted place_cmp es) → T (is_sorted by_bytes (among number es))
among_rises number [] s = tt
among_rises number (e ∷ es) s =
    elim (int_eq e.0.0 number) as (λ b. int_eq e.0.0 number ≡ b → T (is_sorted by_bytes (joined b e (of_table number es)))) [
      | true ↦ λ q. both _ _ (below_among number e.0 q es (first _ _ s)) (among_rises number es (second _ _ s))
      | false ↦ λ q. among_rises number es (second _ _ s)
    ] refl

abbrev pub listing_of : Contents → ℕ → Listing
listing_of contents number = among (pos number) (entries contents.pending)

is_listing : (contents : Contents) (number : ℕ) → IsListing (stored_pending contents number) (listing_of contents number)
is_listing contents number = record {
  rises = among_rises (pos number) (entries contents.pending) (entries_sorted contents.pending);
  found = λ key. find_among (pos number) key (entries contents.pending) ∙ sym (get-entries contents.pending (pos number, key));
}

-- ---- those of all tables can be put one behind another

all_put : (contents : Contents) (number : ℕ) (tables : List TableDef) → AllByRecursion (λ table. IsUtf8 table.name) tables → (bytes : List ℕ) × ArePut contents number tables bytes
all_put contents number [] named = ([], refl)
all_put contents number (table ∷ tables) named =
    let rest = all_put contents (number + 1) tables named.1 in
    (listing_spelling table (listing_of contents number) ++ rest.0, (listing_of contents number, rest.0, is_listing contents number, named.0, refl, rest.1))

-- ---- what is put is the answer

answer_of : (tables : List TableDef) (pending : Changed) (changes : List TableChanges) → IsPendingOf tables pending changes → (outgoing : Outgoing) × IsOutgoing tables pending outgoing
answer_of tables pending [] is = (Nothing, is)
answer_of tables pending (group ∷ groups) is =
    elim (cases_lt MAX_CHANGESET (length (normal_spelling (group ∷ groups)))) [
      | inl more ↦ (TooLarge, (group ∷ groups, is, more))
      | inr within ↦ (Changes (group ∷ groups), (is, (λ e. (let no = e in cc)), within))
    ]

pub pending_is_outgoing : ((tables : List TableDef) → AreTables tables → Laws tables) → CatalogIsApart → FittingIsNormal → PendingIsOutgoing
pending_is_outgoing laws apart fitting tables contents view are named shows =
    let put = all_put contents 0 tables named in
    let g = all_gathered tables (laws tables are) contents view shows apart fitting put.0 (contained tables) put.1 in
    answer_of tables view.pending g.0 g.1
