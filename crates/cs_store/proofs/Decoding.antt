-- What the bodies of a log decode to.
use Rattle.std.proofs.Common.{◌≡◌, ℕ, zero, suc, ◌+◌, ◌-◌, ◌<◌, ◌≤◌, Bool, true, false, cond, ◌&&◌, List, [], ◌∷◌, ◌++◌, map, Option, Some, None, is_some, refl, sym, ap, subst, ◌∙◌, T, arith}
use Rattle.std.specs.Prelude.{ℤ, pos, negsuc, IsSome, nat_lt}
use Rattle.std.specs.declared.cmp.Ordering.TheVariants.{Less, Equal, Greater}
use Rattle.std.specs.Cmp.{Equal-is, eq_by_cmp_equiv}
use Rattle.std.specs.FinMap.{contains_key, empty_of_len, entries, entries-from_sorted, find, from_sorted, get, get-empty, get-from_sorted, get-remove, is_sorted, len, len-remove, remove, same_map}
use Rattle.std.specs.FinMap.Entries.{below_all}
use Rattle.std.specs.Ordering.{eq_by_cmp, int_cmp, is_lt}
use Rattle.std.proofs.Math.Dec.{ltb}
use Rattle.std.proofs.lemmas.Bool.{lt-ltb}
use Rattle.std.proofs.lemmas.Bool.Decides.{nat_tests}
use Rattle.std.proofs.lemmas.Cmp.{int_cmp_total}
use Rattle.std.proofs.lemmas.Map.Lookups.{exact_signed}
use Rattle.cs_value.specs.Catalog.{AreTables}
use Rattle.cs_value.specs.Facts.{by_test}
use Rattle.cs_value.specs.declared.catalog.TableDef.{TableDef}
use Rattle.cs_widening.specs.Laws.{WidenedAreTables}
use Rattle.cs_store.specs.log.Entry.{MayWiden}
use Rattle.cs_store.specs.log.Laws.{OneBody}
use Rattle.cs_store.specs.log.Log.{catalog_after, catalog_next}
use Rattle.cs_store.specs.Contents.{Contents, HasEachEntry, Log, LogItem, entry_before, log_count, log_entry, log_range}
use Rattle.cs_store.specs.Whole.{Decodes}
use Rattle.cs_store.specs.WholeLaws.{BodiesInOrder, DecodesOn, LogDecodes, OnePresent, PresentAreTables, RefusedOn}
use Rattle.cs_store.specs.declared.log.body.Body.{Body}
use Rattle.cs_store.specs.declared.log.body.Body.TheVariants.{Changes, Widen}

-- the tables behind a body are a catalog
next_tables : WidenedAreTables → (tables : List TableDef) (body : Body) → AreTables tables → MayWiden tables body → AreTables (catalog_after tables body)
next_tables wide tables (Changes changes) are may = are
next_tables wide tables (Widen table width) are may = wide tables table width are may

pub one_present : OneBody → WidenedAreTables → OnePresent
one_present body wide opening some other [] are is its = is ∙ sym its
one_present body wide opening some other (bytes ∷ more) are (a, fits, is, rest) (b, its, same, others) =
    let one : a ≡ b = body opening a b are fits.changes its.changes fits.widens its.widens (sym is ∙ same) in
    one_present body wide (catalog_after opening b) some other more (next_tables wide opening b are its.widens)
    (subst (λ (x : Body). Decodes (catalog_after opening x) more some) one rest) others

pub present_are_tables : WidenedAreTables → PresentAreTables
present_are_tables wide opening present [] are is = subst AreTables (sym is) are
present_are_tables wide opening present (bytes ∷ more) are (body, fits, is, rest) = present_are_tables wide (catalog_after opening body) present more (next_tables wide opening body are fits.widens) rest

abbrev InTwo : List TableDef → List TableDef → List (List ℕ) → List (List ℕ) → Type 0
InTwo opening present bodies more = (middle : List TableDef) × Decodes opening bodies middle × Decodes middle more present

in_two : (opening present : List TableDef) (bodies more : List (List ℕ)) → Decodes opening (bodies ++ more) present → InTwo opening present bodies more
in_two opening present [] more all = (opening, refl, all)
in_two opening present (bytes ∷ bodies) more (body, fits, is, rest) =
    let parts = in_two (catalog_after opening body) present bodies more rest in (parts.0, (body, fits, is, parts.1), parts.2)

joined : (opening present middle : List TableDef) (bodies more : List (List ℕ)) → Decodes opening bodies middle → Decodes middle more present → Decodes opening (bodies ++ more) present
joined opening present middle [] more is rest = subst (λ (t : List TableDef). Decodes t more present) is rest
joined opening present middle (bytes ∷ bodies) more (body, fits, is, front) rest = (body, fits, is, joined (catalog_after opening body) present middle bodies more front rest)

pub decodes_on : DecodesOn
decodes_on opening present bodies more = (in_two opening present bodies more, λ parts. joined opening present parts.0 bodies more parts.1 parts.2)

pub refused_on : OneBody → WidenedAreTables → RefusedOn
refused_on body wide opening middle present front bytes more are is never end all =
    let parts = in_two opening end front (bytes ∷ more) all in
    let same : parts.0 ≡ middle = one_present body wide opening parts.0 middle front are parts.1 is in
    let next : Decodes middle (bytes ∷ more) end = subst (λ (t : List TableDef). Decodes t (bytes ∷ more) end) same parts.2 in
    never (catalog_after middle next.0) (next.0, next.1, next.2, refl)

pub log_decodes : LogDecodes
log_decodes opening [] each = refl
log_decodes opening (entry ∷ log) each = (entry.body, each 0 entry refl, refl, log_decodes (catalog_next opening entry) log (λ version other is. each (suc version) other is))

-- ---- a log has no entry but those below its count, where all of these are there

apart : (z k : ℤ) → (z ≡ k → ⊥) → eq_by_cmp int_cmp z k ≡ false
apart z k never =
    by_test (eq_by_cmp int_cmp z k) _ (λ t. absurd (never (exact_signed z k ((Equal-is (int_cmp z k)).0 t)))) (λ t. t)

same_key : (z : ℤ) → eq_by_cmp int_cmp z z ≡ true
same_key z = (eq_by_cmp_equiv int_cmp_total).refl z

same_place : (v n : ℕ) → pos v ≡ pos n → v ≡ n
same_place v n e = cc

still_there : (log : Log) (k z : ℤ) → (z ≡ k → ⊥) → get (remove log k) z ≡ get log z
still_there log k z never =
    get-remove int_cmp_total log k z ∙ ap (λ (b : Bool). cond b None (get log z)) (apart z k never)

one_at_least : (log : Log) (z : ℤ) (item : LogItem) → get log z ≡ Some item → len log ≡ 0 → ⊥
one_at_least log z item e none =
    absurd (let no = sym e ∙ ap (λ (l : Log). get l z) (empty_of_len log none) ∙ get-empty int_cmp z in cc)

one_less : (log : Log) (z : ℤ) (item : LogItem) → get log z ≡ Some item → len (remove log z) + 1 ≡ len log
one_less log z item e =
    let some : contains_key log z ≡ true = ap is_some e in
    let less : len (remove log z) ≡ len log - 1 = len-remove int_cmp_total log z ∙ ap (λ (b : Bool). cond b (len log - 1) (len log)) some in
    let least = one_at_least log z item e in
    omega (arith, less, least)

other_version : (v n : ℕ) → v < n → pos v ≡ pos n → ⊥
other_version v n less e = let same = same_place v n e in omega (arith, less, same)

some_item : (o : Option LogItem) → IsSome o → (item : LogItem) × (o ≡ Some item)
some_item None is = absurd (let no = is in cc)
some_item (Some item) is = (item, refl)

at_least : (n : ℕ) (log : Log) → ((v : ℕ) → v < n → IsSome (get log (pos v))) → n ≤ len log
at_least zero log all = omega arith
at_least (suc n) log all =
    let here = some_item (get log (pos n)) (all n (omega arith)) in
    let fewer = at_least n (remove log (pos n)) (λ v less. subst (λ (o : Option LogItem). IsSome o) (sym (still_there log (pos n) (pos v) (other_version v n less))) (all v (omega (arith, less)))) in
    let one = one_less log (pos n) here.0 here.1 in
    omega (arith, fewer, one)

none_at : (o : Option LogItem) → ((item : LogItem) → o ≡ Some item → ⊥) → o ≡ None
none_at None never = refl
none_at (Some item) never = absurd (never item refl)

none_else : (log : Log) (n : ℕ) → ((v : ℕ) → v < n → IsSome (get log (pos v))) → len log ≡ n → (z : ℤ) → ((v : ℕ) → v < n → pos v ≡ z → ⊥) → get log z ≡ None
none_else log n all long z never = none_at (get log z) (λ item e.
    let fewer = at_least n (remove log z) (λ v less. subst (λ (o : Option LogItem). IsSome o) (sym (still_there log z (pos v) (never v less))) (all v less)) in
    let one = one_less log z item e in
    absurd (omega (arith, fewer, one, long)))

-- ---- entries with their versions

abbrev numbered : ℕ → List LogItem → List (ℤ × LogItem)
numbered n [] = []
numbered n (item ∷ items) = (pos n, item) ∷ numbered (n + 1) items

their_bodies : (n : ℕ) (items : List LogItem) → map (λ (entry : ℤ × LogItem). entry.1.body) (numbered n items) ≡ map (λ (item : LogItem). item.body) items
their_bodies n [] = refl
their_bodies n (item ∷ items) = ap (λ (rest : List (List ℕ)). item.body ∷ rest) (their_bodies (n + 1) items)

both : (a b : Bool) → T a → T b → T (a && b)
both true b p q = q
both false b p q = p

rises : (a b : ℕ) → a < b → T (is_lt (int_cmp (pos a) (pos b)))
rises a b less = subst (λ (l : Bool). T (is_lt (cond l Less (cond (ltb b a) Greater Equal)))) (sym (lt-ltb a b less)) tt

behind : (k n : ℕ) (items : List LogItem) → k < n → T (below_all int_cmp (pos k) (numbered n items))
behind k n [] less = tt
behind k n (item ∷ items) less = both _ _ (rises k n less) (behind k (n + 1) items (omega (arith, less)))

sorted : (n : ℕ) (items : List LogItem) → T (is_sorted int_cmp (numbered n items))
sorted n [] = tt
sorted n (item ∷ items) = both _ _ (behind n (n + 1) items (omega arith)) (sorted (n + 1) items)

module _ (contents : Contents) where
  abbrev Each : ℕ → ℕ → Type 0
  Each first end = (version : ℕ) → first ≤ version → version < end → IsSome (log_entry contents version)

  -- what is found among them is what stands there
  found : (count first v : ℕ) → Each first (first + count) → first ≤ v → v < first + count → find int_cmp (pos v) (numbered first (log_range contents first count)) ≡ log_entry contents v
  found zero first v all least most = absurd (omega (arith, least, most))
  found (suc count) first v all least most =
      let here = some_item (log_entry contents first) (all first (omega arith) (omega arith)) in
      subst (λ (o : Option LogItem). find int_cmp (pos v) (numbered first (entry_before o (log_range contents (first + 1) count))) ≡ log_entry contents v) (sym here.1)
      (by_test (nat_lt first v) _
      (λ t.
      let less : first < v = grind (arith, nat_tests) in
      ap (λ (b : Bool). cond b (Some here.0) (find int_cmp (pos v) (numbered (first + 1) (log_range contents (first + 1) count)))) (apart (pos v) (pos first) (λ e. let same = same_place v first e in omega (arith, less, same)))
      ∙ found count (first + 1) v (λ version low high. all version (omega (arith, low)) (omega (arith, high))) (omega (arith, less)) (omega (arith, most)))
      (λ t.
      let not_less : v ≤ first = grind (arith, nat_tests) in
      let same : v ≡ first = omega (arith, not_less, least) in
      ap (λ (b : Bool). cond b (Some here.0) (find int_cmp (pos v) (numbered (first + 1) (log_range contents (first + 1) count)))) (subst (λ (n : ℕ). eq_by_cmp int_cmp (pos v) (pos n) ≡ true) same (same_key (pos v)))
      ∙ sym here.1 ∙ ap (λ (n : ℕ). log_entry contents n) (sym same)))

  missing : (count first : ℕ) (z : ℤ) → Each first (first + count) → ((v : ℕ) → v < first + count → pos v ≡ z → ⊥) → find int_cmp z (numbered first (log_range contents first count)) ≡ None
  missing zero first z all never = refl
  missing (suc count) first z all never =
      let here = some_item (log_entry contents first) (all first (omega arith) (omega arith)) in
      subst (λ (o : Option LogItem). find int_cmp z (numbered first (entry_before o (log_range contents (first + 1) count))) ≡ None) (sym here.1)
      (ap (λ (b : Bool). cond b (Some here.0) (find int_cmp z (numbered (first + 1) (log_range contents (first + 1) count)))) (apart z (pos first) (λ e. never first (omega arith) (sym e)))
      ∙ missing count (first + 1) z (λ version low high. all version (omega (arith, low)) (omega (arith, high))) (λ v less. never v (omega (arith, less))))

  module _ (each : HasEachEntry contents) where
    abbrev items : List LogItem
    items = log_range contents 0 (log_count contents)

    all_there : Each 0 (0 + log_count contents)
    all_there version low high = each version (omega (arith, high))

    at_no_version : (z : ℤ) → ((v : ℕ) → v < log_count contents → pos v ≡ z → ⊥) → get contents.log z ≡ find int_cmp z (numbered 0 items)
    at_no_version z never = none_else contents.log (log_count contents) each refl z never ∙ sym (missing (log_count contents) 0 z all_there (λ v less. never v (omega (arith, less))))

    at_each : (z : ℤ) → get contents.log z ≡ find int_cmp z (numbered 0 items)
    at_each (pos v) = by_test (nat_lt v (log_count contents)) _
        (λ t. let less : v < log_count contents = grind (arith, nat_tests) in sym (found (log_count contents) 0 v all_there (omega arith) (omega (arith, less))))
        (λ t. let most : log_count contents ≤ v = grind (arith, nat_tests) in at_no_version (pos v) (λ w less e. let same = same_place w v e in omega (arith, less, most, same)))
    at_each (negsuc v) = at_no_version (negsuc v) (λ w less e. absurd (let no = e in cc))

    is_numbered : contents.log ≡ from_sorted (numbered 0 items)
    is_numbered = same_map int_cmp_total exact_signed contents.log (from_sorted (numbered 0 items)) (λ z. at_each z ∙ sym (get-from_sorted int_cmp (numbered 0 items) z (sorted 0 items)))

    bodies : map (λ (entry : ℤ × LogItem). entry.1.body) (entries contents.log) ≡ map (λ (item : LogItem). item.body) items
    bodies = ap (λ (log : Log). map (λ (entry : ℤ × LogItem). entry.1.body) (entries log)) is_numbered
        ∙ ap (map (λ (entry : ℤ × LogItem). entry.1.body)) (entries-from_sorted int_cmp (numbered 0 items) (sorted 0 items))
        ∙ their_bodies 0 items

pub bodies_in_order : BodiesInOrder
bodies_in_order contents each = bodies contents each
