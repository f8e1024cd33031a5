-- Who asks to catch up is told one thing, and something.
use Rattle.std.proofs.Common.{◌≡◌, ◌≢◌, ◌+◌, ◌<◌, ◌≤◌, ◌⊎◌, ℕ, zero, suc, List, [], ◌∷◌, length, map, take, refl, sym, ap, subst, ◌∙◌, arith, inl, inr}
use Rattle.std.specs.List.{All, AllByRecursion, sum_by}
use Rattle.std.proofs.lemmas.List.Elements.{All-from_recursion, All-map, recursion_from_All}
use Rattle.std.proofs.lemmas.Option.{same_Some}
use Rattle.cs_value.specs.Catalog.{AreTables}
use Rattle.cs_value.specs.declared.catalog.TableDef.{TableDef}
use Rattle.cs_group.specs.Tables.{JoinIsShort, OneJoin, SomeJoin}
use Rattle.cs_normal.specs.Normal.{FitsCatalog, IsNormalChangeset, normal_spelling}
use Rattle.cs_normal.specs.declared.normal.TableChanges.{TableChanges}
use Rattle.cs_store.specs.log.Entry.{entry_changes}
use Rattle.cs_store.specs.log.Stored.{AreChangesOf}
use Rattle.cs_store.specs.declared.log.entry.LogEntry.{LogEntry}
use Rattle.cs_store.specs.declared.log.entry.TheConstants.{MAX_CHANGESET}
use Rattle.cs_hub.specs.catching.Catches.{BeginsAlone, Catches, IsRun, IsToldAlone, MayBeOne}
use Rattle.cs_hub.specs.catching.Consolidated.{AreOne, AreShort, IsConsolidated}
use Rattle.cs_hub.specs.catching.Laws.{CatchHasAnswer, OneCatch}
use Rattle.cs_hub.specs.declared.catching.caught.Caught.{Caught}
use Rattle.cs_hub.specs.declared.catching.caught.Caught.TheVariants.{Alone, Merged}
use Rattle.cs_hub.proofs.CatchingLemmas.Leads.{one_consolidated}
use Rattle.cs_hub.proofs.CatchingLemmas.Plain.{Fits, IsPlain, all_plain, widens_or_not}

-- ---- numbers

pub le_or : (m n : ℕ) → (m ≤ n) ⊎ (n < m)
le_or zero n = inl (omega arith)
le_or (suc m) zero = inr (omega arith)
le_or (suc m) (suc n) = elim (le_or m n) [ inl h ↦ inl (omega (arith, h)) | inr h ↦ inr (omega (arith, h)) ]

same_or : (m n : ℕ) → (m ≡ n) ⊎ (m ≢ n)
same_or m n =
    elim (le_or m n) [
      | inr h ↦ inr (λ e. omega (arith, h, e))
      | inl h ↦ elim (le_or n m) [ inl k ↦ inl (omega (arith, h, k)) | inr k ↦ inr (λ e. omega (arith, k, e)) ]
    ]

-- ---- one run

no_longer : (tables : List TableDef) (asker limit : ℕ) (entries : List LogEntry) (count other : ℕ) → IsRun tables asker limit entries count → IsRun tables asker limit entries other → count < other → ⊥
no_longer tables asker limit entries count other r s less =
    r.ends (omega (arith, less, s.there)) (s.each (count + 1) (omega (arith, less)))

one_run : (tables : List TableDef) (asker limit : ℕ) (entries : List LogEntry) (count other : ℕ) → IsRun tables asker limit entries count → IsRun tables asker limit entries other → count ≡ other
one_run tables asker limit entries count other r s =
    elim (le_or count other) [
      | inr more ↦ absurd (no_longer tables asker limit entries other count s r more)
      | inl h ↦ elim (le_or other count) [
        | inl k ↦ omega (arith, h, k)
        | inr less ↦ absurd (no_longer tables asker limit entries count other r s less)
      ]
    ]

merged_same : (count other : ℕ) (some changes : List TableChanges) → count ≡ other → some ≡ changes → ◌≡◌ {A = Caught} (Merged count some) (Merged other changes)
merged_same count other some changes counts is = ap (λ (n : ℕ). Merged n some) counts ∙ ap (λ (cs : List TableChanges). Merged other cs) is

pub one_catch : OneJoin → OneCatch
one_catch law tables asker limit entries Alone Alone are s o = refl
one_catch law tables asker limit entries Alone (Merged count changes) are s o = absurd (o.0 s)
one_catch law tables asker limit entries (Merged count changes) Alone are s o = absurd (s.0 o)
one_catch law tables asker limit entries (Merged count some) (Merged other changes) are (away, run, is) (never, runs, also) =
    let counts = one_run tables asker limit entries count other run runs in
    let there = subst (λ (n : ℕ). IsConsolidated tables (take n entries) some) counts is in
    merged_same count other some changes counts (one_consolidated law tables (take other entries) some changes are there also)

-- ---- there is one

-- the laws of changesets that are taken together
pub record Joins : Type 0 where
  pub one : OneJoin
  pub some : SomeJoin
  pub short : JoinIsShort

-- changesets that have together few bytes are together short
pub short_of : Joins → (tables : List TableDef) (list : List (List TableChanges)) → AreTables tables → All (AreChangesOf tables) list → sum_by (λ changes. length (normal_spelling changes)) list ≤ MAX_CHANGESET → AreShort tables list
short_of laws tables list are all few =
    let normal = recursion_from_All IsNormalChangeset list (λ k d within. (all k d within).0) in
    let fits = recursion_from_All (FitsCatalog tables) list (λ k d within. (all k d within).1) in
    let made = laws.some tables list are normal fits in
    let less = laws.short tables list made.0 are normal fits made.1 made.2 made.3 in
    (made.0, record { of_tables = (made.1, made.2); joined = made.3 }, omega (arith, less, few))

-- a changeset that others are is the one that tells whether they are short
pub short_or_not : OneJoin → (tables : List TableDef) (list : List (List TableChanges)) (changes : List TableChanges) → AreTables tables → AreOne tables list changes → AreShort tables list ⊎ (AreShort tables list → ⊥)
short_or_not law tables list changes are one =
    elim (le_or (length (normal_spelling changes)) MAX_CHANGESET) [
      | inl short ↦ inl (changes, one, short)
      | inr long ↦ inr (λ (other, is, short).
          let same = law tables list other changes are is.of_tables.0 one.of_tables.0 is.of_tables.1 one.of_tables.1 is.joined one.joined in
          let less : length (normal_spelling changes) ≤ MAX_CHANGESET = subst (λ (cs : List TableChanges). length (normal_spelling cs) ≤ MAX_CHANGESET) same short in
          omega (arith, less, long))
    ]

alone_or_not : (asker : ℕ) (entry : LogEntry) → IsToldAlone asker entry ⊎ (IsToldAlone asker entry → ⊥)
alone_or_not asker entry =
    elim (same_or entry.origin asker) [
      | inl own ↦ inl (inl own)
      | inr other ↦ elim (widens_or_not entry.body) [
        | inr widens ↦ inl (inr widens)
        | inl none ↦ inr (λ alone. elim alone [ inl own ↦ other own | inr widens ↦ widens none ])
      ]
    ]

abbrev pub IsNotAlone : ℕ → LogEntry → Type 0
IsNotAlone asker entry = IsToldAlone asker entry → ⊥

others_or_not : (asker : ℕ) (entries : List LogEntry) → AllByRecursion (IsNotAlone asker) entries ⊎ (AllByRecursion (IsNotAlone asker) entries → ⊥)
others_or_not asker [] = inl tt
others_or_not asker (first ∷ rest) =
    elim (alone_or_not asker first) [
      | inl own ↦ inr (λ all. all.0 own)
      | inr other ↦ elim (others_or_not asker rest) [ inl all ↦ inl (other, all) | inr not ↦ inr (λ all. not all.1) ]
    ]

fitting : (tables : List TableDef) (entries : List LogEntry) → All (Fits tables) entries → All (AreChangesOf tables) (map entry_changes entries)
fitting tables entries all = All-map (AreChangesOf tables) entry_changes entries all

short_as_one : Joins → (tables : List TableDef) (entries : List LogEntry) → AreTables tables → All (Fits tables) entries → AreShort tables (map entry_changes entries) ⊎ (AreShort tables (map entry_changes entries) → ⊥)
short_as_one laws tables entries are all =
    let list = map entry_changes entries in
    let each = fitting tables entries all in
    let made = laws.some tables list are (recursion_from_All IsNormalChangeset list (λ k d within. (each k d within).0)) (recursion_from_All (FitsCatalog tables) list (λ k d within. (each k d within).1)) in
    short_or_not laws.one tables list made.0 are (record { of_tables = (made.1, made.2); joined = made.3 })

may_or_not : Joins → (tables : List TableDef) (asker limit : ℕ) (entries : List LogEntry) → AreTables tables → (All IsPlain entries → All (Fits tables) entries) → MayBeOne tables asker limit entries ⊎ (MayBeOne tables asker limit entries → ⊥)
may_or_not laws tables asker limit entries are fit =
    elim (le_or (length entries) limit) [
      | inr many ↦ inr (λ may. omega (arith, many, may.within))
      | inl within ↦ elim (others_or_not asker entries) [
        | inr not ↦ inr (λ may. not (recursion_from_All (IsNotAlone asker) entries may.others))
        | inl others ↦
            let each = All-from_recursion (IsNotAlone asker) entries others in
            elim (short_as_one laws tables entries are (fit (all_plain asker entries each))) [
              | inr long ↦ inr (λ may. long may.short)
              | inl short ↦ inl (record { within = within; others = each; short = short })
            ]
      ]
    ]

none_may : Joins → (tables : List TableDef) (asker limit : ℕ) → AreTables tables → MayBeOne tables asker limit []
none_may laws tables asker limit are = record {
  within = omega arith;
  others = All-from_recursion (IsNotAlone asker) [] tt;
  short = short_of laws tables [] are (All-from_recursion (AreChangesOf tables) [] tt) (omega arith);
}

module _ (laws : Joins) (tables : List TableDef) (asker limit : ℕ) (entries : List LogEntry) (are : AreTables tables) (fit : (count : ℕ) → All IsPlain (take count entries) → All (Fits tables) (take count entries)) where
  one_more_each : (n : ℕ) → ((m : ℕ) → m ≤ n → MayBeOne tables asker limit (take m entries)) → MayBeOne tables asker limit (take (n + 1) entries) → (m : ℕ) → m ≤ n + 1 → MayBeOne tables asker limit (take m entries)
  one_more_each n each may m less =
      elim (le_or m n) [
        | inl within ↦ each m within
        | inr more ↦ subst (λ (k : ℕ). MayBeOne tables asker limit (take k entries)) (let e : n + 1 ≡ m = omega (arith, less, more) in e) may
      ]

  search_run : (left n : ℕ) → n + left ≡ length entries → ((m : ℕ) → m ≤ n → MayBeOne tables asker limit (take m entries)) → (count : ℕ) × IsRun tables asker limit entries count
  search_run zero n is each = (n, record { there = omega (arith, is); each = each; ends = λ less may. omega (arith, is, less) })
  search_run (suc left) n is each =
      elim (may_or_not laws tables asker limit (take (n + 1) entries) are (fit (n + 1))) [
        | inl may ↦ search_run left (n + 1) (omega (arith, is)) (one_more_each n each may)
        | inr not ↦ (n, record { there = omega (arith, is); each = each; ends = λ less. not })
      ]

  none_each : (m : ℕ) → m ≤ 0 → MayBeOne tables asker limit (take m entries)
  none_each m less = subst (λ (k : ℕ). MayBeOne tables asker limit (take k entries)) (let e : 0 ≡ m = omega (arith, less) in e) (none_may laws tables asker limit are)

  merged_of : (BeginsAlone asker limit entries → ⊥) → (caught : Caught) × Catches tables asker limit entries caught
  merged_of away =
      let run = search_run (length entries) 0 (omega arith) none_each in
      let may = run.1.each run.0 (omega arith) in
      (Merged run.0 may.short.0, (away, run.1, may.short.1))

begins_or_not : (asker limit : ℕ) (entries : List LogEntry) → BeginsAlone asker limit entries ⊎ (BeginsAlone asker limit entries → ⊥)
begins_or_not asker limit [] = inr (λ begins. let no = begins.first in cc)
begins_or_not asker limit (first ∷ rest) =
    elim (le_or limit 0) [
      | inl none ↦ inr (λ begins. omega (arith, none, begins.some))
      | inr some ↦ elim (alone_or_not asker first) [
        | inl own ↦ inl (record { some = some; entry = first; first = refl; alone = own })
        | inr other ↦ inr (λ begins. other (subst (IsToldAlone asker) (sym (same_Some first begins.entry begins.first)) begins.alone))
      ]
    ]

pub catch_has_answer : Joins → CatchHasAnswer
catch_has_answer laws tables asker limit entries are fit =
    elim (begins_or_not asker limit entries) [
      | inl begins ↦ (Alone, begins)
      | inr not ↦ merged_of laws tables asker limit entries are fit not
    ]
