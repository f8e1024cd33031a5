-- The places of a changeset, and all that is under way.
use Rattle.std.proofs.Common.{◌≡◌, ◌⊎◌, ℕ, true, false, is_some, List, [], ◌∷◌, Option, Some, None, refl, sym, ap, subst, ◌∙◌, inl, inr}
use Rattle.std.specs.List.{AllByRecursion}
use Rattle.cs_value.specs.Facts.{by_test}
use Rattle.cs_value.specs.declared.catalog.TableDef.{TableDef}
use Rattle.cs_change.specs.Action.{action_any}
use Rattle.cs_change.specs.declared.change.Change.{Change}
use Rattle.cs_normal.specs.Normal.{IsNormalChangeset, change_of}
use Rattle.cs_normal.specs.declared.normal.TableChanges.{TableChanges}
use Rattle.cs_store.specs.Contents.{Contents}
use Rattle.cs_apply.specs.NormalTasks.{AreElsewhere, are_apart, each_found, found_at, found_is, keyed_tasks, spot_of}
use Rattle.cs_apply.specs.Spots.{same_spot, spot_is}
use Rattle.cs_tasks.specs.Tasks.{Task}
use Rattle.cs_pending.specs.Nets.{undo_none}
use Rattle.cs_pending.specs.Shows.{ShowsRows}
use Rattle.cs_pending.specs.View.{View, middle, undo}
use Rattle.cs_pending.specs.position.Shows.{IsUnderWay, base, flown}
use Rattle.cs_exchange.specs.taking.Steps.{IsDirectAt, IsFlightFolded, IsFolded, IsFoldReady}
use Rattle.cs_exchange.proofs.TakingLemmas.Stepped.{still_log}

behind : (P : List ℕ → List ℕ → Type 0) (t : Task) (ts : List Task) (name key : List ℕ) → same_spot (name, key) (spot_of t) ≡ false → P name key ⊎ AreElsewhere (name, key) ts → P name key ⊎ AreElsewhere (name, key) (t ∷ ts)
behind P t ts name key e (inl is) = inl is
behind P t ts name key e (inr away) = inr (e, away)

-- a place is that of a change, or elsewhere
pub there_or_elsewhere : (P : List ℕ → List ℕ → Type 0) (ts : List Task) → AllByRecursion (λ (t : Task). P t.name t.key) ts → (name key : List ℕ) → P name key ⊎ AreElsewhere (name, key) ts
there_or_elsewhere P [] all name key = inr tt
there_or_elsewhere P (t ∷ ts) all name key =
    by_test (same_spot (name, key) (spot_of t)) _
    (λ e. let is = spot_is (name, key) (spot_of t) e in inl (subst (λ (n : List ℕ). P n key) (sym is.0) (subst (λ (k : List ℕ). P t.name k) (sym is.1) all.0)))
    (λ e. behind P t ts name key e (there_or_elsewhere P ts all.1 name key))

pub none_elsewhere : (name key : List ℕ) (ts : List Task) → AreElsewhere (name, key) ts → found_at (name, key) ts ≡ None
unfolding found_at
none_elsewhere name key [] away = refl
none_elsewhere name key (t ∷ ts) away = simp away.0 (none_elsewhere name key ts away.1)

-- ---- each change of a changeset is the one of its place

abbrev pub AreFound : List TableChanges → List Task → Type 0
AreFound changes ts = AllByRecursion (λ (t : Task). change_of t.name t.key changes ≡ Some t.change) ts

found_each : (changes : List TableChanges) (tables : List TableDef) (ts : List Task) → IsNormalChangeset changes → AllByRecursion (λ (t : Task). found_at (spot_of t) (keyed_tasks tables changes) ≡ Some t.change) ts → AreFound changes ts
found_each changes tables [] normal all = tt
found_each changes tables (t ∷ ts) normal all = (sym (found_is tables t.name t.key changes normal) ∙ all.0, found_each changes tables ts normal all.1)

pub all_found : (changes : List TableChanges) (tables : List TableDef) → IsNormalChangeset changes → AreFound changes (keyed_tasks tables changes)
all_found changes tables normal = found_each changes tables (keyed_tasks tables changes) normal (each_found (keyed_tasks tables changes) (are_apart tables changes normal))

some_each : (changes : List TableChanges) (ts : List Task) → AreFound changes ts → AllByRecursion (λ (t : Task). is_some (change_of t.name t.key changes) ≡ true) ts
some_each changes [] found = tt
some_each changes (t ∷ ts) found = (ap (λ (c : Option Change). is_some c) found.0, some_each changes ts found.1)

module _ (tables : List TableDef) (changes : List TableChanges) (normal : IsNormalChangeset changes) (ts : List Task) (are : ts ≡ keyed_tasks tables changes) where
  pub nothing_there : (name key : List ℕ) → AreElsewhere (name, key) ts → change_of name key changes ≡ None
  nothing_there name key away =
      sym (found_is tables name key changes normal) ∙ none_elsewhere name key (keyed_tasks tables changes) (subst (λ (all : List Task). AreElsewhere (name, key) all) are away)

  at_some : (P : List ℕ → List ℕ → Type 0) (name key : List ℕ) → is_some (change_of name key changes) ≡ true → P name key ⊎ AreElsewhere (name, key) ts → P name key
  at_some P name key some (inl is) = is
  at_some P name key some (inr away) =
      absurd (let no : false ≡ true = ap (λ (c : Option Change). is_some c) (sym (nothing_there name key away)) ∙ some in cc)

  -- what holds at each place of the changeset, where it has a change
  pub where_some : (P : List ℕ → List ℕ → Type 0) → AllByRecursion (λ (t : Task). P t.name t.key) ts → (name key : List ℕ) → is_some (change_of name key changes) ≡ true → P name key
  where_some P all name key some = at_some P name key some (there_or_elsewhere P ts all name key)

  at_none : (name key : List ℕ) → is_some (change_of name key changes) ≡ false → (is_some (change_of name key changes) ≡ true) ⊎ AreElsewhere (name, key) ts → AreElsewhere (name, key) ts
  at_none name key none (inl some) = absurd (let no : true ≡ false = sym some ∙ none in cc)
  at_none name key none (inr away) = away

  pub where_none : (name key : List ℕ) → is_some (change_of name key changes) ≡ false → AreElsewhere (name, key) ts
  where_none name key none =
      at_none name key none (there_or_elsewhere (λ n k. is_some (change_of n k changes) ≡ true) ts
      (subst (λ (all : List Task). AllByRecursion (λ (t : Task). is_some (change_of t.name t.key changes) ≡ true) all) (sym are) (some_each changes (keyed_tasks tables changes) (all_found changes tables normal))) name key)

-- ---- what is under way

all_still : (view : View) (ts : List Task) → AllByRecursion (λ (t : Task). middle view t.name t.key ≡ middle view t.name t.key) ts
all_still view [] = tt
all_still view (t ∷ ts) = (refl, all_still view ts)

module _ (tables : List TableDef) (flight : Option (List TableChanges)) (seen : View) (contents : Contents) (ts : List Task) (are : ts ≡ keyed_tasks tables (flown flight)) (shows : ShowsRows tables contents seen) (under : IsUnderWay tables flight seen) where
  pub fold_begins : IsFoldReady tables flight seen ts seen
  fold_begins = subst (λ (all : List Task). IsFoldReady tables flight seen all seen) (sym are) (record {
    log = under.sound.before_state;
    own = shows.rows.rows;
    same = λ n k. refl;
    apart = are_apart tables (flown flight) under.normal;
    stand = all_still seen (keyed_tasks tables (flown flight));
  })

  none_under_way : (name key : List ℕ) → AreElsewhere (name, key) ts → base flight seen name key ≡ middle seen name key
  none_under_way name key away =
      ap (λ (c : Option Change). undo (action_any c) (middle seen name key)) (nothing_there tables (flown flight) under.normal ts are name key away) ∙ undo_none (middle seen name key)

  at_either : (end : View) → IsFolded tables flight seen ts seen end → (name key : List ℕ) → (middle end name key ≡ base flight seen name key) ⊎ AreElsewhere (name, key) ts → middle end name key ≡ base flight seen name key
  at_either end folded name key (inl is) = is
  at_either end folded name key (inr away) = still_log seen end name key (folded.elsewhere name key away) ∙ sym (none_under_way name key away)

  pub fold_ends : (end : View) → IsFolded tables flight seen ts seen end → IsFlightFolded tables flight seen end
  fold_ends end folded = record {
    same = folded.same;
    log = λ name key. at_either end folded name key (there_or_elsewhere (λ n k. middle end n k ≡ base flight seen n k) ts folded.there name key);
    direct = where_some tables (flown flight) under.normal ts are (IsDirectAt tables end) folded.direct;
    still = λ name key none. folded.elsewhere name key (where_none tables (flown flight) under.normal ts are name key none);
  }

pub none_flown : (tables : List TableDef) (flight : Option (List TableChanges)) → flight ≡ None → keyed_tasks tables (flown flight) ≡ []
unfolding keyed_tasks
none_flown tables None is = refl
none_flown tables (Some changes) is = absurd (let e = is in cc)
