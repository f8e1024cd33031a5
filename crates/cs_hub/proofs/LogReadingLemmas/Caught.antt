-- What was read of a log, and taken together, is what is told.
use Rattle.std.proofs.Common.{◌≡◌, ◌+◌, ◌<◌, ◌≤◌, ℕ, zero, suc, List, [], ◌∷◌, length, map, min, take, Some, refl, sym, ap, subst, ◌∙◌, arith, inl, inr}
use Rattle.std.specs.Prelude.{slice_get}
use Rattle.std.specs.List.{All, AllByRecursion}
use Rattle.std.proofs.lemmas.List.{length-take-le, take-map, take-take}
use Rattle.std.proofs.lemmas.List.Elements.{All-take, All-from_recursion, recursion_from_All}
use Rattle.std.proofs.lemmas.Option.{same_Some, slice_get_within}
use Rattle.cs_value.specs.declared.catalog.TableDef.{TableDef}
use Rattle.cs_normal.specs.declared.normal.TableChanges.{TableChanges}
use Rattle.cs_store.specs.log.Entry.{entry_changes}
use Rattle.cs_store.specs.declared.log.entry.LogEntry.{LogEntry}
use Rattle.cs_hub.specs.log_reading.Steps.{AreOthers}
use Rattle.cs_hub.specs.catching.Catches.{BeginsAlone, Catches, IsToldAlone, MayBeOne, NoneIsAlone}
use Rattle.cs_hub.specs.catching.Consolidated.{AreOne, AreShort}
use Rattle.cs_hub.specs.catching.Runs.{IsRunOf}
use Rattle.cs_hub.specs.declared.catching.caught.Caught.TheVariants.{Alone, Merged}
use Rattle.cs_hub.proofs.CatchingLemmas.Runs.{IsNotAlone, le_or}

-- an entry among the first so many isn't the asker's, where none of these is
last_of : (asker : ℕ) (xs : List LogEntry) (i n : ℕ) (x : LogEntry) → i < n → slice_get xs i ≡ Some x → NoneIsAlone asker (take n xs) → IsToldAlone asker x → ⊥
last_of asker [] i n x below is all own = absurd cc
last_of asker (y ∷ xs) i zero x below is all own = omega (arith, below)
last_of asker (y ∷ xs) zero (suc n) x below is all own =
    (recursion_from_All (IsNotAlone asker) (y ∷ take n xs) all).0 (subst (IsToldAlone asker) (sym (same_Some y x is)) own)
last_of asker (y ∷ xs) (suc i) (suc n) x below is all own =
    last_of asker xs i n x (omega (arith, below)) is (All-from_recursion (IsNotAlone asker) (take n xs) (recursion_from_All (IsNotAlone asker) (y ∷ take n xs) all).1) own

head_of : (n i : ℕ) (y : LogEntry) (ys : List LogEntry) → 0 < n → i ≡ 0 → slice_get (take n (y ∷ ys)) i ≡ Some y
head_of zero i y ys positive is_zero = absurd (omega (arith, positive))
head_of (suc n) zero y ys positive is_zero = refl
head_of (suc n) (suc i) y ys positive is_zero = absurd (omega (arith, is_zero))

-- ---- what is told of it

module _ (tables : List TableDef) (asker limit asked : ℕ) (entries : List LogEntry) (list : List (List TableChanges)) (least : asked ≡ min limit (length entries)) (read : AreOthers asker (take asked entries) list) where
  within_asked : length list ≤ asked
  within_asked = omega (arith, read.there, length-take-le asked entries (omega (arith, least)))

  front : (n : ℕ) → n ≤ length list → take n (take asked entries) ≡ take n entries
  front n less = take-take n asked entries (omega (arith, less, within_asked))

  fronts : (n : ℕ) → n ≤ length list → take n list ≡ map entry_changes (take n entries)
  fronts n less =
      ap (take n) read.are
      ∙ take-map entry_changes n (take (length list) (take asked entries))
      ∙ ap (map entry_changes) (take-take n (length list) (take asked entries) less)
      ∙ ap (map entry_changes) (front n less)

  others_in : (n : ℕ) → n ≤ length list → NoneIsAlone asker (take n entries)
  others_in n less =
      subst (All (IsNotAlone asker)) (take-take n (length list) (take asked entries) less ∙ front n less)
      (All-take (IsNotAlone asker) n (take (length list) (take asked entries)) read.others)

  few : (n : ℕ) → n ≤ length list → length (take n entries) ≡ n
  few n less = length-take-le n entries (omega (arith, less, within_asked, least))

  may : (n : ℕ) → n ≤ length list → AreShort tables (take n list) → MayBeOne tables asker limit (take n entries)
  may n less short = record {
    within = omega (arith, few n less, less, within_asked, least);
    others = others_in n less;
    short = subst (AreShort tables) (fronts n less) short;
  }

  -- behind those that were read stands the asker's own, or no more were asked for
  stops : length list < length entries → MayBeOne tables asker limit (take (length list + 1) entries) → ⊥
  stops less one_more =
      elim (le_or asked (length list)) [
        | inl all ↦
            let many : length (take (length list + 1) entries) ≡ length list + 1 = length-take-le (length list + 1) entries (omega (arith, less)) in
            omega (arith, one_more.within, many, all, least, less, within_asked)
        | inr more ↦
            let there = entry_at entries (length list) less in
            let own = read.ends there.0 (in_front entries asked (length list) there.0 more there.1) in
            last_of asker entries (length list) (length list + 1) there.0 (omega arith) there.1 one_more.others own
      ]
    where
      entry_at : (xs : List LogEntry) (i : ℕ) → i < length xs → (x : LogEntry) × (slice_get xs i ≡ Some x)
      entry_at [] i below = absurd (omega (arith, below))
      entry_at (x ∷ xs) zero below = (x, refl)
      entry_at (x ∷ xs) (suc i) below = entry_at xs i (omega (arith, below))

      in_front : (xs : List LogEntry) (n i : ℕ) (x : LogEntry) → i < n → slice_get xs i ≡ Some x → slice_get (take n xs) i ≡ Some x
      in_front xs zero i x below is = absurd (omega (arith, below))
      in_front [] (suc n) i x below is = is
      in_front (y ∷ xs) (suc n) zero x below is = is
      in_front (y ∷ xs) (suc n) (suc i) x below is = in_front xs n i x (omega (arith, below)) is

  pub merged_told : (count : ℕ) (changes : List TableChanges) → (0 < asked → 0 < length list) → IsRunOf tables list count changes → Catches tables asker limit entries (Merged count changes)
  merged_told count changes some run = (
    λ begins.
        let inside = slice_get_within entries 0 begins.entry begins.first in
        let one : 0 < length list = some (omega (arith, least, begins.some, inside)) in
        let all = recursion_from_All (IsNotAlone asker) (take 1 entries) (others_in 1 (omega (arith, one))) in
        first_not entries begins.entry begins.first all begins.alone,
    record {
      there = omega (arith, run.run.there, within_asked, least);
      each = λ n less. may n (omega (arith, less, run.run.there)) (run.run.each n less);
      ends = λ less one_more. elim (le_or (length list) count) [
        | inl all ↦ stops (omega (arith, less, all, run.run.there)) (subst (λ (k : ℕ). MayBeOne tables asker limit (take (k + 1) entries)) (let e : count ≡ length list = omega (arith, all, run.run.there) in e) one_more)
        | inr fewer ↦ run.run.ends fewer (subst (AreShort tables) (sym (fronts (count + 1) (omega (arith, fewer)))) one_more.short)
      ];
    },
    subst (λ (l : List (List TableChanges)). AreOne tables l changes) (fronts count run.run.there) run.one,
  )
    where
      first_not : (xs : List LogEntry) (x : LogEntry) → slice_get xs 0 ≡ Some x → AllByRecursion (IsNotAlone asker) (take 1 xs) → IsToldAlone asker x → ⊥
      first_not [] x is all own = absurd cc
      first_not (y ∷ xs) x is all own = all.0 (subst (IsToldAlone asker) (sym (same_Some y x is)) own)

  pub own_told : 0 < asked → length list ≡ 0 → Catches tables asker limit entries Alone
  own_told some none = first_own entries refl
    where
      first_own : (xs : List LogEntry) → xs ≡ entries → BeginsAlone asker limit entries
      first_own [] is = absurd (omega (arith, some, least, ap length is))
      first_own (x ∷ xs) is =
          let at : slice_get (take asked entries) (length list) ≡ Some x = subst (λ (es : List LogEntry). slice_get (take asked es) (length list) ≡ Some x) is (head_of asked (length list) x xs some none) in
          record { some = omega (arith, some, least); entry = x; first = ap (λ (es : List LogEntry). slice_get es 0) (sym is); alone = read.ends x at }
