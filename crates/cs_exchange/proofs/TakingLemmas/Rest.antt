-- What is left of a list, and reads of a store so far: the steps of loops.
use Rattle.std.proofs.Common.{◌≡◌, ◌<◌, ◌+◌, ℕ, zero, suc, Ok, Err, List, [], ◌∷◌, length, get_or, drop, sym, ap, subst, ◌∙◌}
use Rattle.std.specs.List.{AllByRecursion}
use Rattle.std.proofs.lemmas.List.{drop_more}
use Rattle.cs_value.specs.declared.catalog.TableDef.{TableDef}
use Rattle.cs_store.specs.Contents.{Contents}
use Rattle.cs_store.specs.declared.store.RowStore.{Ghosts}
use Rattle.cs_pending.specs.Calls.{ReadsStore}
use Rattle.cs_pending.specs.Shows.{ShowsRows, ShowsSome}
use Rattle.cs_pending.specs.Storing.{WasRead, reads_well, then_reads_failed, then_well, went_well}
use Rattle.cs_pending.specs.View.{View}

pub drop_here : {X : Type 0} (xs : List X) (i : ℕ) (x : X) → i < length xs → x ≡ get_or xs i x → drop i xs ≡ x ∷ drop (i + 1) xs
drop_here xs i x less is = drop_more xs i x less ∙ ap (λ y. y ∷ drop (i + 1) xs) (sym is)

pub all_left : {X : Type 0} (P : X → Type 0) (i : ℕ) (xs : List X) → AllByRecursion P xs → AllByRecursion P (drop i xs)
all_left P zero xs all = all
all_left P (suc i) [] all = tt
all_left P (suc i) (x ∷ xs) all = all_left P i xs all.1

pub all_here : {X : Type 0} (P : X → Type 0) (xs : List X) (i : ℕ) (x : X) → i < length xs → x ≡ get_or xs i x → AllByRecursion P xs → P x
all_here P xs i x less is all =
    let left = subst (λ (ys : List _). AllByRecursion P ys) (drop_here xs i x less is) (all_left P i xs all) in left.0

-- ---- reads of a store

module _ {S : Type 0} (g : Ghosts S) (tables : List TableDef) (old mid : S)
    (so_far : WasRead g (ShowsSome tables (g.contents old)) old mid) where
  still_some : g.honest mid → ShowsSome tables (g.contents old) → ShowsSome tables (g.contents mid)
  still_some h some = subst (λ (c : Contents). ShowsSome tables c) (sym (so_far.same h)) some

  pub still_shows : g.honest mid → (seen : View) → ShowsRows tables (g.contents old) seen → ShowsRows tables (g.contents mid) seen
  still_shows h seen shows = subst (λ (c : Contents). ShowsRows tables c seen) (sym (so_far.same h)) shows

  pub read_more : {T E : Type 0} (device : E) (new : S) (t : T) → ReadsStore g device (ShowsSome tables (g.contents mid)) mid new (Ok t)
      → WasRead g (ShowsSome tables (g.contents old)) old new
  read_more device new t reads =
      then_well g _ _ _ old mid new (λ some. some) still_some so_far (went_well g device _ mid new t reads)

  pub read_failed : {T U E : Type 0} (device fault : E) (new : S) → ReadsStore g {T = T} device (ShowsSome tables (g.contents mid)) mid new (Err fault)
      → ReadsStore g {T = U} device (ShowsSome tables (g.contents old)) old new (Err fault)
  read_failed device fault new reads = then_reads_failed g device fault _ _ _ old mid new (λ some. some) still_some so_far reads

  pub read_then : {T U E : Type 0} (device : E) (new : S) (t : T) (u : U) → ReadsStore g device (ShowsSome tables (g.contents mid)) mid new (Ok t)
      → ReadsStore g device (ShowsSome tables (g.contents old)) old new (Ok u)
  read_then device new t u reads = reads_well g device _ old new u (read_more device new t reads)
