-- Edits of places in the making: what one more leaves, and what a commit of all makes of contents. Crates above cite it.
use Rattle.std.proofs.Common.{◌≡◌, ◌+◌, ◌++◌, ◌||◌, ◌&&◌, ◌⊎◌, inl, inr, Result, Ok, Err, ℕ, pos, Bool, true, false, not, cond, is_some, List, [], ◌∷◌, fold, Option, Some, None, option_map, refl, sym, ap, ap₂, ◌∙◌, subst, arith}
use Rattle.std.specs.Prelude.{slice_get, nat_eq, OnOk}
use Rattle.std.specs.FinMap.{get, len}
use Rattle.cs_value.specs.Catalog.{AreTables}
use Rattle.cs_value.specs.Facts.{same_place-Decides}
use Rattle.cs_value.specs.Key.{Place}
use Rattle.cs_value.specs.Laws.{OnePlaceOfName}
use Rattle.cs_value.specs.Same.{same_place}
use Rattle.cs_value.specs.declared.catalog.TableDef.{TableDef}
use Rattle.cs_order.specs.Order.{same_bytes}
use Rattle.cs_record.specs.Spelling.{row_bytes}
use Rattle.cs_change.specs.Spelling.{change_spelling}
use Rattle.cs_normal.specs.State.{MayStandAt}
use Rattle.cs_store.specs.Contents.{Bodies, Contents, StorePlace, stored_tables, stored_pending}
use Rattle.cs_store.specs.Laws.{CountsBodies, IsNoPlaceOf, KeepsOtherPending, KeepsOtherRows, ReadsEdits, WritesPending, WritesRows, one_if_some, row_after}
use Rattle.cs_store.specs.Written.{after_batch, appended, edit_body, edit_meta, optional_entry, store_place}
use Rattle.cs_store.specs.declared.batch.Batch.{Batch}
use Rattle.cs_store.specs.edits.Edits.{BodyEdit}
use Rattle.cs_store.specs.declared.batch.StoredEntry.{StoredEntry}
use Rattle.cs_apply.specs.Spots.{same_spot}
use Rattle.cs_pending.specs.Placing.{StandsIn}
use Rattle.cs_pending.specs.Settling.{AreWithin, IsPushed, IsWithin, Settles, recount}
use Rattle.cs_pending.specs.Shows.{IsElsewhere, SameRest, ShowsRows}
use Rattle.cs_pending.specs.View.{View, direct_net, middle, put_at, settled}
use Rattle.cs_pending.specs.declared.placing.Standing.{Standing}
use Rattle.cs_pending.specs.declared.settling.Settling.{Settling}
use Rattle.cs_pending.specs.OnePlace.{by_spot, contained, tests_agree}
use Rattle.cs_pending.specs.Nets.{action_there, net_there}
use Rattle.cs_pending.specs.Settled.{Catalogs, settled_fits, settled_sound}

pub through : {A B : Type 0} (f : A → B) (t : Bool) (x y : A) → cond t (f x) (f y) ≡ f (cond t x y)
through f true x y = refl
through f false x y = refl

-- what one more edit leaves
pub row_more : (edits : List BodyEdit) (edit : BodyEdit) (n : ℕ) (k : List ℕ) (stood : Option (List ℕ))
    → row_after (edits ++ edit ∷ []) n k stood ≡ cond (nat_eq n edit.table && same_bytes k edit.key) edit.body (row_after edits n k stood)
row_more [] edit n k stood = refl
row_more (e ∷ edits) edit n k stood = row_more edits edit n k (cond (nat_eq n e.table && same_bytes k e.key) e.body stood)

pub fold_more : (bodies : Bodies) (edits : List BodyEdit) (edit : BodyEdit) → fold edit_body bodies (edits ++ edit ∷ []) ≡ edit_body (fold edit_body bodies edits) edit
fold_more bodies [] edit = refl
fold_more bodies (e ∷ edits) edit = fold_more (edit_body bodies e) edits edit

module _ (tables : List TableDef) (are : AreTables tables) (one : OnePlaceOfName) (number : ℕ) (table : TableDef) (key : List ℕ) (found : slice_get tables number ≡ Some table) where
  -- an edit of one place, or none where it would change nothing, read as the table's
  pushed_read : {A : Type 0} (spell : A → Option (List ℕ)) (x : A) (held : List ℕ → List ℕ → A) (push : Bool) (stored : ℕ → List ℕ → Option (List ℕ)) (old new : List BodyEdit)
      → IsPushed push number key (spell x) old new
      → (push ≡ false → spell x ≡ spell (held table.name key))
      → ((n : ℕ) (t : TableDef) (k : List ℕ) → slice_get tables n ≡ Some t → row_after old n k (stored n k) ≡ spell (held t.name k))
      → (n : ℕ) (t : TableDef) (k : List ℕ) → slice_get tables n ≡ Some t → row_after new n k (stored n k) ≡ spell (put_at table.name key x held t.name k)
  pushed_read spell x held true stored old new (edit, list, table_is, key_is, bytes_is) same all n t k at =
      let left = row_after old n k (stored n k) in
      ap (λ (es : List BodyEdit). row_after es n k (stored n k)) list
      ∙ row_more old edit n k (stored n k)
      ∙ ap (λ (m : ℕ). cond (nat_eq n m && same_bytes k edit.key) edit.body left) table_is
      ∙ ap (λ (j : List ℕ). cond (nat_eq n number && same_bytes k j) edit.body left) key_is
      ∙ ap (λ (b : Option (List ℕ)). cond (nat_eq n number && same_bytes k key) b left) bytes_is
      ∙ ap₂ (λ (b : Bool) (o : Option (List ℕ)). cond b (spell x) o) (sym (tests_agree tables are one number n table t k key found at)) (all n t k at)
      ∙ through spell (same_spot (t.name, k) (table.name, key)) x (held t.name k)
  pushed_read spell x held false stored old new list same all n t k at =
      ap (λ (es : List BodyEdit). row_after es n k (stored n k)) list ∙ all n t k at
      ∙ by_spot t.name k table.name key _ (λ e same_n same_k.
      let there : spell (put_at table.name key x held t.name k) ≡ spell x = simp e refl in
      ap₂ (λ (a b : List ℕ). spell (held a b)) same_n same_k ∙ sym (same refl) ∙ sym there)
      (λ e. simp e refl)

-- ---- how many are pending

recounted : (was is : Bool) (count there after low : ℕ) → count ≡ there → after + cond was 1 0 ≡ there + cond is 1 0 → low + cond was 1 0 ≡ there + 0 → recount count was is ≡ after
recounted true true count there after low c a l = omega (arith, c, a, l)
recounted true false count there after low c a l = omega (arith, c, a, l)
recounted false true count there after low c a l = omega (arith, c, a, l)
recounted false false count there after low c a l = omega (arith, c, a, l)

counted_more : ReadsEdits → CountsBodies → (bodies : Bodies) (number : ℕ) (key : List ℕ) (push was is : Bool) (body : Option (List ℕ)) (old new : List BodyEdit) (count : ℕ)
    → push ≡ (was || is) → IsPushed push number key body old new → is ≡ is_some body
    → was ≡ is_some (row_after old number key (get bodies (pos number, key)))
    → count ≡ len (fold edit_body bodies old)
    → recount count was is ≡ len (fold edit_body bodies new)
counted_more reads counts bodies number key true was is body old new count pushes (edit, list, table_is, key_is, bytes_is) is_is was_is right =
    let left = fold edit_body bodies old in
    let stood : get left (store_place edit) ≡ row_after old number key (get bodies (pos number, key)) =
    reads bodies old edit.table edit.key ∙ ap₂ (λ (n : ℕ) (k : List ℕ). row_after old n k (get bodies (pos n, k))) table_is key_is in
    let was_one : one_if_some (get left (store_place edit)) ≡ cond was 1 0 = ap one_if_some stood ∙ ap (λ (b : Bool). cond b 1 0) (sym was_is) in
    let is_one : one_if_some edit.body ≡ cond is 1 0 = ap one_if_some bytes_is ∙ ap (λ (b : Bool). cond b 1 0) (sym is_is) in
    let more = counts left edit in
    let less = counts left (record edit { body = None }) in
    let after : len (edit_body left edit) + cond was 1 0 ≡ len left + cond is 1 0 = omega (arith, more, was_one, is_one) in
    let low : len (edit_body left (record edit { body = None })) + cond was 1 0 ≡ len left + 0 = omega (arith, less, was_one) in
    recounted was is count (len left) (len (edit_body left edit)) (len (edit_body left (record edit { body = None }))) right after low
    ∙ ap len (sym (ap (λ (es : List BodyEdit). fold edit_body bodies es) list ∙ fold_more bodies old edit))
counted_more reads counts bodies number key false true is body old new count pushes list is_is was_is right = absurd cc
counted_more reads counts bodies number key false false true body old new count pushes list is_is was_is right = absurd cc
counted_more reads counts bodies number key false false false body old new count pushes list is_is was_is right =
    let same : len (fold edit_body bodies new) ≡ len (fold edit_body bodies old) = ap (λ (es : List BodyEdit). len (fold edit_body bodies es)) list in
    omega (arith, right, same)

-- ---- one place settled

pub none_left : {A : Type 0} (o : Option A) → is_some o ≡ false → o ≡ None
none_left None e = refl
none_left (Some x) e = absurd cc

pub map_there : {A B : Type 0} (f : A → B) (o : Option A) → is_some (option_map f o) ≡ is_some o
map_there f None = refl
map_there f (Some x) = refl

pub not_not : (t : Bool) → not t ≡ false → t ≡ true
not_not true e = refl
not_not false e = absurd cc

first_false : (a b : Bool) → (a || b) ≡ false → a ≡ false
first_false true b e = absurd cc
first_false false b e = refl

second_false : (a b : Bool) → (a || b) ≡ false → b ≡ false
second_false true b e = absurd cc
second_false false b e = e

module _ (tables : List TableDef) (law : Catalogs tables) (reads : ReadsEdits) (counts : CountsBodies) (contents : Contents) (begun number : ℕ) (table : TableDef) (key : List ℕ)
    (before : Standing) (base mine : Place) (old new : Settling) (view : View) (was is : Bool) where
  pub settle_step : slice_get tables number ≡ Some table
      → MayStandAt tables table.name key base
      → MayStandAt tables table.name key mine
      → StandsIn view table key before
      → Settles tables contents begun old view
      → was ≡ not (same_place before.base before.mine)
      → is ≡ is_some (direct_net table base mine)
      → IsPushed (not (same_place before.mine mine)) number key (option_map row_bytes mine) old.rows new.rows
      → IsPushed (was || is) number key (option_map change_spelling (direct_net table base mine)) old.pending new.pending
      → new.count ≡ recount old.count was is
      → Settles tables contents begun new (settled table key base mine view)
  settle_step found base_stands mine_stands stands settles was_is is_is rows pending count =
      let inside = contained tables number table found in
      let had : is_some (view.pending table.name key) ≡ was =
      sym (action_there (view.pending table.name key)) ∙ ap is_some (settles.sound.net_of table key inside)
      ∙ net_there table.key_marks (middle view table.name key) (view.tables table.name key)
      ∙ ap₂ (λ (b x : Place). not (same_place b x)) (sym stands.base_is) (sym stands.mine_is) ∙ sym was_is in
      record {
        rows_are = pushed_read tables law.are law.one number table key found (option_map row_bytes) mine view.tables (not (same_place before.mine mine)) (stored_tables contents) old.rows new.rows rows
            (λ e. ap (option_map row_bytes) (sym ((same_place-Decides before.mine mine).0 (not_not (same_place before.mine mine) e)) ∙ stands.mine_is))
            settles.rows_are;
        pending_are = pushed_read tables law.are law.one number table key found (option_map change_spelling) (direct_net table base mine) view.pending (was || is) (stored_pending contents) old.pending new.pending pending
            (λ e. ap (option_map change_spelling) (none_left (direct_net table base mine) (sym is_is ∙ second_false was is e) ∙ sym (none_left (view.pending table.name key) (had ∙ first_false was is e))))
            settles.pending_are;
        fits = settled_fits tables law view table key base mine inside settles.sound base_stands mine_stands settles.fits;
        sound = settled_sound tables law view table key base mine inside settles.sound base_stands mine_stands;
        counted = λ right. count ∙ counted_more reads counts contents.pending number key (was || is) was is (option_map change_spelling (direct_net table base mine)) old.pending new.pending old.count
            refl pending (is_is ∙ sym (map_there change_spelling (direct_net table base mine)))
            (sym had ∙ sym (map_there change_spelling (view.pending table.name key)) ∙ ap is_some (sym (settles.pending_are number table key found)))
            (settles.counted right);
      }

-- no edit yet
pub settles_none : (tables : List TableDef) (contents : Contents) (begun : ℕ) (settling : Settling) (view : View)
    → settling.rows ≡ [] → settling.pending ≡ [] → settling.count ≡ begun → ShowsRows tables contents view
    → Settles tables contents begun settling view
settles_none tables contents begun settling view rows pending count shows = record {
  rows_are = λ n t k at. ap (λ (es : List BodyEdit). row_after es n k (stored_tables contents n k)) rows ∙ shows.rows.stored n t k at;
  pending_are = λ n t k at. ap (λ (es : List BodyEdit). row_after es n k (stored_pending contents n k)) pending ∙ shows.pends.stored n t k at;
  fits = shows.pends.fits;
  sound = shows.sound;
  counted = λ right. count ∙ right ∙ ap (λ (es : List BodyEdit). len (fold edit_body contents.pending es)) (sym pending);
}

-- ---- within the tables

pub no_place : (tables : List TableDef) (place : StorePlace) (edits : List BodyEdit) → IsElsewhere tables place → AreWithin tables edits → IsNoPlaceOf edits place
no_place tables place [] elsewhere within = tt
no_place tables place (edit ∷ edits) elsewhere within = (
  λ is. let past = elsewhere edit.table (ap (λ (p : StorePlace). p.0) (sym is)) in absurd (omega (arith, past, within.0)),
  no_place tables place edits elsewhere within.1,
)

-- ---- a commit of them

module _ (tables : List TableDef) (contents : Contents) (batch : Batch) (settling : Settling) (rows : batch.rows ≡ settling.rows) (pending : batch.pending ≡ settling.pending) where
  pub shows_after : WritesRows → WritesPending → (begun : ℕ) (view : View) → Settles tables contents begun settling view → ShowsRows tables (after_batch batch contents) view
  shows_after rows_law pending_law begun view settles = record {
    rows = record {
      rows = settles.sound.after_state;
      stored = λ n t k at. rows_law batch contents n k ∙ ap (λ (es : List BodyEdit). row_after es n k (stored_tables contents n k)) rows ∙ settles.rows_are n t k at;
    };
    pends = record {
      stored = λ n t k at. pending_law batch contents n k ∙ ap (λ (es : List BodyEdit). row_after es n k (stored_pending contents n k)) pending ∙ settles.pending_are n t k at;
      fits = settles.fits;
    };
    sound = settles.sound;
  }

  pub rest_after : KeepsOtherRows → KeepsOtherPending → IsWithin tables settling → batch.meta.items ≡ [] → batch.log ≡ None → SameRest tables contents (after_batch batch contents)
  rest_after other_rows other_pending within meta log = record {
    meta = ap (fold edit_meta contents.meta) meta;
    log = ap (λ (o : Option StoredEntry). appended contents.log (optional_entry o)) log;
    rows = λ place elsewhere. other_rows batch contents place (no_place tables place batch.rows elsewhere (subst (λ (es : List BodyEdit). AreWithin tables es) (sym rows) within.0));
    pending = λ place elsewhere. other_pending batch contents place (no_place tables place batch.pending elsewhere (subst (λ (es : List BodyEdit). AreWithin tables es) (sym pending) within.1));
  }

-- ---- what the code has pushed

pub ok_weaker : {T E : Type 0} (result : Result T E) (P Q : Type 0) → (P → Q) → OnOk result P → OnOk result Q
ok_weaker (Ok t) P Q on is = on is
ok_weaker (Err e) P Q on is = tt

pub pushed_as : (push : Bool) (number : ℕ) (key : List ℕ) (body other : Option (List ℕ)) (old new : List BodyEdit)
    → push ≡ true → body ≡ other → IsPushed true number key body old new → IsPushed push number key other old new
pushed_as push number key body other old new p b is =
    subst (λ (t : Bool). IsPushed t number key other old new) (sym p) (subst (λ (x : Option (List ℕ)). IsPushed true number key x old new) b is)

pub one_of : (a b : Bool) → ((a ≡ false) × (b ≡ true)) ⊎ (a ≡ true) → (a || b) ≡ true
one_of true b e = refl
one_of false b (inl e) = e.1
one_of false b (inr e) = absurd cc
