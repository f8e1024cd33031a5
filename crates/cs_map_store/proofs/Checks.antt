-- What a check finds of all that a `MapStore` holds.
use Rattle.std.proofs.Common.{◌≡◌, ℕ, zero, suc, ◌+◌, ◌<◌, Bool, true, false, cond, ◌&&◌, List, [], ◌∷◌, ◌++◌, Option, Some, None, refl, sym, ap, subst, ◌∙◌, T, length, get_or, take, drop, map, fold, arith, IsTrue}
use Rattle.std.specs.Prelude.{ℤ, pos, ◌↔◌}
use Rattle.std.specs.List.{AllByRecursion}
use Rattle.std.specs.declared.cmp.Ordering.{Ordering}
use Rattle.std.specs.declared.cmp.Ordering.TheVariants.{Less, Equal, Greater}
use Rattle.std.specs.Ordering.{is_eq, is_lt, eq_by_cmp, int_cmp}
use Rattle.std.specs.Cmp.{eq_by_cmp_equiv}
use Rattle.std.specs.FinMap.{empty, get, len, find, get-empty, is_sorted, get-from_sorted, get-from_entries}
use Rattle.std.specs.FinMap.Entries.{below_all}
use Rattle.std.proofs.lemmas.Cmp.{int_cmp_total}
use Rattle.std.proofs.lemmas.Map.Lookups.{exact_bytes}
use Rattle.std.proofs.lemmas.Option.{same_Some}
use Rattle.std.proofs.lemmas.List.{take_more, take_all, drop_more, take-append-drop, map-append, append-nil, append_assoc}
use Rattle.cs_value.specs.declared.catalog.TableDef.{TableDef}
use Rattle.cs_order.specs.Order.{by_bytes}
use Rattle.cs_store.specs.declared.batch.MetaEdit.{MetaEdit}
use Rattle.cs_store.specs.Contents.{Bodies, Contents, LogItem, Meta, StorePlace, log_count, place_cmp, name_text}
use Rattle.cs_store.specs.Written.{edit_meta, optional_bytes}
use Rattle.cs_store.specs.Whole.{AreJudged, AtTable, Decodes, IsName, IsWhole, StoresChange, StoresRow, log_bodies}
use Rattle.cs_store.specs.WholeLaws.{BodiesInOrder, DecodesOn, OnePresent, RefusedOn}
use Rattle.cs_value.specs.Catalog.{AreTables}
use Rattle.cs_leaf.specs.Entries.{Entry}
use Rattle.cs_map_store.specs.Leaves.{bodies_in, flat}
use Rattle.cs_map_store.specs.Slots.{HasOwnNames, SlotKey, Slot, held_in, log_of, meta_of, numbered, shown}
use Rattle.cs_map_store.proofs.Maps.{place_total, place_exact, get-with_meta}
use Rattle.cs_map_store.proofs.Rising.{first, second}
use Rattle.cs_map_store.proofs.Numbered.{log_len}
use Rattle.cs_map_store.proofs.Ranging.{each_is_there, range_is}

-- ---- what a loop over a list has found

pub each_at : {X : Type 0} (P : X → Type 0) (xs : List X) (k : ℕ) (d : X) → k < length xs → AllByRecursion P xs → P (get_or xs k d)
each_at P [] k d h all = absurd (omega (arith, h))
each_at P (x ∷ xs) zero d h all = all.0
each_at P (x ∷ xs) (suc k) d h all = each_at P xs k d (omega (arith, h)) all.1

pub each_append : {X : Type 0} (P : X → Type 0) (xs ys : List X) → AllByRecursion P xs → AllByRecursion P ys → AllByRecursion P (xs ++ ys)
each_append P [] ys a b = b
each_append P (x ∷ xs) ys a b = (a.0, each_append P xs ys a.1 b)

each_front : {X : Type 0} (P : X → Type 0) (xs ys : List X) → AllByRecursion P (xs ++ ys) → AllByRecursion P xs
each_front P [] ys a = tt
each_front P (x ∷ xs) ys a = (a.0, each_front P xs ys a.1)

each_back : {X : Type 0} (P : X → Type 0) (xs ys : List X) → AllByRecursion P (xs ++ ys) → AllByRecursion P ys
each_back P [] ys a = a
each_back P (x ∷ xs) ys a = each_back P xs ys a.1

-- one more is good
pub each_more : {X : Type 0} (P : X → Type 0) (xs : List X) (k : ℕ) (d : X) → k < length xs → AllByRecursion P (take k xs) → P (get_or xs k d) → AllByRecursion P (take (k + 1) xs)
each_more P xs k d h all good = subst (AllByRecursion P) (sym (take_more xs k d h)) (each_append P (take k xs) (get_or xs k d ∷ []) all (good, tt))

each_of_leaf : (P : Entry → Type 0) (leaves : List (List Entry)) (k : ℕ) (d : List Entry) → k < length leaves → AllByRecursion P (flat leaves) → AllByRecursion P (get_or leaves k d)
each_of_leaf P [] k d h all = absurd (omega (arith, h))
each_of_leaf P (leaf ∷ leaves) zero d h all = each_front P leaf (flat leaves) all
each_of_leaf P (leaf ∷ leaves) (suc k) d h all = each_of_leaf P leaves k d (omega (arith, h)) (each_back P leaf (flat leaves) all)

pub leaf_of_each : (P : Entry → Type 0) (leaves : List (List Entry)) (k : ℕ) (leaf : List Entry) → k < length leaves → leaf ≡ get_or leaves k leaf → AllByRecursion P (flat leaves) → AllByRecursion P leaf
leaf_of_each P leaves k leaf h is all = subst (AllByRecursion P) (sym is) (each_of_leaf P leaves k leaf h all)

flat_more : (xs ys : List (List Entry)) → flat (xs ++ ys) ≡ flat xs ++ flat ys
flat_more [] ys = refl
flat_more (x ∷ xs) ys = ap (λ (es : List Entry). x ++ es) (flat_more xs ys) ∙ sym (append_assoc x (flat xs) (flat ys))

pub leaves_more : (P : Entry → Type 0) (leaves : List (List Entry)) (k : ℕ) (leaf : List Entry) → k < length leaves → leaf ≡ get_or leaves k leaf → AllByRecursion P (flat (take k leaves)) → AllByRecursion P leaf
    → AllByRecursion P (flat (take (k + 1) leaves))
leaves_more P leaves k leaf h is all good =
    subst (λ (ls : List (List Entry)). AllByRecursion P (flat ls)) (sym (take_more leaves k leaf h))
    (subst (AllByRecursion P) (sym (flat_more (take k leaves) (get_or leaves k leaf ∷ []) ∙ ap (λ (es : List Entry). flat (take k leaves) ++ es) (append-nil (get_or leaves k leaf))))
    (each_append P (flat (take k leaves)) (get_or leaves k leaf) all (subst (AllByRecursion P) is good)))

-- ---- no list of which one is bad

pub one_is_bad : (good : Bool) (Q R : Type 0) → good ≡ false → (IsTrue good ↔ R) → (Q → R) → IsTrue false ↔ Q
one_is_bad good Q R bad is from = (λ no. absurd cc, λ q. sym bad ∙ is.1 (from q))

-- ---- what is found in entries in order

lt_apart : (o : Ordering) → T (is_lt o) → is_eq o ≡ false
lt_apart Less h = refl
lt_apart Equal h = absurd h
lt_apart Greater h = absurd h

none_below : (p : StorePlace) (es : List Entry) → T (below_all place_cmp p es) → find place_cmp p es ≡ None
none_below p [] h = refl
none_below p (e ∷ es) h = ap (λ b. cond b (Some e.1) (find place_cmp p es)) (lt_apart (place_cmp p e.0) (first _ _ h)) ∙ none_below p es (second _ _ h)

module _ (P : StorePlace → List ℕ → Type 0) where
  pub found_holds : (es : List Entry) → AllByRecursion (λ e. P e.0 e.1) es → (place : StorePlace) (body : List ℕ) → find place_cmp place es ≡ Some body → P place body
  found_holds [] all place body is = let no : ◌≡◌ {A = Option (List ℕ)} None (Some body) = is in absurd cc
  found_holds (e ∷ es) all place body is =
      elim (place_cmp place e.0) as (λ o. place_cmp place e.0 ≡ o → cond (is_eq o) (Some e.1) (find place_cmp place es) ≡ Some body → P place body) [
        | Less ↦ λ t g. found_holds es all.1 place body g
        | Equal ↦ λ t g. subst (λ (p : StorePlace). P p body) (sym (place_exact place e.0 t)) (subst (P e.0) (same_Some e.1 body g) all.0)
        | Greater ↦ λ t g. found_holds es all.1 place body g
      ] refl is

  pub holds_found : (es : List Entry) → T (is_sorted place_cmp es) → ((place : StorePlace) (body : List ℕ) → find place_cmp place es ≡ Some body → P place body) → AllByRecursion (λ e. P e.0 e.1) es
  holds_found [] s h = tt
  holds_found (e ∷ es) s h = (
    h e.0 e.1 (ap (λ b. cond b (Some e.1) (find place_cmp e.0 es)) ((eq_by_cmp_equiv place_total).refl e.0)),
    holds_found es (second _ _ s) (λ place body is. h place body (behind place body is)),
  )
    where
      behind : (place : StorePlace) (body : List ℕ) → find place_cmp place es ≡ Some body → find place_cmp place (e ∷ es) ≡ Some body
      behind place body is = elim (place_cmp place e.0) as (λ o. place_cmp place e.0 ≡ o → cond (is_eq o) (Some e.1) (find place_cmp place es) ≡ Some body) [
        | Less ↦ λ t. is
        | Equal ↦ λ t. let no : ◌≡◌ {A = Option (List ℕ)} None (Some body) = sym (none_below e.0 es (first _ _ s)) ∙ ap (λ (p : StorePlace). find place_cmp p es) (sym (place_exact place e.0 t)) ∙ is in absurd cc
        | Greater ↦ λ t. is
      ] refl

  pub leaves_hold : (leaves : List (List Entry)) → T (is_sorted place_cmp (flat leaves))
      → AllByRecursion (λ e. P e.0 e.1) (flat leaves) ↔ ((place : StorePlace) (body : List ℕ) → get (bodies_in leaves) place ≡ Some body → P place body)
  leaves_hold leaves s = (
    λ all place body is. found_holds (flat leaves) all place body (sym (get-from_sorted place_cmp (flat leaves) place s) ∙ is),
    λ h. holds_found (flat leaves) s (λ place body is. h place body (get-from_sorted place_cmp (flat leaves) place s ∙ is)),
  )

-- ---- the log

abbrev pub bodies_of : List LogItem → List (List ℕ)
bodies_of items = map (λ item. item.body) items

pub bodies_more : (xs : List LogItem) (k : ℕ) (d : LogItem) → k < length xs → bodies_of (take (k + 1) xs) ≡ bodies_of (take k xs) ++ (get_or xs k d).body ∷ []
bodies_more xs k d h = ap bodies_of (take_more xs k d h) ∙ map-append (λ (item : LogItem). item.body) (take k xs) (get_or xs k d ∷ [])

bodies_split : (xs : List LogItem) (k : ℕ) (d : LogItem) → k < length xs → bodies_of xs ≡ bodies_of (take k xs) ++ (get_or xs k d).body ∷ bodies_of (drop (k + 1) xs)
bodies_split xs k d h =
    ap bodies_of (sym (take-append-drop k xs)) ∙ map-append (λ (item : LogItem). item.body) (take k xs) (drop k xs)
    ∙ ap (λ (rest : List LogItem). bodies_of (take k xs) ++ bodies_of rest) (drop_more xs k d h)

-- one more body decodes
pub one_more : DecodesOn → (opening before after : List TableDef) (xs : List LogItem) (k : ℕ) (d : LogItem) (body : List ℕ) (good : Bool) → k < length xs → body ≡ (get_or xs k d).body → good ≡ true
    → Decodes opening (bodies_of (take k xs)) before → AreJudged before (body ∷ []) good after → Decodes opening (bodies_of (take (k + 1) xs)) after
one_more on opening before after xs k d body good h is told front next =
    subst (λ (bodies : List (List ℕ)). Decodes opening bodies after) (sym (bodies_more xs k d h ∙ ap (λ (bytes : List ℕ). bodies_of (take k xs) ++ bytes ∷ []) (sym is)))
    ((on opening after (bodies_of (take k xs)) (body ∷ [])).1 (before, front, subst (λ (b : Bool). AreJudged before (body ∷ []) b after) told next))

-- where one doesn't behind those that do, the log doesn't
pub one_less : RefusedOn → (opening before after : List TableDef) (xs : List LogItem) (k : ℕ) (d : LogItem) (body : List ℕ) (good : Bool) → AreTables opening → k < length xs → body ≡ (get_or xs k d).body → good ≡ false
    → Decodes opening (bodies_of (take k xs)) before → AreJudged before (body ∷ []) good after → AreJudged opening (bodies_of xs) false opening
one_less refused opening before after xs k d body good are h is told front next =
    subst (λ (bodies : List (List ℕ)). AreJudged opening bodies false opening) (sym (bodies_split xs k d h ∙ ap (λ (bytes : List ℕ). bodies_of (take k xs) ++ bytes ∷ bodies_of (drop (k + 1) xs)) (sym is)))
    (refused opening before after (bodies_of (take k xs)) body (bodies_of (drop (k + 1) xs)) are front (subst (λ (b : Bool). AreJudged before (body ∷ []) b after) told next))

-- the bodies of what is held are those of the list
bodies_held : BodiesInOrder → (held : Contents) (xs : List LogItem) → held.log ≡ log_of xs → log_bodies held ≡ bodies_of xs
bodies_held in_order held xs is =
    in_order held (each_is_there held xs is)
    ∙ ap bodies_of (sym (range_is held xs is (log_count held) 0) ∙ take_all (log_count held) xs (omega (arith, ap (λ log. len log) is, log_len xs)))

-- ---- names

own_after : (meta : Meta) (edit : MetaEdit) → HasOwnNames meta → HasOwnNames (edit_meta meta edit)
unfolding HasOwnNames
own_after meta edit own name value is =
    elim (eq_by_cmp by_bytes name (name_text edit.name)) as (λ b. eq_by_cmp by_bytes name (name_text edit.name) ≡ b → cond b (optional_bytes edit.value) (get meta name) ≡ Some value → IsName name) [
      | true ↦ λ t g. (edit.name, tied name (name_text edit.name) t)
      | false ↦ λ t g. own name value g
    ] refl (sym (get-with_meta meta (name_text edit.name) (optional_bytes edit.value) name) ∙ is)
  where
    equal : (o : Ordering) → is_eq o ≡ true → o ≡ Equal
    equal Less h = absurd cc
    equal Equal h = refl
    equal Greater h = absurd cc

    tied : (a b : List ℕ) → eq_by_cmp by_bytes a b ≡ true → a ≡ b
    tied a b t = exact_bytes a b (equal _ t)

own_edits : (meta : Meta) (edits : List MetaEdit) → HasOwnNames meta → HasOwnNames (fold edit_meta meta edits)
own_edits meta [] own = own
own_edits meta (edit ∷ edits) own = own_edits (edit_meta meta edit) edits (own_after meta edit own)

pub own_written : (old new : Meta) (edits : List MetaEdit) → new ≡ fold edit_meta old edits → HasOwnNames old → HasOwnNames new
own_written old new edits is own = subst HasOwnNames (sym is) (own_edits old edits own)

pub own_kept : (old new : Bodies) → new ≡ old → HasOwnNames (meta_of old) → HasOwnNames (meta_of new)
own_kept old new is own = subst (λ (c : Bodies). HasOwnNames (meta_of c)) (sym is) own

pub own_empty : (meta : Meta) → meta ≡ empty → HasOwnNames meta
unfolding HasOwnNames
own_empty meta none name value is = let no : ◌≡◌ {A = Option (List ℕ)} None (Some value) = sym (get-empty by_bytes name) ∙ ap (λ (m : Meta). get m name) (sym none) ∙ is in absurd cc

-- ---- all together

two : (a b : Bool) → (a && b) ≡ true → (a ≡ true) × (b ≡ true)
two true true h = (refl, refl)
two true false h = absurd cc
two false b h = absurd cc

both : (a b : Bool) → a ≡ true → b ≡ true → (a && b) ≡ true
both true true p q = refl
both true false p q = absurd cc
both false b p q = absurd cc

module _ (in_order : BodiesInOrder) (opening : List TableDef) (rows pending : Bodies) (es : List (SlotKey × Slot)) (xs : List LogItem) where
  abbrev Held : Contents
  Held = held_in rows pending es xs

  bodies : log_bodies Held ≡ bodies_of xs
  bodies = bodies_held in_order Held xs refl

  -- where the log decodes, rows and pending changes are by the tables that it leaves
  pub whole_is : OnePresent → AreTables opening → HasOwnNames (meta_of (shown es)) → (present : List TableDef) (a b : Bool) → Decodes opening (bodies_of xs) present
      → (IsTrue a ↔ ((place : StorePlace) (body : List ℕ) → get rows place ≡ Some body → AtTable StoresRow present place body))
      → (IsTrue b ↔ ((place : StorePlace) (body : List ℕ) → get pending place ≡ Some body → AtTable StoresChange present place body))
      → IsTrue (a && b) ↔ IsWhole opening Held
  unfolding HasOwnNames
  whole_is one are own present a b decodes ra pb = (
    λ all.
        let each = two a b all in
        record { present = present; entries = subst (λ (l : List (List ℕ)). Decodes opening l present) (sym bodies) decodes; rows = ra.0 each.0; pending = pb.0 each.1; names = own },
    λ whole.
        let same : whole.present ≡ present = one opening whole.present present (bodies_of xs) are (subst (λ (l : List (List ℕ)). Decodes opening l whole.present) bodies whole.entries) decodes in
        both a b (ra.1 (subst (λ (t : List TableDef). (place : StorePlace) (body : List ℕ) → get rows place ≡ Some body → AtTable StoresRow t place body) same whole.rows))
        (pb.1 (subst (λ (t : List TableDef). (place : StorePlace) (body : List ℕ) → get pending place ≡ Some body → AtTable StoresChange t place body) same whole.pending)),
  )

  -- where it doesn't, it isn't whole
  pub not_whole : AreJudged opening (bodies_of xs) false opening → IsTrue false ↔ IsWhole opening Held
  not_whole never = (
    λ no. absurd cc,
    λ whole. absurd (never whole.present (subst (λ (l : List (List ℕ)). Decodes opening l whole.present) bodies whole.entries)),
  )
