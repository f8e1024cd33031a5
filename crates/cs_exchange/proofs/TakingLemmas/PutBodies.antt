-- Bodies put at the places of changes, and the values of the next version.
use Rattle.std.proofs.Common.{◌≡◌, ◌&&◌, ℕ, Bool, true, false, cond, List, [], ◌∷◌, Option, Some, None, refl, sym, ap, ap₂, ◌∙◌, arith}
use Rattle.std.specs.Prelude.{pos, nat_eq, slice_get}
use Rattle.std.specs.Cmp.{Equal-is}
use Rattle.std.specs.FinMap.{get, get-insert, get-remove}
use Rattle.std.specs.List.{AllByRecursion}
use Rattle.std.specs.Ordering.{eq_by_cmp}
use Rattle.std.proofs.lemmas.Bool.Decides.{Decides-eqb}
use Rattle.std.proofs.lemmas.Cmp.{eq_by_cmp_equiv, nat_list_cmp_total}
use Rattle.std.proofs.lemmas.Option.{slice_get_within}
use Rattle.cs_value.specs.Facts.{by_test}
use Rattle.cs_value.specs.Catalog.{AreTables}
use Rattle.cs_value.specs.Laws.{OnePlaceOfName}
use Rattle.cs_value.specs.declared.catalog.TableDef.{TableDef}
use Rattle.cs_order.specs.Order.{by_bytes, same_bytes}
use Rattle.cs_store.specs.Contents.{Bodies, Meta, StorePlace, name_text, place_cmp}
use Rattle.cs_store.specs.Whole.{IsName}
use Rattle.cs_store.specs.Written.{with_body, with_meta}
use Rattle.cs_store.specs.declared.names.MetaName.{MetaName}
use Rattle.cs_store.specs.declared.names.MetaName.TheVariants.{Version, Flight}
use Rattle.cs_apply.specs.NormalTasks.{AreElsewhere, IsKnown, spot_of}
use Rattle.cs_apply.specs.Spots.{both_true, key_is, key_refl, same_spot, spot_is}
use Rattle.cs_tasks.specs.Tasks.{Task}
use Rattle.cs_pending.specs.OnePlace.{tests_agree}
use Rattle.cs_pending.specs.Shows.{IsElsewhere}
use Rattle.cs_exchange.proofs.TakingLemmas.OneContents.{place_exact, place_total}

get_with : (bodies : Bodies) (place q : StorePlace) (body : Option (List ℕ)) → get (with_body bodies place body) q ≡ cond (eq_by_cmp place_cmp q place) body (get bodies q)
get_with bodies place q None = get-remove place_total bodies place q
get_with bodies place q (Some body) = get-insert place_total bodies place body q

place_is : (some other : StorePlace) → eq_by_cmp place_cmp some other ≡ true → some ≡ other
place_is some other e = place_exact some other ((Equal-is (place_cmp some other)).0 e)

-- at the place of each change the body that is said of its spot
pub put_bodies : (List ℕ → List ℕ → Option (List ℕ)) → List Task → Bodies → Bodies
put_bodies f [] bodies = bodies
put_bodies f (t ∷ ts) bodies = with_body (put_bodies f ts bodies) (pos t.table, t.key) (f t.name t.key)

module _ (tables : List TableDef) (are : AreTables tables) (one : OnePlaceOfName) where
  -- the tests of places and of spots agree
  places_agree : (t : Task) → IsKnown tables t → (number : ℕ) (table : TableDef) (key : List ℕ) → slice_get tables number ≡ Some table
      → eq_by_cmp place_cmp (pos number, key) (pos t.table, t.key) ≡ same_spot (table.name, key) (spot_of t)
  places_agree t is number table key found =
      let agree : same_spot (table.name, key) (spot_of t) ≡ (nat_eq number t.table && same_bytes key t.key) =
      ap (λ (n : List ℕ). same_spot (table.name, key) (n, t.key)) (sym is.there.named) ∙ tests_agree tables are one t.table number is.there.table table key t.key is.there.stands found in
      by_test (nat_eq number t.table && same_bytes key t.key) _
      (λ e. let both = both_true (nat_eq number t.table) (same_bytes key t.key) e in
      let same : (pos number, key) ≡ (pos t.table, t.key) = ap₂ (λ (n : ℕ) (k : List ℕ). (pos n, k)) ((Decides-eqb number t.table).0 both.0) (key_is key t.key both.1) in
      ap (λ (p : StorePlace). eq_by_cmp place_cmp p (pos t.table, t.key)) same ∙ (eq_by_cmp_equiv place_total).refl (pos t.table, t.key) ∙ sym e ∙ sym agree)
      (λ e. by_test (eq_by_cmp place_cmp (pos number, key) (pos t.table, t.key)) _
      (λ f. let same = place_is (pos number, key) (pos t.table, t.key) f in
      let numbers : number ≡ t.table = (let g = ap (λ (p : StorePlace). p.0) same in cc) in
      let keys : key ≡ t.key = ap (λ (p : StorePlace). p.1) same in
      let yes : (nat_eq number t.table && same_bytes key t.key) ≡ true =
      ap₂ (λ (n : ℕ) (k : List ℕ). nat_eq n t.table && same_bytes k t.key) numbers keys
      ∙ ap₂ (λ (a b : Bool). a && b) ((Decides-eqb t.table t.table).1 refl) (key_refl t.key) in
      absurd (let no = sym yes ∙ e in cc))
      (λ f. f ∙ sym e ∙ sym agree))

  module _ (f : List ℕ → List ℕ → Option (List ℕ)) (bodies : Bodies) where
    pub body_there : (ts : List Task) → AllByRecursion (IsKnown tables) ts → (number : ℕ) (table : TableDef) (key : List ℕ) → slice_get tables number ≡ Some table
        → (AreElsewhere (table.name, key) ts → get bodies (pos number, key) ≡ f table.name key) → get (put_bodies f ts bodies) (pos number, key) ≡ f table.name key
    unfolding put_bodies
    body_there [] known number table key found stood = stood tt
    body_there (t ∷ ts) known number table key found stood =
        let agree = places_agree t known.0 number table key found in
        get_with (put_bodies f ts bodies) (pos t.table, t.key) (pos number, key) (f t.name t.key)
        ∙ by_test (same_spot (table.name, key) (spot_of t)) _
        (λ e. let is = spot_is (table.name, key) (spot_of t) e in
        ap (λ (b : Bool). cond b (f t.name t.key) (get (put_bodies f ts bodies) (pos number, key))) (agree ∙ e) ∙ ap₂ f (sym is.0) (sym is.1))
        (λ e. ap (λ (b : Bool). cond b (f t.name t.key) (get (put_bodies f ts bodies) (pos number, key))) (agree ∙ e)
        ∙ body_there ts known.1 number table key found (λ away. stood (e, away)))

    pub body_past : (ts : List Task) → AllByRecursion (IsKnown tables) ts → (place : StorePlace) → IsElsewhere tables place → get (put_bodies f ts bodies) place ≡ get bodies place
    unfolding put_bodies
    body_past [] known place elsewhere = refl
    body_past (t ∷ ts) known place elsewhere =
        get_with (put_bodies f ts bodies) (pos t.table, t.key) place (f t.name t.key)
        ∙ by_test (eq_by_cmp place_cmp place (pos t.table, t.key)) _
        (λ e. let out = elsewhere t.table (ap (λ (p : StorePlace). p.0) (place_is place (pos t.table, t.key) e)) in
        let within = slice_get_within tables t.table known.0.there.table known.0.there.stands in
        absurd (omega (arith, out, within)))
        (λ e. ap (λ (b : Bool). cond b (f t.name t.key) (get (put_bodies f ts bodies) place)) e ∙ body_past ts known.1 place elsewhere)

-- ---- values

pub get_value : (meta : Meta) (name q : List ℕ) (value : Option (List ℕ)) → get (with_meta meta name value) q ≡ cond (eq_by_cmp by_bytes q name) value (get meta q)
get_value meta name q None = get-remove nat_list_cmp_total meta name q
get_value meta name q (Some value) = get-insert nat_list_cmp_total meta name value q

-- a version, and nothing under way
pub next_meta : List ℕ → Meta → Meta
next_meta version meta = with_meta (with_meta meta (name_text Version) (Some version)) (name_text Flight) None

pub value_next : (version : List ℕ) (meta : Meta) (q : List ℕ)
    → get (next_meta version meta) q ≡ cond (eq_by_cmp by_bytes q (name_text Flight)) None (cond (eq_by_cmp by_bytes q (name_text Version)) (Some version) (get meta q))
unfolding next_meta
value_next version meta q =
    get_value (with_meta meta (name_text Version) (Some version)) (name_text Flight) q None
    ∙ ap (λ (o : Option (List ℕ)). cond (eq_by_cmp by_bytes q (name_text Flight)) None o) (get_value meta (name_text Version) q (Some version))

pub name_or : (text : List ℕ) (name : MetaName) → (eq_by_cmp by_bytes text (name_text name) ≡ false → IsName text) → IsName text
name_or text name other = by_test (eq_by_cmp by_bytes text (name_text name)) _ (λ e. (name, key_is text (name_text name) e)) other

pub next_names : (version : List ℕ) (meta : Meta) → ((name value : List ℕ) → get meta name ≡ Some value → IsName name) → (name value : List ℕ) → get (next_meta version meta) name ≡ Some value → IsName name
next_names version meta names name value is =
    name_or name Flight (λ e. name_or name Version (λ f.
    names name value (sym (value_next version meta name
    ∙ ap (λ (b : Bool). cond b None (cond (eq_by_cmp by_bytes name (name_text Version)) (Some version) (get meta name))) e
    ∙ ap (λ (b : Bool). cond b (Some version) (get meta name)) f) ∙ is)))
