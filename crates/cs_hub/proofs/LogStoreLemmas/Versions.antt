-- The tables of a log by what is known of it.
use Rattle.std.proofs.Common.{◌≡◌, ◌+◌, ◌<◌, ◌≤◌, ◌++◌, ◌∙◌, ℕ, zero, suc, true, false, List, [], ◌∷◌, Option, Some, None, length, map, min, drop, get_or, refl, sym, ap, subst, arith}
use Rattle.std.specs.Prelude.{IfSome, nat_lt}
use Rattle.std.proofs.Math.Seq.{take-length}
use Rattle.std.proofs.lemmas.Bool.Decides.{nat_tests}
use Rattle.std.proofs.lemmas.List.{append-nil, map-append}
use Rattle.cs_value.specs.declared.catalog.TableDef.{TableDef}
use Rattle.cs_store.specs.log.Log.{catalog_after, catalog_at, catalog_next, catalog_of}
use Rattle.cs_store.specs.log.Widens.{CatalogByWidens, WidenAt, catalog_by, widen_at, widens_from}
use Rattle.cs_store.specs.declared.log.body.Body.{Body}
use Rattle.cs_store.specs.declared.log.body.Body.TheVariants.{Changes, Widen}
use Rattle.cs_store.specs.declared.log.entry.LogEntry.{LogEntry}
use Rattle.cs_hub.specs.declared.log_store.catalogs.Later.{Later}
use Rattle.cs_hub.specs.log_store.Later.{AreLater, ComesOf, tables_behind, widen_of, widens_in}
use Rattle.cs_hub.specs.log_store.Versions.{Versions, judging_tables, newest_tables, tables_by}

-- ---- those of the log that widened these tables

module _ (law : CatalogByWidens) (versions : Versions) (log : List LogEntry) (widens : versions.widens ≡ widens_from 0 log) where
  pub tables_shown : (version : ℕ) → tables_by versions version ≡ catalog_at versions.opening log version
  tables_shown version = ap (λ (ws : List WidenAt). catalog_by versions.opening ws version) widens ∙ law versions.opening log version

  module _ (newest : versions.newest ≡ length log) where
    pub newest_shown : newest_tables versions ≡ catalog_at versions.opening log (length log)
    newest_shown = tables_shown versions.newest ∙ ap (catalog_at versions.opening log) newest

    pub judging_shown : (base : ℕ) → judging_tables versions base ≡ catalog_at versions.opening log (min base (length log))
    judging_shown base = tables_shown (min base versions.newest) ∙ ap (λ (n : ℕ). catalog_at versions.opening log (min base n)) newest

-- ---- the same of all that is known

pub versions_are : (some other : Versions) → some.opening ≡ other.opening → some.newest ≡ other.newest → some.widens ≡ other.widens → some ≡ other
versions_are some other opening newest widens =
    ap (λ (t : List TableDef). made t some.newest some.widens) opening ∙ ap (λ (n : ℕ). made other.opening n some.widens) newest ∙ ap (made other.opening other.newest) widens
  where
    made : List TableDef → ℕ → List WidenAt → Versions
    made t n ws = record { opening = t; newest = n; widens = ws }

-- ---- the tables behind all

behind_body : (opening : List TableDef) (version : ℕ) (body : Body) (more : List WidenAt) → tables_behind opening (widen_at version body ++ more) ≡ tables_behind (catalog_after opening body) more
behind_body opening version (Changes changes) more = refl
behind_body opening version (Widen table width) more = refl

behind_of : (opening : List TableDef) (version : ℕ) (log : List LogEntry) → tables_behind opening (widens_from version log) ≡ catalog_of opening log
behind_of opening version [] = refl
behind_of opening version (entry ∷ log) =
    behind_body opening version entry.body (widens_from (version + 1) log) ∙ behind_of (catalog_next opening entry) (version + 1) log

pub behind_shown : (opening : List TableDef) (widens : List WidenAt) (log : List LogEntry) → widens ≡ widens_from 0 log → tables_behind opening widens ≡ catalog_at opening log (length log)
behind_shown opening widens log is =
    ap (tables_behind opening) is ∙ behind_of opening 0 log ∙ sym (ap (catalog_of opening) (take-length log))

-- ---- those that are kept

not_below : (m n : ℕ) → n ≤ m → nat_lt m n ≡ false
not_below m n le = grind (arith, nat_tests)

is_below : (m n : ℕ) → m < n → nat_lt m n ≡ true
is_below m n lt = grind (arith, nat_tests)

-- a place in a list, and what stands from there on
cut_here : {X : Type 0} (xs : List X) (i : ℕ) (x : X) → i < length xs → x ≡ get_or xs i x → drop i xs ≡ x ∷ drop (suc i) xs
cut_here [] i x less is = absurd (omega (arith, less))
cut_here (y ∷ xs) zero x less is = ap (λ (z : _). z ∷ xs) (sym is)
cut_here (y ∷ xs) (suc i) x less is = cut_here xs i x (omega (arith, less)) is

cut : {X : Type 0} (xs : List X) (i : ℕ) (x : X) → i < length xs → x ≡ get_or xs i x → drop i xs ≡ x ∷ drop (i + 1) xs
cut xs i x less is = cut_here xs i x less is ∙ ap (λ (n : ℕ). x ∷ drop n xs) (let e : suc i ≡ i + 1 = omega arith in e)

none_left : {X : Type 0} (xs : List X) (i : ℕ) → length xs ≤ i → drop i xs ≡ []
none_left [] zero within = refl
none_left [] (suc i) within = refl
none_left (x ∷ xs) zero within = absurd (omega (arith, within))
none_left (x ∷ xs) (suc i) within = none_left xs i (omega (arith, within))

-- of those from a place on, these tables come next
pub record AreLeft (version : ℕ) (by behind tables : List TableDef) (left : List Later) : Type 0 where
  pub chain : AreLater tables left
  pub there : catalog_by tables (map widen_of left) version ≡ by
  pub last : tables_behind tables (map widen_of left) ≡ behind

module _ (version : ℕ) (by behind : List TableDef) where
  pub one_left : (tables : List TableDef) (later : List Later) (i : ℕ) (one : Later) → i < length later → one ≡ get_or later i one → AreLeft version by behind tables (drop i later) → AreLeft version by behind tables (one ∷ drop (i + 1) later)
  one_left tables later i one less is left = subst (AreLeft version by behind tables) (cut later i one less is) left

  pub stops_above : (tables : List TableDef) (one : Later) (more : List Later) → version ≤ one.at → AreLeft version by behind tables (one ∷ more) → tables ≡ by
  stops_above tables one more above left = subst (λ (t : List TableDef). t ≡ by) (simp (not_below one.at version above) refl) left.there

  pub next_below : (tables : List TableDef) (one : Later) (more : List Later) → one.at < version → AreLeft version by behind tables (one ∷ more) → AreLeft version by behind one.catalog more
  next_below tables one more less left = record {
    chain = left.chain.1;
    there = ap (λ (t : List TableDef). catalog_by t (map widen_of more) version) left.chain.0
        ∙ subst (λ (t : List TableDef). t ≡ by) (simp (is_below one.at version less) refl) left.there;
    last = ap (λ (t : List TableDef). tables_behind t (map widen_of more)) left.chain.0 ∙ left.last;
  }

  pub all_below : (tables : List TableDef) (later : List Later) (i : ℕ) → length later ≤ i → AreLeft version by behind tables (drop i later) → tables ≡ by
  all_below tables later i all left =
      let none = subst (AreLeft version by behind tables) (none_left later i all) left in none.there

pub behind_next : (behind tables : List TableDef) (later : List Later) (i : ℕ) (one : Later) → i < length later → one ≡ get_or later i one → AreLater tables (drop i later) → tables_behind tables (map widen_of (drop i later)) ≡ behind
    → AreLater one.catalog (drop (i + 1) later) × (tables_behind one.catalog (map widen_of (drop (i + 1) later)) ≡ behind)
behind_next behind tables later i one less is chain last =
    let here = subst (AreLater tables) (cut later i one less is) chain in (
      here.1,
      ap (λ (t : List TableDef). tables_behind t (map widen_of (drop (i + 1) later))) here.0
          ∙ subst (λ (ls : List Later). tables_behind tables (map widen_of ls) ≡ behind) (cut later i one less is) last,
    )

pub behind_all : (behind tables : List TableDef) (later : List Later) (i : ℕ) → length later ≤ i → tables_behind tables (map widen_of (drop i later)) ≡ behind → tables ≡ behind
behind_all behind tables later i all last = subst (λ (ls : List Later). tables_behind tables (map widen_of ls) ≡ behind) (none_left later i all) last

pub grown_later : (opening : List TableDef) (later : List Later) (last : Later) → AreLater opening later → ComesOf (tables_behind opening (map widen_of later)) last → AreLater opening (later ++ last ∷ [])
grown_later opening [] last are is = (is, tt)
grown_later opening (one ∷ later) last are is =
    (are.0, grown_later one.catalog later last are.1 (subst (λ (tables : List TableDef). ComesOf (tables_behind tables (map widen_of later)) last) (sym are.0) is))

pub grown_widens : (later : List Later) (last : Later) → map widen_of (later ++ last ∷ []) ≡ map widen_of later ++ widen_of last ∷ []
grown_widens later last = map-append widen_of later (last ∷ [])

-- one more is put behind those that are kept, for which room was taken
module _ (opening : List TableDef) (held reserved : List Later) (same : reserved ≡ held) (later : Option Later) where
  pub later_grows : (tables : List TableDef) (grown : List Later) (one : Later) → AreLater opening held → tables ≡ tables_behind opening (map widen_of reserved) → later ≡ Some one → IfSome later (ComesOf tables)
      → grown ≡ reserved ++ one ∷ [] → AreLater opening grown
  later_grows tables grown one are behind is made more =
      let one_is : ComesOf tables one = subst (λ (l : Option Later). IfSome l (ComesOf tables)) is made in
      subst (AreLater opening) (sym more) (grown_later opening reserved one (subst (AreLater opening) (sym same) are) (subst (λ (t : List TableDef). ComesOf t one) behind one_is))

  pub widens_more : (grown : List Later) (one : Later) → later ≡ Some one → grown ≡ reserved ++ one ∷ [] → map widen_of grown ≡ map widen_of held ++ widens_in later
  widens_more grown one is more =
      ap (map widen_of) (more ∙ ap (λ (ls : List Later). ls ++ one ∷ []) same) ∙ grown_widens held one ∙ sym (ap (λ (l : Option Later). map widen_of held ++ widens_in l) is)

  pub widens_same : ((one : Later) → later ≡ Some one → ⊥) → map widen_of reserved ≡ map widen_of held ++ widens_in later
  widens_same none = ap (map widen_of) same ∙ sym (append-nil (map widen_of held)) ∙ ap (λ (ws : List WidenAt). map widen_of held ++ ws) (no_widen later none)
    where
      no_widen : (l : Option Later) → ((one : Later) → l ≡ Some one → ⊥) → [] ≡ widens_in l
      no_widen None none = refl
      no_widen (Some one) none = absurd (none one refl)
