-- A store without a log: all that it holds is by the tables that it is judged by.
use Rattle.std.proofs.Common.{◌≡◌, ℕ, ℤ, List, [], ◌∷◌, length, map, Some, refl, sym, ap, subst, ◌∙◌, arith}
use Rattle.std.specs.FinMap.{empty, entries, get, len, len-empty, len-entries}
use Rattle.std.specs.Ordering.{int_cmp}
use Rattle.cs_value.specs.declared.catalog.TableDef.{TableDef}
use Rattle.cs_store.specs.Contents.{Contents, Log, LogItem, StorePlace, log_count}
use Rattle.cs_store.specs.Whole.{AtTable, Decodes, IsName, IsPresent, IsWhole, StoresChange, StoresRow, log_bodies}

no_items : (items : List (ℤ × LogItem)) → length items ≡ 0 → items ≡ []
no_items [] none = refl
no_items (item ∷ items) none = absurd (omega (arith, none))

no_bodies : (contents : Contents) → log_count contents ≡ 0 → log_bodies contents ≡ []
no_bodies contents none = ap (map (λ (entry : ℤ × LogItem). entry.1.body)) (no_items (entries contents.log) (sym (len-entries contents.log) ∙ none))

-- the present tables are those
pub no_log : (tables : List TableDef) (contents : Contents) → log_count contents ≡ 0 → IsPresent tables contents tables
no_log tables contents none = subst (λ (bodies : List (List ℕ)). Decodes tables bodies tables) (sym (no_bodies contents none)) refl

pub empty_log : (contents : Contents) → contents.log ≡ empty → log_count contents ≡ 0
empty_log contents is = ap (λ (log : Log). len log) is ∙ len-empty int_cmp LogItem

-- rows, pending changes and names by them
pub record HoldsTheirs (tables : List TableDef) (contents : Contents) : Type 0 where
  pub rows : (place : StorePlace) (body : List ℕ) → get contents.rows place ≡ Some body → AtTable StoresRow tables place body
  pub pending : (place : StorePlace) (body : List ℕ) → get contents.pending place ≡ Some body → AtTable StoresChange tables place body
  pub names : (name value : List ℕ) → get contents.meta name ≡ Some value → IsName name

pub theirs : (tables : List TableDef) (contents : Contents) → log_count contents ≡ 0 → IsWhole tables contents → HoldsTheirs tables contents
theirs tables contents none whole =
    let same : whole.present ≡ tables = subst (λ (bodies : List (List ℕ)). Decodes tables bodies whole.present) (no_bodies contents none) whole.entries in
    record {
      rows = λ place body is. subst (λ (t : List TableDef). AtTable StoresRow t place body) same (whole.rows place body is);
      pending = λ place body is. subst (λ (t : List TableDef). AtTable StoresChange t place body) same (whole.pending place body is);
      names = whole.names;
    }
