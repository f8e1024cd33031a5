-- What is looked at of a hub's store, step by step, is what it is.
use Rattle.std.proofs.Common.{◌≡◌, ◌≢◌, ◌∙◌, ℕ, List, [], ◌∷◌, Some, None, length, arith, ap, subst, sym}
use Rattle.std.specs.Prelude.{ℤ, pos}
use Rattle.std.specs.FinMap.{get, get-empty}
use Rattle.std.specs.List.{AllByRecursion}
use Rattle.std.proofs.lemmas.Option.{slice_get_within}
use Rattle.cs_value.specs.declared.catalog.TableDef.{TableDef}
use Rattle.cs_store.specs.Contents.{Bodies, Contents, HasEachEntry, StorePlace, log_count, meta_value, name_text, place_cmp}
use Rattle.cs_store.specs.Whole.{IsWhole, log_bodies}
use Rattle.cs_store.specs.declared.names.MetaName.{MetaName}
use Rattle.cs_store.specs.declared.names.MetaName.TheVariants.{Version, Number, Flight, Pending}
use Rattle.cs_opening.specs.declared.owning.Owner.TheVariants.{This}
use Rattle.cs_hub.specs.log_store.Shows.{hub_value}
use Rattle.cs_hub.specs.log_opening.Opens.{AreOf, IsHubStore}
use Rattle.cs_hub.specs.log_opening.Steps.{IsCounted, PendsNoneBelow}
use Rattle.cs_hub.proofs.LogOpeningLemmas.Many.{many_present}
use Rattle.cs_hub.proofs.LogOpeningLemmas.Names.{each_name, no_bodies, none_at}

-- none of a replica's names has a value
abbrev pub LackNames : Contents → Type 0
LackNames contents =
    AllByRecursion (λ (name : MetaName). meta_value contents name ≡ None) (Version ∷ Number ∷ Flight ∷ Pending ∷ [])

module _ (opening : List TableDef) (contents : Contents) where
  -- ---- what a hub's store is

  pub hub_pends : IsHubStore opening contents → PendsNoneBelow contents (length opening)
  hub_pends hub number less key = ap (λ (bodies : Bodies). get bodies (pos number, key)) hub.pending ∙ get-empty place_cmp (pos number, key)

  -- ---- what makes one

  module _ (this : AreOf opening contents This) (lacks : LackNames contents) (whole : IsWhole opening contents) (pends : PendsNoneBelow contents (length opening)) (all : HasEachEntry contents) where
    nowhere : (place : StorePlace) (body : List ℕ) → get contents.pending place ≡ Some body → ⊥
    nowhere place body e =
        let at = whole.pending place body e in
        let within = slice_get_within whole.present at.0 at.1 at.3 in
        let none = pends at.0 (omega (arith, within, many_present opening whole.present (log_bodies contents) whole.entries)) place.1 in
        absurd (let no = sym e ∙ ap (λ (z : ℤ). get contents.pending (z, place.1)) at.2 ∙ none in cc)

    no_other : (text : List ℕ) → ((name : MetaName) → name_text name ≢ text) → get contents.meta text ≡ None
    no_other text never = none_at (get contents.meta text) (λ value e. let is = whole.names text value e in never is.0 (sym is.1))

    pub hub_store : IsHubStore opening contents
    hub_store = record {
      whole = whole;
      values = record {
        values = each_name (λ name. meta_value contents name ≡ hub_value opening name) this.0 lacks.0 lacks.1.0 lacks.1.1.0 lacks.1.1.1.0 this.1;
        names = no_other;
      };
      pending = no_bodies contents.pending nowhere;
      entries = all;
    }

-- ---- the steps, each told of the contents as the one before left them

module _ (opening : List TableDef) (first second third fourth fifth : Contents) (lacked : second ≡ first) (checked : third ≡ second) (pended : fourth ≡ third) (counted : fifth ≡ fourth) where
  module _ (tables : List TableDef) (is : tables ≡ opening) (end : ℕ) (ends : end ≡ length tables) where
    ends_there : length opening ≡ end
    ends_there = sym (ends ∙ ap (λ (ts : List TableDef). length ts) is)

    pub some_pends : (PendsNoneBelow third end → ⊥) → IsHubStore opening first → ⊥
    some_pends never hub =
        never (subst (PendsNoneBelow third) ends_there (subst (λ (left : Contents). PendsNoneBelow left (length opening)) (sym (checked ∙ lacked)) (hub_pends opening first hub)))

    module _ (count : ℕ) (long : count ≡ log_count fourth) where
      count_is : count ≡ log_count first
      count_is = long ∙ ap log_count (pended ∙ checked ∙ lacked)

      pub all_counted : AreOf opening first This → LackNames first → IsWhole opening second → PendsNoneBelow third end → HasEachEntry fifth → IsCounted opening first (Some count)
      all_counted this lacks whole pends all = (
        hub_store opening first this lacks (subst (IsWhole opening) lacked whole)
            (subst (PendsNoneBelow first) (sym ends_there) (subst (λ (left : Contents). PendsNoneBelow left end) (checked ∙ lacked) pends))
            (subst HasEachEntry (counted ∙ pended ∙ checked ∙ lacked) all),
        count_is,
      )
