-- Walks over the entries of a lent table.
use Rattle.std.proofs.Common.{◌≡◌, ◌∙◌, ℕ, ◌+◌, ◌<◌, ◌≤◌, Bool, List, [], ◌∷◌, ◌++◌, length, take, refl, sym, ap, subst, Option, Some, None}
use Rattle.std.specs.List.{All, flat_map}
use Rattle.std.specs.Map.{keys_of}
use Rattle.std.proofs.Math.ListN.{get_or-map}
use Rattle.std.proofs.lemmas.List.{flat_map_more, length-map, map-append, take_all, take_more}
use Rattle.std.proofs.lemmas.List.Elements.{All-push}
use Rattle.cs_change.specs.Listed.{listed}
use Rattle.cs_change.specs.declared.change.Change.{Change}
use Rattle.cs_blob.specs.declared.blob.BlobGroup.{BlobGroup}
use Rattle.cs_normal.specs.keyed.Changes.{Changes}
use Rattle.cs_normal.specs.keyed.Prepared.{Entries, kept}
use Rattle.cs_normalising.specs.Lent.{nth_entry}
use Rattle.cs_order.specs.Order.{Keys, key_at}
use Rattle.cs_rebaser.specs.Rebase.{rebased_change}
use Rattle.cs_rebaser.specs.Rebased.{beside as left_beside, entry_at, placed, rebased_changes, rebased_keyed}
use Rattle.cs_rebaser.specs.Steps.{ArePicked, picked_changes, picked_keys, rebased_at, rebased_entry}
use Rattle.cs_rebaser.proofs.Walks.{pushed}

module _ (blob : List BlobGroup) (name : List ℕ) (marks : List Bool) where
  -- what is left of a change in normal form, if there is one
  abbrev form_left : List ℕ → Option Change → Option Change
  form_left key None = None
  form_left key (Some change) = rebased_change marks change (entry_at (name, key) (placed blob))

  appended : (key : List ℕ) (form : Option Change) → rebased_at marks form (entry_at (name, key) (placed blob)) ≡ listed (form_left key form)
  appended key None = refl
  appended key (Some change) = refl

  put_beside : (key : List ℕ) (form : Option Change) → rebased_entry blob name marks (key, form) ≡ left_beside key (form_left key form)
  put_beside key None = refl
  put_beside key (Some change) = refl

  -- ---- one entry

  module _ (es : Entries) (at : ℕ) (places : List ℕ) (left now : List Change) (so_far : ArePicked es places left) (grown : now ≡ left ++ rebased_at marks (nth_entry es at).1 (entry_at (name, (nth_entry es at).0) (placed blob))) where
    abbrev key : List ℕ
    key = (nth_entry es at).0

    abbrev change : Option Change
    change = form_left key (nth_entry es at).1

    abbrev keys : Keys
    keys = picked_keys es places

    many : length keys ≡ length left
    many = length-map places (key_at (keys_of es)) ∙ so_far.1

    is : now ≡ left ++ listed change
    is = grown ∙ ap (λ (cs : List Change). left ++ cs) (appended key (nth_entry es at).1)

    abbrev put : Changes
    put = rebased_entry blob name marks (nth_entry es at)

    put_is : left_beside key change ≡ put
    put_is = sym (put_beside key (nth_entry es at).1)

    -- something is left of it, and its place goes before
    pub one_picked : (more : List ℕ) → at < length es → length left < length now → more ≡ places ++ at ∷ [] → ArePicked es more now × (picked_changes es more now ≡ picked_changes es places left ++ put)
    one_picked more within longer places_are =
        let there : key_at (keys_of es) at ≡ key = get_or-map (λ (e : List ℕ × Option Change). e.0) es at ([], None) in
        let more_keys : picked_keys es more ≡ keys ++ key ∷ [] =
        ap (λ (ps : List ℕ). picked_keys es ps) places_are
        ∙ map-append (key_at (keys_of es)) places (at ∷ [])
        ∙ ap (λ (k : List ℕ). keys ++ k ∷ []) there in
        let both = pushed keys (picked_keys es more) left now key change many is longer more_keys in
        let all = subst (λ (ps : List ℕ). All (λ p. p < length es) ps) (sym places_are) (All-push (λ p. p < length es) places at so_far.0 within) in
        ((all, sym (length-map more (key_at (keys_of es))) ∙ both.0), both.1 ∙ ap (λ (cs : Changes). picked_changes es places left ++ cs) put_is)

  -- ---- all of them

  pub entries_more : (es : Entries) (at : ℕ) (so_far now : Changes) → at < length es → so_far ≡ flat_map (rebased_entry blob name marks) (take at es) → now ≡ so_far ++ rebased_entry blob name marks (nth_entry es at) → now ≡ flat_map (rebased_entry blob name marks) (take (at + 1) es)
  entries_more es at so_far now within is grown =
      let f = rebased_entry blob name marks in
      grown
      ∙ ap (λ (cs : Changes). cs ++ f (nth_entry es at)) is
      ∙ flat_map_more f [] (take at es) (nth_entry es at)
      ∙ ap (λ (fs : Entries). flat_map f fs) (sym (take_more es at ([], None) within))

  entries_kept : (es : Entries) → flat_map (rebased_entry blob name marks) es ≡ rebased_changes blob name marks (kept es)
  unfolding kept
  entries_kept [] = refl
  entries_kept ((k, None) ∷ es) = entries_kept es
  entries_kept ((k, Some c) ∷ es) = ap (λ (cs : Changes). rebased_keyed blob name marks (k, c) ++ cs) (entries_kept es)

  pub entries_all : (es : Entries) (at : ℕ) (made : Changes) → length es ≤ at → made ≡ flat_map (rebased_entry blob name marks) (take at es) → made ≡ rebased_changes blob name marks (kept es)
  entries_all es at made whole is = is ∙ ap (λ (fs : Entries). flat_map (rebased_entry blob name marks) fs) (take_all at es whole) ∙ entries_kept es
