-- What has been read of files, one after another.
use Rattle.std.proofs.Common.{◌≡◌, ℕ, ◌+◌, ◌<◌, List, [], ◌∷◌, ◌++◌, length, take, drop, get_or, map, refl, sym, ap, subst, ◌∙◌, inl, inr}
use Rattle.std.specs.Prelude.{◌⊎◌, Option}
use Rattle.std.specs.List.{AllZip, AllByRecursion, flat_map}
use Rattle.std.proofs.lemmas.List.{drop_more, map-append, take-append-drop, take_more}
use Rattle.cs_lines.specs.Facts.{zip_push}
use Rattle.cs_change.specs.Spelling.{FitsChangeset, changeset_spelling}
use Rattle.cs_change.specs.declared.group.Group.{Group}
use Rattle.cs_changeset.specs.Reading.{IsChangesetFault}
use Rattle.cs_column_bytes.specs.KeyPlaces.{heads_of}
use Rattle.cs_feed.specs.Feeding.{IsChangeset}
use Rattle.cs_group.specs.Combined.{HasCombineFault, IsCombined}
use Rattle.cs_group.specs.declared.combining.CombineFault.{CombineFault}
use Rattle.cs_group.specs.declared.combining.CombineFault.TheVariants as combining
use Rattle.cs_normal.specs.declared.normal.TableChanges.{TableChanges}
use Rattle.cs_tools.proofs.InputLemmas.{fit_push}
use Rattle.cs_tools.specs.Faults.{of_combine}
use Rattle.cs_tools.specs.Files.{ChangesetAt, HasBadFile, HeldAt, IsBadFile, Reading, RefusesFiles}
use Rattle.cs_tools.specs.SpelledLine.{Spells}
use Rattle.cs_tools.specs.WrittenForm.{IsNotWritten}
use Rattle.cs_tools.specs.declared.fault.ToolFault.{ToolFault}
use Rattle.cs_tools.specs.declared.fault.ToolFault.TheVariants.{Memory}
use Rattle.cs_tools.specs.declared.input_files.InputFiles.{Ghosts}
use Rattle.cs_tools.specs.declared.tool.Form.{Form}

-- ---- the first ones and the next

zip_so : {A B : Type 0} (R S : A → B → Type 0) → ((x : A) (y : B) → R x y → S x y) → (xs : List A) (ys : List B) → AllZip R xs ys → AllZip S xs ys
zip_so R S so [] [] all = tt
zip_so R S so [] (b ∷ ys) all = absurd all
zip_so R S so (a ∷ xs) [] all = absurd all
zip_so R S so (a ∷ xs) (b ∷ ys) all = (so a b all.0, zip_so R S so xs ys all.1)

-- a changeset more is lent
pub lent_more : (owned : List (List ℕ)) (i : ℕ) (d : List ℕ) (changesets : List (List Group)) (groups : List Group) → i < length owned
    → AllByRecursion FitsChangeset changesets × AllZip (Spells FitsChangeset changeset_spelling) (take i owned) changesets
    → FitsChangeset groups × (get_or owned i d ≡ changeset_spelling groups)
    → AllByRecursion FitsChangeset (changesets ++ groups ∷ []) × AllZip (Spells FitsChangeset changeset_spelling) (take (i + 1) owned) (changesets ++ groups ∷ [])
lent_more owned i d changesets groups lt so_far spells = (
  fit_push changesets groups so_far.0 spells.0,
  subst (λ (xs : List (List ℕ)). AllZip (Spells FitsChangeset changeset_spelling) xs (changesets ++ groups ∷ [])) (sym (take_more owned i d lt))
      (zip_push (Spells FitsChangeset changeset_spelling) (take i owned) changesets (get_or owned i d) groups so_far.1 spells),
)

-- the paths up to one, and those behind it
paths_more : {X : Type 0} (see : X → List ℕ) (paths : List X) (i : ℕ) (d : X) → i < length paths → map see (take (i + 1) paths) ≡ map see (take i paths) ++ see (get_or paths i d) ∷ []
paths_more see paths i d lt = ap (map see) (take_more paths i d lt) ∙ map-append see (take i paths) (get_or paths i d ∷ [])

paths_split : {X : Type 0} (see : X → List ℕ) (paths : List X) (i : ℕ) (d : X) → i < length paths → map see paths ≡ map see (take i paths) ++ see (get_or paths i d) ∷ map see (drop (i + 1) paths)
paths_split {X} see paths i d lt =
    ap (map see) (sym (take-append-drop i paths) ∙ ap (λ (t : List X). take i paths ++ t) (drop_more paths i d lt))
    ∙ map-append see (take i paths) (get_or paths i d ∷ drop (i + 1) paths)

module _ {F I : Type 0} (reads : Reading I) (g : Ghosts F I) (files : F) where
  -- the file held these bytes, which are a changeset
  abbrev pub GivenAt : List ℕ → List ℕ → Type 0
  GivenAt path bytes = HeldAt reads g files path bytes × IsChangeset bytes

  -- the first files are given, and the one behind them is bad
  bad_behind : (paths given : List (List ℕ)) (path : List ℕ) (rest : List (List ℕ)) (told : ToolFault)
      → AllZip GivenAt paths given → IsBadFile reads g files IsChangesetFault path told → HasBadFile reads g files told (paths ++ path ∷ rest)
  bad_behind [] [] path rest told all bad = inl bad
  bad_behind [] (b ∷ given) path rest told all bad = absurd all
  bad_behind (p ∷ paths) [] path rest told all bad = absurd all
  bad_behind (p ∷ paths) (b ∷ given) path rest told ((held, (groups, fits, is)), all) bad =
      inr (groups, (b, held, (fits, is)), bad_behind paths given path rest told all bad)

  pub bad_next : {X : Type 0} (see : X → List ℕ) (paths : List X) (i : ℕ) (d : X) (given : List (List ℕ)) (told : ToolFault) → i < length paths
      → AllZip GivenAt (map see (take i paths)) given → IsBadFile reads g files IsChangesetFault (see (get_or paths i d)) told
      → HasBadFile reads g files told (map see paths)
  bad_next see paths i d given told lt all bad =
      subst (HasBadFile reads g files told) (sym (paths_split see paths i d lt)) (bad_behind (map see (take i paths)) given (see (get_or paths i d)) (map see (drop (i + 1) paths)) told all bad)

  pub given_next : {X : Type 0} (see : X → List ℕ) (paths : List X) (i : ℕ) (d : X) (given : List (List ℕ)) (bytes : List ℕ) → i < length paths
      → AllZip GivenAt (map see (take i paths)) given → GivenAt (see (get_or paths i d)) bytes → AllZip GivenAt (map see (take (i + 1) paths)) (given ++ bytes ∷ [])
  given_next see paths i d given bytes lt all now =
      subst (λ (xs : List (List ℕ)). AllZip GivenAt xs (given ++ bytes ∷ [])) (sym (paths_more see paths i d lt)) (zip_push GivenAt (map see (take i paths)) given (see (get_or paths i d)) bytes all now)

  pub given_held : (paths given : List (List ℕ)) → AllZip GivenAt paths given → AllZip (HeldAt reads g files) paths given
  given_held paths given all = zip_so GivenAt (HeldAt reads g files) (λ p b both. both.0) paths given all

  -- what the files hold are the changesets that are lent
  pub changesets_there : (paths given : List (List ℕ)) (changesets : List (List Group)) → AllZip (HeldAt reads g files) paths given
      → AllZip (Spells FitsChangeset changeset_spelling) given changesets → AllZip (ChangesetAt reads g files) paths changesets
  changesets_there [] [] [] held spelled = tt
  changesets_there (p ∷ paths) (b ∷ given) (g ∷ changesets) held spelled = ((b, held.0, spelled.0), changesets_there paths given changesets held.1 spelled.1)
  changesets_there [] [] (g ∷ changesets) held spelled = absurd spelled
  changesets_there [] (b ∷ given) changesets held spelled = absurd held
  changesets_there (p ∷ paths) [] changesets held spelled = absurd held
  changesets_there (p ∷ paths) (b ∷ given) [] held spelled = absurd spelled

  -- why the changesets of all files are not written
  pub files_refuse_together : (form : Form) (paths : List (List ℕ)) (changesets : List (List Group)) (fault : CombineFault) → AllZip (ChangesetAt reads g files) paths changesets
      → HasCombineFault fault changesets → RefusesFiles reads g files form paths (of_combine fault)
  files_refuse_together form paths changesets combining.Memory read has = inl refl
  files_refuse_together form paths changesets (combining.Headers why) read has = inr (inr (inl (changesets, read, (combining.Headers why, has, (λ e. cc), refl))))
  files_refuse_together form paths changesets (combining.Unfit why) read has = inr (inr (inl (changesets, read, (combining.Unfit why, has, (λ e. cc), refl))))

  pub files_refuse_form : (form : Form) (paths : List (List ℕ)) (changesets : List (List Group)) (both : List TableChanges) (told : ToolFault) → AllZip (ChangesetAt reads g files) paths changesets
      → IsCombined changesets both → (told ≡ Memory) ⊎ IsNotWritten form (flat_map heads_of changesets) told → RefusesFiles reads g files form paths told
  files_refuse_form form paths changesets both told read combined (inl memory) = inl memory
  files_refuse_form form paths changesets both told read combined (inr not) = inr (inr (inr (changesets, both, read, combined, not)))

-- what was told of a path before is told still
module _ {F I : Type 0} (reads : Reading I) (g : Ghosts F I) (files after : F) (kept : (path : List ℕ) (input : I) → g.opened files path input → g.opened after path input) where
  pub given_kept : (paths given : List (List ℕ)) → AllZip (GivenAt reads g files) paths given → AllZip (GivenAt reads g after) paths given
  given_kept paths given all = zip_so (GivenAt reads g files) (GivenAt reads g after) (λ p b both. ((both.0.0, kept p both.0.0 both.0.1, both.0.2), both.1)) paths given all
