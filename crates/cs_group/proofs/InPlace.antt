-- Changes whose inverses are put in their places.
use Rattle.std.proofs.Common.{◌≡◌, ℕ, ◌+◌, ◌<◌, ◌≤◌, Bool, List, [], ◌∷◌, ◌++◌, length, map, take, drop, get_or, set, refl, sym, ap, ◌∙◌, arith, length-append, append-nil, Option, Some, None, zero, suc}
use Rattle.std.specs.Prelude.{slice_get}
use Rattle.std.specs.List.{AllByRecursion}
use Rattle.std.specs.Map.{keys_of, values_of}
use Rattle.std.proofs.lemmas.List.Edits.{map_over_more}
use Rattle.std.proofs.lemmas.List.Elements.{recursion_from_All}
use Rattle.std.proofs.lemmas.List.{take_all, drop_all}
use Rattle.std.proofs.lemmas.Option.{get_or_from_slice_get, slice_get_within, slice_get-get_or}
use Rattle.cs_value.specs.declared.value.Value.{Value}
use Rattle.cs_value.specs.declared.value.Field.{Field}
use Rattle.cs_record.specs.Spelling.{record_of}
use Rattle.cs_change.specs.Action.{action}
use Rattle.cs_change.specs.Normal.{IsNormal, NormalUpdate, no_column, key_column, unmodified, modified}
use Rattle.cs_change.specs.Listed.{one_there}
use Rattle.cs_change.specs.Then.{inverse, inverse_old_fields, inverse_new_fields, turned}
use Rattle.cs_change.specs.declared.change.Change.{Change}
use Rattle.cs_change.specs.declared.change.Change.TheVariants.{Insert, Delete, Update}
use Rattle.cs_normal.specs.keyed.Changes.{Changes, IsEntry}
use Rattle.cs_normal.specs.keyed.Keyed.{beside}
use Rattle.cs_normal.specs.Normal.{IsNormalChangeset}
use Rattle.cs_normal.specs.declared.normal.TableChanges.{TableChanges}
use Rattle.cs_group.specs.Inverse.{inverse_change, inverse_changes}
use Rattle.cs_group.specs.Steps.Inverting.{KeepsLength, made_inverse}
use Rattle.cs_group.proofs.Inverses.{beside_inverse}

-- ---- the inverse has as many bytes

same_size : {marks : List Bool} {key : List Value} {old new : List Field} → NormalUpdate marks key old new → length (record_of (inverse_old_fields old new)) + length (record_of (inverse_new_fields old new)) ≡ length (record_of old) + length (record_of new)
unfolding inverse_old_fields inverse_new_fields
same_size no_column = refl
same_size (key_column k l) = omega (arith, same_size l, length-append {A = ℕ})
same_size (unmodified l) = omega (arith, same_size l, length-append {A = ℕ})
same_size (modified u v differ l) = omega (arith, same_size l, length-append {A = ℕ})

keeps_length : (marks : List Bool) (key : List Value) (change : Change) → IsNormal marks key (action change) → KeepsLength change
unfolding inverse
keeps_length marks key (Insert flag new) n = refl
keeps_length marks key (Delete flag old) n = refl
keeps_length marks key (Update flag old new) n =
    omega (arith, same_size n.0, length-append (record_of old) (record_of new), length-append (record_of (inverse_old_fields old new)) (record_of (inverse_new_fields old new)))

all_keep : (marks : List Bool) (changes : Changes) → AllByRecursion (IsEntry marks) changes → AllByRecursion KeepsLength (values_of changes)
all_keep marks [] all = tt
all_keep marks (c ∷ changes) all = (keeps_length marks all.0.key c.1 all.0.normal, all_keep marks changes all.1)

pub normal_keep : (tables : List TableChanges) (at : ℕ) (table : TableChanges) → IsNormalChangeset tables → slice_get tables at ≡ Some table → AllByRecursion KeepsLength (values_of table.changes)
normal_keep [] at table normal got = absurd (cc)
normal_keep (t ∷ tables) zero table normal got =
    let same : t ≡ table = cc in
    rw same at (all_keep t.marks t.changes (recursion_from_All (IsEntry t.marks) t.changes normal.0.changes.1))
normal_keep (t ∷ tables) (suc at) table normal got = normal_keep tables at table normal.2 got

-- ---- one more is put in its place

-- what isn't reached yet stands as it was
pub not_reached : {X : Type 0} (f : X → X) (xs : List X) (at : ℕ) → slice_get (map f (take at xs) ++ drop at xs) at ≡ slice_get xs at
not_reached f [] zero = refl
not_reached f [] (suc at) = refl
not_reached f (x ∷ xs) zero = refl
not_reached f (x ∷ xs) (suc at) = not_reached f xs at

-- it has a place among those that are written over
pub still_within : {X : Type 0} (f : X → X) (xs ys : List X) (at : ℕ) → at < length xs → ys ≡ map f (take at xs) ++ drop at xs → at < length ys
still_within f xs ys at within so_far =
    let there = one_there xs at within in
    let here : slice_get ys at ≡ Some there.0 = ap (λ zs. slice_get zs at) so_far ∙ not_reached f xs at ∙ there.1 in
    slice_get_within ys at there.0 here

-- what is read there is what stood there
pub as_it_stood : {X : Type 0} (f : X → X) (xs ys : List X) (at : ℕ) (x : X) → at < length xs → ys ≡ map f (take at xs) ++ drop at xs → slice_get xs at ≡ Some (get_or ys at x)
as_it_stood f xs ys at x within so_far =
    sym (not_reached f xs at) ∙ ap (λ zs. slice_get zs at) (sym so_far) ∙ slice_get-get_or ys at x (still_within f xs ys at within so_far)

-- at the end
pub all_over : {X : Type 0} (f : X → X) (xs ys : List X) (at : ℕ) → length xs ≤ at → ys ≡ map f (take at xs) ++ drop at xs → ys ≡ map f xs
all_over f xs ys at past so_far =
    so_far ∙ ap (λ zs. map f zs ++ drop at xs) (take_all at xs past) ∙ ap (λ zs. map f xs ++ zs) (drop_all at xs past) ∙ append-nil (map f xs)

-- one is written over
pub one_set : {X : Type 0} (f : X → X) (xs ys : List X) (at : ℕ) (x now : X) → at < length xs → ys ≡ map f (take at xs) ++ drop at xs → x ≡ get_or ys at x → now ≡ f (get_or ys at x) → set ys at now ≡ map f (take (at + 1) xs) ++ drop (at + 1) xs
one_set f xs ys at x now within so_far is made =
    ap (λ y. set ys at y) (made ∙ ap f (sym is)) ∙ map_over_more f xs ys at x within so_far is

pub one_more : {X : Type 0} (f : X → X) (xs ys now : List X) (at : ℕ) → at < length xs → ys ≡ map f (take at xs) ++ drop at xs → ((x : X) → slice_get ys at ≡ Some x → now ≡ set ys at (f x)) → now ≡ map f (take (at + 1) xs) ++ drop (at + 1) xs
one_more f xs ys now at within so_far step =
    let there = one_there xs at within in
    let here : slice_get ys at ≡ Some there.0 = ap (λ zs. slice_get zs at) so_far ∙ not_reached f xs at ∙ there.1 in
    step there.0 here ∙ map_over_more f xs ys at there.0 within so_far (sym (get_or_from_slice_get ys at there.0 there.0 here))

pub all_at : {X : Type 0} (P : X → Type 0) (xs : List X) (at : ℕ) (x : X) → AllByRecursion P xs → slice_get xs at ≡ Some x → P x
all_at P [] at x all got = absurd (cc)
all_at P (y ∷ xs) zero x all got = (let same : y ≡ x = cc in rw same at all.0)
all_at P (y ∷ xs) (suc at) x all got = all_at P xs at x all.1 got

-- the inverse is the update that was made, or the change turned
pub updated : (made : Option Bool) (flag : Bool) (old new olds news : List Field) (change : Change) → made ≡ Some flag → olds ≡ old → news ≡ new → inverse_change change ≡ made_inverse made old new change → inverse_change change ≡ Update flag olds news
updated made flag old new olds news change some same_olds same_news is =
    is ∙ ap (λ m. made_inverse m old new change) some ∙ ap (λ (fs : List Field). Update flag fs new) (sym same_olds) ∙ ap (λ (fs : List Field). Update flag olds fs) (sym same_news)

pub as_turned : (made : Option Bool) (old new : List Field) (change : Change) → made ≡ None → inverse_change change ≡ made_inverse made old new change → turned change ≡ inverse_change change
as_turned made old new change none is = sym (is ∙ ap (λ m. made_inverse m old new change) none)

-- ---- keys and inverses, side by side

parts_are : (changes : Changes) → beside (keys_of changes) (values_of changes) ≡ changes
parts_are [] = refl
parts_are (c ∷ changes) = ap (λ (cs : Changes). c ∷ cs) (parts_are changes)

pub all_inverted : (changes now : Changes) → keys_of now ≡ keys_of changes → values_of now ≡ map inverse_change (values_of changes) → now ≡ inverse_changes changes
all_inverted changes now keys values =
    sym (parts_are now) ∙ ap (λ ks. beside ks (values_of now)) keys ∙ ap (λ (vs : List Change). beside (keys_of changes) vs) values ∙ beside_inverse changes
