-- Keys and changes, side by side.
use Rattle.std.proofs.Common.{◌≡◌, ◌∙◌, ℕ, ◌<◌, ◌≤◌, List, [], ◌∷◌, ◌++◌, length, refl, sym, ap, arith, length-append, length-set, append-nil, set, Option, Some, None, zero, suc}
use Rattle.std.specs.Prelude.{slice_get, slice_index_or}
use Rattle.std.specs.List.{flat_map}
use Rattle.std.specs.Map.{keys_of, values_of}
use Rattle.cs_change.specs.declared.change.Change.{Change}
use Rattle.cs_normal.specs.keyed.Changes.{Changes}
use Rattle.cs_change.specs.Listed.{listed}
use Rattle.cs_change.specs.Spelling.{change_spelling, changes_spelling}
use Rattle.cs_normal.specs.keyed.Keyed.{beside}
use Rattle.cs_normal.specs.keyed.Prepared.{kept}

pub beside_keys : (keys : List (List ℕ)) (changes : List Change) → length keys ≡ length changes → keys_of (beside keys changes) ≡ keys
beside_keys [] changes same = refl
beside_keys (k ∷ keys) [] same = absurd (omega (arith, same))
beside_keys (k ∷ keys) (c ∷ changes) same = ap (λ (ks : List (List ℕ)). k ∷ ks) (beside_keys keys changes (omega (arith, same)))

pub beside_values : (keys : List (List ℕ)) (changes : List Change) → length keys ≡ length changes → values_of (beside keys changes) ≡ changes
beside_values [] [] same = refl
beside_values [] (c ∷ changes) same = absurd (omega (arith, same))
beside_values (k ∷ keys) [] same = absurd (omega (arith, same))
beside_values (k ∷ keys) (c ∷ changes) same = ap (λ (cs : List Change). c ∷ cs) (beside_values keys changes (omega (arith, same)))

-- one more of both
pub beside_more : (keys : List (List ℕ)) (changes : List Change) (key : List ℕ) (change : Change) → length keys ≡ length changes → beside (keys ++ key ∷ []) (changes ++ change ∷ []) ≡ beside keys changes ++ (key, change) ∷ []
beside_more [] [] key change same = refl
beside_more [] (c ∷ changes) key change same = absurd (omega (arith, same))
beside_more (k ∷ keys) [] key change same = absurd (omega (arith, same))
beside_more (k ∷ keys) (c ∷ changes) key change same = ap (λ (es : Changes). (k, c) ∷ es) (beside_more keys changes key change (omega (arith, same)))

-- a change is left, and its key goes before it
pub pushed : (keys now_keys : List (List ℕ)) (left now : List Change) (key : List ℕ) (change : Option Change) → length keys ≡ length left → now ≡ left ++ listed change → length left < length now → now_keys ≡ keys ++ key ∷ []
    → (length now_keys ≡ length now) × (beside now_keys now ≡ beside keys left ++ kept ((key, change) ∷ []))
unfolding kept
pushed keys now_keys left now key (Some c) same is more keyed =
    (omega (arith, same, ap length is, ap length keyed, length-append left (c ∷ []), length-append keys (key ∷ [])), rw (is, keyed) (beside_more keys left key c same))
pushed keys now_keys left now key None same is more keyed = absurd (omega (arith, more, ap length is, length-append left []))

-- nothing is left
pub not_pushed : (keys : List (List ℕ)) (left now : List Change) (key : List ℕ) (change : Option Change) → length keys ≡ length left → now ≡ left ++ listed change → length now ≤ length left
    → (length keys ≡ length now) × (beside keys now ≡ beside keys left ++ kept ((key, change) ∷ []))
unfolding kept
not_pushed keys left now key None same is none = (omega (arith, same, ap length is, length-append left []), rw (is, append-nil left) (sym (append-nil (beside keys left))))
not_pushed keys left now key (Some c) same is none = absurd (omega (arith, none, ap length is, length-append left (c ∷ [])))

-- the spelling of the changes, keys left out
pub spelled_values : (entries : Changes) → changes_spelling (values_of entries) ≡ flat_map (λ keyed. change_spelling keyed.1) entries
spelled_values [] = refl
spelled_values (e ∷ entries) = ap (λ (bytes : List ℕ). change_spelling e.1 ++ bytes) (spelled_values entries)

-- the same keys and the same changes are the same entries
pub same_entries : (xs ys : Changes) → keys_of xs ≡ keys_of ys → values_of xs ≡ values_of ys → xs ≡ ys
same_entries [] [] keys values = refl
same_entries [] (y ∷ ys) keys values = cc
same_entries (x ∷ xs) [] keys values = cc
same_entries (x ∷ xs) (y ∷ ys) keys values =
    let key : x.0 ≡ y.0 = cc in
    let change : x.1 ≡ y.1 = cc in
    let more_keys : keys_of xs ≡ keys_of ys = cc in
    let more : values_of xs ≡ values_of ys = cc in
    let rest = same_entries xs ys more_keys more in
    let both : x ≡ y = ap (λ (k : List ℕ). (k, x.1)) key ∙ ap (λ (c : Change). (y.0, c)) change in
    cc

-- the entry at a place is its key and its change
pub no_entry : (entries : Changes) (at : ℕ) → None ≡ slice_get (values_of entries) at → slice_get entries at ≡ None
no_entry [] at none = refl
no_entry (e ∷ entries) zero none = cc
no_entry (e ∷ entries) (suc at) none = no_entry entries at none

pub entry_is : (entries : Changes) (at : ℕ) (key : List ℕ) (change : Change) → Some change ≡ slice_get (values_of entries) at → key ≡ slice_index_or (keys_of entries) at [] → slice_get entries at ≡ Some (key, change)
entry_is [] at key change some is = cc
entry_is (e ∷ entries) zero key change some is =
    let same : change ≡ e.1 = cc in
    sym (ap (λ (k : List ℕ). Some (k, change)) is ∙ ap (λ (c : Change). Some (e.0, c)) same)
entry_is (e ∷ entries) (suc at) key change some is = entry_is entries at key change some is

pub within : (entries : Changes) (at : ℕ) (change : Change) → Some change ≡ slice_get (values_of entries) at → at < length entries
within [] at change some = cc
within (e ∷ entries) zero change some = omega arith
within (e ∷ entries) (suc at) change some = omega (arith, within entries at change some)

-- ---- what is kept inside

pub keys_inside : (keys : List (List ℕ)) (changes : List Change) (entries : Changes) → length keys ≡ length changes → beside keys changes ≡ entries → keys ≡ keys_of entries
keys_inside keys changes entries same is = sym (beside_keys keys changes same) ∙ ap (λ (es : Changes). keys_of es) is

pub values_inside : (keys : List (List ℕ)) (changes : List Change) (entries : Changes) → length keys ≡ length changes → beside keys changes ≡ entries → changes ≡ values_of entries
values_inside keys changes entries same is = sym (beside_values keys changes same) ∙ ap (λ (es : Changes). values_of es) is

-- as many keys as changes, where one of them is another
pub as_many_set : (keys : List (List ℕ)) (changes now : List Change) (index : ℕ) (change : Change) → length keys ≡ length changes → now ≡ set changes index change → length keys ≡ length now
as_many_set keys changes now index change same is = same ∙ sym (length-set changes index change) ∙ ap length (sym is)

pub keys_stay : (keys : List (List ℕ)) (changes now : List Change) (entries : Changes) → length keys ≡ length changes → beside keys changes ≡ entries → length keys ≡ length now → keys_of (beside keys now) ≡ keys_of entries
keys_stay keys changes now entries same is many = beside_keys keys now many ∙ keys_inside keys changes entries same is

pub values_set : (keys : List (List ℕ)) (changes now : List Change) (entries : Changes) (index : ℕ) (change : Change) → length keys ≡ length changes → beside keys changes ≡ entries → now ≡ set changes index change → values_of (beside keys now) ≡ set (values_of entries) index change
values_set keys changes now entries index change same is set_there =
    beside_values keys now (as_many_set keys changes now index change same set_there) ∙ set_there
    ∙ ap (λ (cs : List Change). set cs index change) (values_inside keys changes entries same is)
