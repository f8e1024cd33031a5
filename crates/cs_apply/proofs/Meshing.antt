-- The edits that are made, and those of the slots that wait in place of what stands for them, are the edits of all slots.
use Rattle.std.proofs.Common.{◌≡◌, ◌≤◌, ◌<◌, ◌+◌, ◌-◌, ℕ, suc, ◌++◌, ◌∷◌, List, [], length, take, drop, get_or, Option, Some, None, refl, sym, ap, ◌∙◌, arith, add-zero}
use Rattle.std.specs.Prelude.{slice_get, slice_set, slice_range}
use Rattle.std.proofs.lemmas.List.{length-set, take_all, take_more_set, drop_all, drop-set-lt, drop-drop, length-append, length-drop, append_assoc, append-nil}
use Rattle.std.proofs.lemmas.List.Edits.{between_more, between_none}
use Rattle.std.proofs.lemmas.List.Folds.{drop_split}
use Rattle.std.proofs.Math.Seq.{drop-cons}
use Rattle.std.proofs.lemmas.Option.{get_or_from_slice_get}
use Rattle.cs_store.specs.edits.Edits.{BodyEdit}
use Rattle.cs_apply.specs.Edited.{edit_list, edit_for, edits_for}
use Rattle.cs_apply.specs.Woven.{weave, count_waiting, made_edits, stand_in, stands_from, stands_of, RiseBetween}
use Rattle.cs_apply.specs.declared.slots.Slot.{Slot}

-- the edits from this one on, and those of the slots where one of these stands for them
abbrev pub mesh : ℕ → List ℕ → List BodyEdit → List Slot → List BodyEdit
mesh from [] made slots = drop from made
mesh from (at ∷ numbers) made [] = []
mesh from (at ∷ numbers) made (slot ∷ slots) = slice_range made from at ++ (edit_list (edit_for slot) ++ mesh (at + 1) numbers made slots)

-- the one there, and those behind it
pub rest_at : {X : Type 0} (xs : List X) (at : ℕ) (x : X) → at < length xs → drop at xs ≡ get_or xs at x ∷ drop (at + 1) xs
rest_at xs at x within =
    let more : suc at ≡ at + 1 = omega arith in
    drop-cons xs at x within ∙ ap (λ n. get_or xs at x ∷ drop n xs) more

-- those of one more place are looked at
passed : (o : Option BodyEdit) (made rest : List BodyEdit) (from at : ℕ) → from ≤ at → drop at made ≡ edit_list o ++ rest
    → (slice_range made from (at + length (edit_list o)) ≡ slice_range made from at ++ edit_list o)
    × (drop (at + length (edit_list o)) made ≡ rest)
passed None made rest from at rising there = rw add-zero (sym (append-nil (slice_range made from at)), there)
passed (Some edit) made rest from at rising there =
    let long : length made - at ≡ suc (length rest) = sym (length-drop at made) ∙ ap length there in
    let less : at < length made = omega (arith, long) in
    let split = sym (rest_at made at edit less) ∙ there in
    let first : get_or made at edit ≡ edit = cc split in (
      between_more made from at edit rising less ∙ ap (λ (e : BodyEdit). slice_range made from at ++ e ∷ []) first,
      cc split,
    )

mesh_from : (held : List (Option Slot)) (slots : List Slot) (made : List BodyEdit) (from at : ℕ) → from ≤ at
    → drop at made ≡ made_edits held → count_waiting held ≡ length slots
    → mesh from (stands_from at held) made slots ≡ slice_range made from at ++ edits_for (weave held slots)
mesh_from [] slots made from at rising there count =
    drop_split made from at rising ∙ ap (λ rest. slice_range made from at ++ rest) there
mesh_from (Some m ∷ held) slots made from at rising there count =
    let past = passed (edit_for m) made (made_edits held) from at rising there in
    mesh_from held slots made from (at + length (edit_list (edit_for m))) (omega (arith, rising)) past.1 count
    ∙ (ap (λ front. front ++ edits_for (weave held slots)) past.0
    ∙ append_assoc (slice_range made from at) (edit_list (edit_for m)) (edits_for (weave held slots)))
mesh_from (None ∷ held) [] made from at rising there count = absurd (omega (arith, count))
mesh_from (None ∷ held) (s ∷ slots) made from at rising there count =
    let past = passed (Some stand_in) made (made_edits held) from at rising there in
    ap (λ more. slice_range made from at ++ (edit_list (edit_for s) ++ more))
    (mesh_from held slots made (at + 1) (at + 1) (omega arith) past.1 (omega (arith, count))
    ∙ ap (λ none. none ++ edits_for (weave held slots)) (between_none made (at + 1)))

pub mesh_is : (held : List (Option Slot)) (slots : List Slot) → count_waiting held ≡ length slots
    → mesh 0 (stands_of held) (made_edits held) slots ≡ edits_for (weave held slots)
mesh_is held slots count = mesh_from held slots (made_edits held) 0 0 (omega arith) refl count

-- where none waits
pub made_is : (held : List (Option Slot)) → count_waiting held ≡ 0 → made_edits held ≡ edits_for (weave held [])
made_is [] count = refl
made_is (Some made ∷ held) count = ap (λ more. edit_list (edit_for made) ++ more) (made_is held count)
made_is (None ∷ held) count = absurd (omega (arith, count))

-- there is none
pub no_slots : (slots : List Slot) → length slots ≡ 0 → slots ≡ []
no_slots [] none = refl
no_slots (s ∷ slots) none = absurd (omega (arith, none))

-- ---- the numbers of those that stand for places

stands_between : (held : List (Option Slot)) (from at end : ℕ) → from ≤ at → at + length (made_edits held) ≡ end
    → RiseBetween from (stands_from at held) end
stands_between [] from at end rising is = omega (arith, rising, is)
stands_between (Some m ∷ held) from at end rising is =
    stands_between held from (at + length (edit_list (edit_for m))) end (omega (arith, rising))
    (omega (arith, is, length-append (edit_list (edit_for m)) (made_edits held)))
stands_between (None ∷ held) from at end rising is = (rising, stands_between held (at + 1) (at + 1) end (omega arith) (omega (arith, is)))

pub stands_rise : (held : List (Option Slot)) (stand_ins : List ℕ) (made : List BodyEdit) → stand_ins ≡ stands_of held → made ≡ made_edits held
    → RiseBetween 0 stand_ins (length made)
stands_rise held stand_ins made waits_are made_are =
    rw (waits_are, made_are) (stands_between held 0 0 (length (made_edits held)) (omega arith) (omega arith))

stands_long : (held : List (Option Slot)) (at : ℕ) → length (stands_from at held) ≡ count_waiting held
stands_long [] at = refl
stands_long (Some m ∷ held) at = stands_long held (at + length (edit_list (edit_for m)))
stands_long (None ∷ held) at = ap suc (stands_long held (at + 1))

pub as_long : (held : List (Option Slot)) → length (stands_of held) ≡ count_waiting held
as_long held = stands_long held 0

-- none is behind the last
pub rise_within : (from : ℕ) (numbers : List ℕ) (end : ℕ) → RiseBetween from numbers end → from ≤ end
rise_within from [] end rising = rising
rise_within from (at ∷ numbers) end rising = let h = rise_within (at + 1) numbers end rising.1 in omega (arith, h, rising.0)

-- ---- the edits, where so many are kept up to here

-- what follows of the same edits is the same
pub same_behind : (from at : ℕ) (one other : List BodyEdit) → from ≤ at → drop from one ≡ drop from other → drop at one ≡ drop at other
same_behind from at one other rising same =
    let whole : from + (at - from) ≡ at = omega (arith, rising) in
    rw whole at (sym (drop-drop (at - from) from one) ∙ (ap (drop (at - from)) same ∙ drop-drop (at - from) from other))

module _ (stand_ins : List ℕ) (made : List BodyEdit) (number from : ℕ) (less : number < length stand_ins)
    (rising : RiseBetween from (drop number stand_ins) (length made)) where
  abbrev there : ℕ
  there = get_or stand_ins number 0

  -- the next of the numbers, and those behind it
  split : drop number stand_ins ≡ there ∷ drop (number + 1) stand_ins
  split = rest_at stand_ins number 0 less

  pub next_rises : (from ≤ there) × (there < length made) × RiseBetween (there + 1) (drop (number + 1) stand_ins) (length made)
  next_rises =
      let both : RiseBetween from (there ∷ drop (number + 1) stand_ins) (length made) = rw split at rising in
      let within = rise_within (there + 1) (drop (number + 1) stand_ins) (length made) both.1 in
      (both.0, omega (arith, within), both.1)

  module _ (edits new : List BodyEdit) (kept next : ℕ) (few : kept ≤ from) (long : length edits ≡ length made)
      (behind : drop from edits ≡ drop from made) (next_is : next + from ≡ kept + there)
      (moved : take next new ≡ take kept edits ++ slice_range edits from there)
      (left : drop there new ≡ drop there edits) (as_many : length new ≡ length edits)
      (slots : List Slot) (slot : Slot) (one_slot : number < length slots) (found : slice_get slots number ≡ Some slot) where
    abbrev rest : List BodyEdit
    rest = mesh (there + 1) (drop (number + 1) stand_ins) made (drop (number + 1) slots)

    abbrev before : List BodyEdit
    before = take kept edits ++ mesh from (drop number stand_ins) made (drop number slots)

    slots_split : drop number slots ≡ slot ∷ drop (number + 1) slots
    slots_split =
        rest_at slots number slot one_slot
        ∙ ap (λ (s : Slot). s ∷ drop (number + 1) slots) (get_or_from_slice_get slots number slot slot found)

    opened : before ≡ take next new ++ (edit_list (edit_for slot) ++ rest)
    opened =
        ap (λ ns. take kept edits ++ mesh from ns made (drop number slots)) split
        ∙ (ap (λ ss. take kept edits ++ mesh from (there ∷ drop (number + 1) stand_ins) made ss) slots_split
        ∙ (ap (λ same. take kept edits ++ (take (there - from) same ++ (edit_list (edit_for slot) ++ rest))) (sym behind)
        ∙ (sym (append_assoc (take kept edits) (slice_range edits from there) (edit_list (edit_for slot) ++ rest))
        ∙ ap (λ front. front ++ (edit_list (edit_for slot) ++ rest)) (sym moved))))

    -- those behind the one that stands there are as they were
    still_behind : drop (there + 1) new ≡ drop (there + 1) made
    still_behind =
        same_behind there (there + 1) new made (omega arith) (left ∙ same_behind from there edits made next_rises.0 behind)

    -- the slot has no edit
    pub none_put : edit_for slot ≡ None → (drop (there + 1) new ≡ drop (there + 1) made) × (take next new ++ rest ≡ before)
    none_put none = (still_behind, sym (opened ∙ ap (λ o. take next new ++ (edit_list o ++ rest)) none))

    -- it has one, which is put there
    pub one_put : (edit : BodyEdit) (put : List BodyEdit) → edit_for slot ≡ Some edit → put ≡ slice_set new next edit
        → (length put ≡ length made) × (drop (there + 1) put ≡ drop (there + 1) made) × (take (next + 1) put ++ rest ≡ before)
    one_put edit put is put_is = (
      ap length put_is ∙ (length-set new next edit ∙ (as_many ∙ long)),
      ap (drop (there + 1)) put_is ∙ (drop-set-lt (there + 1) new next edit (omega (arith, few, next_is)) ∙ still_behind),
      ap (λ front. front ++ rest)
          (ap (take (next + 1)) put_is ∙ take_more_set new next edit (omega (arith, few, next_is, as_many, long, next_rises.1)))
          ∙ (append_assoc (take next new) (edit ∷ []) rest
          ∙ sym (opened ∙ ap (λ o. take next new ++ (edit_list o ++ rest)) is)),
    )

-- all numbers are looked at
pub all_kept : (stand_ins : List ℕ) (made edits : List BodyEdit) (slots : List Slot) (number from kept end : ℕ) → length stand_ins ≤ number
    → end ≡ length made → length edits ≡ length made → drop from edits ≡ drop from made
    → take kept edits ++ slice_range edits from end ≡ take kept edits ++ mesh from (drop number stand_ins) made (drop number slots)
all_kept stand_ins made edits slots number from kept end none end_is long behind =
    ap (λ rest. take kept edits ++ rest)
    (take_all (end - from) (drop from edits) (omega (arith, length-drop from edits, long, end_is)) ∙ behind)
    ∙ ap (λ ns. take kept edits ++ mesh from ns made (drop number slots)) (sym (drop_all number stand_ins none))
