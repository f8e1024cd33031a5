-- Entries of the log from a version on.
use Rattle.std.proofs.Common.{◌≡◌, ℕ, zero, suc, ◌+◌, ◌-◌, ◌<◌, ◌≤◌, Bool, true, false, List, [], ◌∷◌, ◌++◌, Option, IsSome, refl, sym, ap, subst, ◌∙◌, length, get_or, take, drop, arith}
use Rattle.std.specs.Prelude.{pos, min}
use Rattle.std.specs.List.{slice_range}
use Rattle.std.specs.FinMap.{get, len}
use Rattle.std.proofs.Math.Dec.{ltb}
use borrow.Author.Tests.{ltb-true, ltb-false}
use Rattle.std.proofs.lemmas.List.{drop_all, drop_more, length-drop, take_all, take_min, take_more, get_or-drop}
use Rattle.cs_store.specs.Contents.{Contents, HasEachEntry, LogItem, entry_before, log_entry, log_range}
use Rattle.cs_map_store.specs.Packed.{no_item, nth_item}
use Rattle.cs_map_store.specs.Slots.{log_of}
use Rattle.cs_map_store.proofs.Numbered.{log_has, log_lacks, log_len}

-- ---- parts of a list

module _ {X : Type 0} where
  -- a part up to an end that is behind its length, from a start that is not behind it
  pub part_is : (xs : List X) (first count start end : ℕ) → end ≡ min (length xs) (first + count) → start ≡ min end first → slice_range xs start end ≡ take count (drop first xs)
  part_is xs first count start end ends starts = two (ltb first (length xs)) refl
    where
      two : (b : Bool) → ltb first (length xs) ≡ b → slice_range xs start end ≡ take count (drop first xs)
      two true t =
          let less = ltb-true first (length xs) t in
          let s : start ≡ first = omega (arith, less, ends, starts) in
          let n : end - start ≡ min count (length (drop first xs)) = omega (arith, less, ends, starts, length-drop first xs) in
          (λ i. take (n i) (drop (s i) xs)) ∙ take_min count (drop first xs)
      two false f =
          let behind = ltb-false first (length xs) f in
          let n : end - start ≡ 0 = omega (arith, behind, ends, starts) in
          ap (λ (k : ℕ). take k (drop start xs)) n ∙ sym (ap (take count) (drop_all first xs behind) ∙ take_all count [] (omega arith))

  -- one more
  pub part_more : (xs : List X) (start at : ℕ) (d : X) → start ≤ at → at < length xs → slice_range xs start (at + 1) ≡ slice_range xs start at ++ get_or xs at d ∷ []
  part_more xs start at d order less =
      let n : (at + 1) - start ≡ (at - start) + 1 = omega (arith, order) in
      let k : start + (at - start) ≡ at = omega (arith, order) in
      ap (λ (m : ℕ). take m (drop start xs)) n
      ∙ take_more (drop start xs) (at - start) d (omega (arith, order, less, length-drop start xs))
      ∙ ap (λ (x : X). slice_range xs start at ++ x ∷ []) (get_or-drop start xs (at - start) d ∙ ap (λ (m : ℕ). get_or xs m d) k)

-- ---- the log

-- the entries from a version on, where those behind it are known
range_more : (held : Contents) (xs : List LogItem) → held.log ≡ log_of xs → (count first : ℕ) → take count (drop (first + 1) xs) ≡ log_range held (first + 1) count
    → (b : Bool) → ltb first (length xs) ≡ b → take (suc count) (drop first xs) ≡ entry_before (log_entry held first) (log_range held (first + 1) count)
range_more held xs is count first rest true t =
    let less = ltb-true first (length xs) t in
    ap (take (suc count)) (drop_more xs first no_item less)
    ∙ ap (λ (items : List LogItem). nth_item xs first ∷ items) rest
    ∙ sym (ap (λ (o : Option LogItem). entry_before o (log_range held (first + 1) count)) (ap (λ log. get log (pos first)) is ∙ log_has xs first no_item less))
range_more held xs is count first rest false f =
    let behind = ltb-false first (length xs) f in
    ap (take (suc count)) (drop_all first xs behind)
    ∙ sym (ap (λ (o : Option LogItem). entry_before o (log_range held (first + 1) count)) (ap (λ log. get log (pos first)) is ∙ log_lacks xs first behind))

pub range_is : (held : Contents) (xs : List LogItem) → held.log ≡ log_of xs → (count first : ℕ) → take count (drop first xs) ≡ log_range held first count
range_is held xs is zero first = refl
range_is held xs is (suc count) first = range_more held xs is count first (range_is held xs is count (first + 1)) (ltb first (length xs)) refl

pub each_is_there : (held : Contents) (xs : List LogItem) → held.log ≡ log_of xs → HasEachEntry held
each_is_there held xs is version below =
    let less : version < length xs = omega (arith, below, ap (λ log. len log) is, log_len xs) in
    subst IsSome (sym (ap (λ log. get log (pos version)) is ∙ log_has xs version no_item less)) refl
