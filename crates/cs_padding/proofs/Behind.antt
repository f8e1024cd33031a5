-- Edits of pending changes that aren't committed yet, with more columns: what they leave, and how many changes are pending then.
use Rattle.std.proofs.Common.{◌≡◌, ◌≢◌, ◌<◌, ◌≤◌, ◌+◌, ◌-◌, ◌∙◌, ◌++◌, ◌&&◌, ℕ, pos, Bool, List, [], ◌∷◌, cond, fold, get_or, is_some, length, replicate, take, Option, Some, None, option_map, refl, ap, ap₂, subst, sym, arith, true, false, append_assoc}
use Rattle.std.specs.Prelude.{nat_eq, slice_get, Contains, IfSome}
use Rattle.std.specs.FinMap.{get, len}
use Rattle.std.specs.List.{AllByRecursion}
use Rattle.std.specs.Str.{bytes_eq}
use Rattle.std.proofs.lemmas.Bool.Decides.{Decides-eqb}
use Rattle.std.proofs.lemmas.List.{length-map, take_more}
use Rattle.std.proofs.lemmas.List.Elements.{recursion_from_All}
use Rattle.std.proofs.lemmas.Option.{get_or_from_slice_get, slice_get_within}
use Rattle.cs_value.specs.Catalog.{AreTables}
use Rattle.cs_value.specs.Facts.{by_test}
use Rattle.cs_value.specs.Laws.{OnePlaceOfName}
use Rattle.cs_value.specs.declared.catalog.TableDef.{TableDef}
use Rattle.cs_change.specs.Spelling.{FitsChange, change_spelling}
use Rattle.cs_change.specs.declared.change.Change.{Change}
use Rattle.cs_changeset.specs.Laws.{ChangesApart}
use Rattle.cs_order.specs.Order.{same_bytes}
use Rattle.cs_record.specs.Spelling.{null_type, undefined_type}
use Rattle.cs_store.specs.Contents.{Bodies, Contents, stored_pending}
use Rattle.cs_store.specs.Laws.{CountsBodies, ReadsEdits, one_if_some, row_after}
use Rattle.cs_store.specs.Written.{edit_body}
use Rattle.cs_store.specs.edits.Edits.{BodyEdit}
use Rattle.cs_pending.specs.OnePlace.{contained}
use Rattle.cs_pending.specs.Settling.{AreWithin}
use Rattle.cs_pending.specs.Shows.{Pends}
use Rattle.cs_pending.specs.Spots.{all_both, name_is, name_not}
use Rattle.cs_pending.specs.Steps.{map_there, through}
use Rattle.cs_pending.specs.View.{Changed}
use Rattle.cs_widening.specs.Laws.{BytesWiden}
use Rattle.cs_widening.specs.Widening.{widened_change, widened_table, widened_tables}
use Rattle.cs_padding.specs.Pending.{ArePendingEdits, MakesPending, pending_after, widened_pending}
use Rattle.cs_padding.specs.Steps.{ArePaddedBehind, ArePaddedEdits, IsPaddedEdit}
use Rattle.cs_padding.proofs.Changes.{same_change, wide_change}
use Rattle.cs_padding.proofs.OneEdits.{all_set_of, at_is}
use Rattle.cs_padding.proofs.Pended.{wide_bytes}
use Rattle.cs_padding.proofs.Sound.{pending_fits}
use Rattle.cs_padding.proofs.Widened.{from_wide, other_place, same_found, same_place}

-- ---- one more

module _ (marks : List Bool) (nulls undefined : List ℕ) (number : ℕ) where
  both_padded : (some others wides more : List BodyEdit) → ArePaddedEdits marks nulls undefined number some wides → ArePaddedEdits marks nulls undefined number others more
      → ArePaddedEdits marks nulls undefined number (some ++ others) (wides ++ more)
  both_padded [] others [] more first rest = rest
  both_padded (edit ∷ some) others (wide ∷ wides) more first rest = (first.0, both_padded some others wides more first.1 rest)
  both_padded [] others (wide ∷ wides) more first rest = absurd first
  both_padded (edit ∷ some) others [] more first rest = absurd first

  pub padded_more : (edits : List BodyEdit) (at : ℕ) (edit wide : BodyEdit) (old now next : List BodyEdit) → slice_get edits at ≡ Some edit → next ≡ now ++ wide ∷ []
      → IsPaddedEdit marks nulls undefined number edit wide → ArePaddedBehind marks nulls undefined number (take at edits) old now
      → ArePaddedBehind marks nulls undefined number (take (at + 1) edits) old next
  padded_more edits at edit wide old now next there grown padded (wides, behind, all) =
      let more : take (at + 1) edits ≡ take at edits ++ edit ∷ [] =
      take_more edits at edit (slice_get_within edits at edit there) ∙ ap (λ (e : BodyEdit). take at edits ++ e ∷ []) (get_or_from_slice_get edits at edit edit there) in (
        wides ++ wide ∷ [],
        grown ∙ ap (λ (es : List BodyEdit). es ++ wide ∷ []) behind ∙ append_assoc old wides (wide ∷ []),
        subst (λ (es : List BodyEdit). ArePaddedEdits marks nulls undefined number es (wides ++ wide ∷ [])) (sym more)
            (both_padded (take at edits) (edit ∷ []) wides (wide ∷ []) all (padded, tt)),
      )

-- ---- how many changes are pending

-- something stands at the same places, and as many
pub record IsAlike (some other : Bodies) : Type 0 where
  pub places : (number : ℕ) (key : List ℕ) → is_some (get some (pos number, key)) ≡ is_some (get other (pos number, key))
  pub count : len some ≡ len other

one_is : (body : Option (List ℕ)) (t : Bool) → is_some body ≡ t → one_if_some body ≡ cond t 1 0
one_is body t e = ap (λ (b : Bool). cond b 1 0) e

module _ (reads : ReadsEdits) (counts : CountsBodies) where
  edited : (bodies : Bodies) (edit : BodyEdit) (number : ℕ) (key : List ℕ) (t : Bool) → (nat_eq number edit.table && same_bytes key edit.key) ≡ t
      → is_some (get (edit_body bodies edit) (pos number, key)) ≡ cond t (is_some edit.body) (is_some (get bodies (pos number, key)))
  edited bodies edit number key t e =
      ap is_some (reads bodies (edit ∷ []) number key)
      ∙ ap (λ (b : Bool). is_some (cond b edit.body (get bodies (pos number, key)))) e
      ∙ sym (through is_some t edit.body (get bodies (pos number, key)))

  same_more : (some other : Bodies) (edit : BodyEdit) → is_some edit.body ≡ true → is_some (get some (pos edit.table, edit.key)) ≡ true → IsAlike some other → IsAlike some (edit_body other edit)
  same_more some other edit sets stands alike = record {
    places = λ number key. by_test (nat_eq number edit.table && same_bytes key edit.key) _
        (λ t. let at = at_is number key edit t in
        subst (λ (n : ℕ). is_some (get some (pos n, key)) ≡ true) at.0 (subst (λ (k : List ℕ). is_some (get some (pos edit.table, k)) ≡ true) at.1 stands)
        ∙ sym sets ∙ sym (edited other edit number key true t))
        (λ f. alike.places number key ∙ sym (edited other edit number key false f));
    count =
        let more = counts other edit in
        let was = one_is (get other (pos edit.table, edit.key)) true (sym (alike.places edit.table edit.key) ∙ stands) in
        let is = one_is edit.body true sets in
        omega (arith, more, was, is, alike.count);
  }

  both_more : (some other : Bodies) (edit wide : BodyEdit) → wide.table ≡ edit.table → wide.key ≡ edit.key → is_some wide.body ≡ is_some edit.body → IsAlike some other
      → IsAlike (edit_body some edit) (edit_body other wide)
  both_more some other edit wide table key sets alike = record {
    places = λ number k.
        let hit : (nat_eq number wide.table && same_bytes k wide.key) ≡ (nat_eq number edit.table && same_bytes k edit.key) =
        ap₂ (λ (n : ℕ) (j : List ℕ). nat_eq number n && same_bytes k j) table key in
        edited some edit number k (nat_eq number edit.table && same_bytes k edit.key) refl
        ∙ ap₂ (λ (a b : Bool). cond (nat_eq number edit.table && same_bytes k edit.key) a b) (sym sets) (alike.places number k)
        ∙ sym (edited other wide number k (nat_eq number edit.table && same_bytes k edit.key) hit);
    count =
        let one = counts some edit in
        let two = counts other wide in
        let was : one_if_some (get other (pos wide.table, wide.key)) ≡ one_if_some (get some (pos edit.table, edit.key)) =
        ap₂ (λ (n : ℕ) (j : List ℕ). one_if_some (get other (pos n, j))) table key ∙ ap (λ (b : Bool). cond b 1 0) (sym (alike.places edit.table edit.key)) in
        let is : one_if_some wide.body ≡ one_if_some edit.body = ap (λ (b : Bool). cond b 1 0) sets in
        omega (arith, one, two, was, is, alike.count);
  }

  all_same : (some other : Bodies) (edits : List BodyEdit) → AllByRecursion (λ (edit : BodyEdit). (is_some edit.body ≡ true) × (is_some (get some (pos edit.table, edit.key)) ≡ true)) edits
      → IsAlike some other → IsAlike some (fold edit_body other edits)
  all_same some other [] all alike = alike
  all_same some other (edit ∷ edits) all alike = all_same some (edit_body other edit) edits all.1 (same_more some other edit all.0.0 all.0.1 alike)

  module _ (marks : List Bool) (nulls undefined : List ℕ) (number : ℕ) where
    all_both_more : (some other : Bodies) (edits wides : List BodyEdit) → ArePaddedEdits marks nulls undefined number edits wides → IsAlike some other
        → IsAlike (fold edit_body some edits) (fold edit_body other wides)
    all_both_more some other [] [] padded alike = alike
    all_both_more some other (edit ∷ edits) (wide ∷ wides) padded alike =
        all_both_more (edit_body some edit) (edit_body other wide) edits wides padded.1 (both_more some other edit wide padded.0.table padded.0.key padded.0.sets alike)
    all_both_more some other [] (wide ∷ wides) padded alike = absurd padded
    all_both_more some other (edit ∷ edits) [] padded alike = absurd padded

fold_both : (bodies : Bodies) (some more : List BodyEdit) → fold edit_body bodies (some ++ more) ≡ fold edit_body (fold edit_body bodies some) more
fold_both bodies [] more = refl
fold_both bodies (edit ∷ some) more = fold_both (edit_body bodies edit) some more

-- ---- what they leave

row_both : (some more : List BodyEdit) (number : ℕ) (key : List ℕ) (stood : Option (List ℕ)) → row_after (some ++ more) number key stood ≡ row_after more number key (row_after some number key stood)
row_both [] more number key stood = refl
row_both (edit ∷ some) more number key stood = row_both some more number key (cond (nat_eq number edit.table && same_bytes key edit.key) edit.body stood)

module _ (bytes : BytesWiden) (width number : ℕ) (marks : List Bool) where
  abbrev nulls : List ℕ
  nulls = replicate (width - length marks) null_type

  abbrev undefined : List ℕ
  undefined = replicate (width - length marks) undefined_type

  -- where these bytes are a change of the table, or none, those are it with the new columns
  abbrev IsWideOf : Option (List ℕ) → Option (List ℕ) → Type 0
  IsWideOf body wide = (change : Option Change) → IfSome change (FitsChange marks) → body ≡ option_map change_spelling change → wide ≡ wide_bytes width change

  edit_wide : (edit wide : BodyEdit) → IsPaddedEdit marks nulls undefined number edit wide → edit.table ≡ number → IsWideOf edit.body wide.body
  edit_wide edit wide padded at None fits is = padded.clears is
  edit_wide edit wide padded at (Some change) fits is = padded.padded change at fits is ∙ ap (λ (b : List ℕ). Some b) (wide_change bytes width marks change fits)

  same_hit : (other : ℕ) (key : List ℕ) (edit wide : BodyEdit) → IsPaddedEdit marks nulls undefined number edit wide
      → (nat_eq other wide.table && same_bytes key wide.key) ≡ (nat_eq other edit.table && same_bytes key edit.key)
  same_hit other key edit wide padded = ap₂ (λ (n : ℕ) (j : List ℕ). nat_eq other n && same_bytes key j) padded.table padded.key

  wide_here : (edits wides : List BodyEdit) (key : List ℕ) (stood its : Option (List ℕ)) → ArePaddedEdits marks nulls undefined number edits wides → IsWideOf stood its
      → IsWideOf (row_after edits number key stood) (row_after wides number key its)
  wide_here [] [] key stood its padded is = is
  wide_here (edit ∷ edits) (wide ∷ wides) key stood its padded is =
      let hit = nat_eq number edit.table && same_bytes key edit.key in
      let same = same_hit number key edit wide padded.0 in
      wide_here edits wides key (cond hit edit.body stood) (cond (nat_eq number wide.table && same_bytes key wide.key) wide.body its) padded.1
      (by_test hit _
      (λ t. subst (λ (b : Bool). IsWideOf (cond b edit.body stood) (cond (nat_eq number wide.table && same_bytes key wide.key) wide.body its)) (sym t)
      (subst (λ (b : Bool). IsWideOf edit.body (cond b wide.body its)) (sym (same ∙ t)) (edit_wide edit wide padded.0 (at_is number key edit t).0)))
      (λ f. subst (λ (b : Bool). IsWideOf (cond b edit.body stood) (cond (nat_eq number wide.table && same_bytes key wide.key) wide.body its)) (sym f)
      (subst (λ (b : Bool). IsWideOf stood (cond b wide.body its)) (sym (same ∙ f)) is)))
  wide_here [] (wide ∷ wides) key stood its padded is = absurd padded
  wide_here (edit ∷ edits) [] key stood its padded is = absurd padded

  module _ (other : ℕ) (apart : other ≡ number → ⊥) (key : List ℕ) where
    kept_body : (edit wide : BodyEdit) (stood : Option (List ℕ)) → IsPaddedEdit marks nulls undefined number edit wide
        → cond (nat_eq other wide.table && same_bytes key wide.key) wide.body stood ≡ cond (nat_eq other edit.table && same_bytes key edit.key) edit.body stood
    kept_body edit wide stood padded =
        ap (λ (b : Bool). cond b wide.body stood) (same_hit other key edit wide padded)
        ∙ by_test (nat_eq other edit.table && same_bytes key edit.key) _
        (λ t. ap (λ (b : Bool). cond b wide.body stood) t ∙ padded.other (λ e. apart (sym (at_is other key edit t).0 ∙ e)) ∙ sym (ap (λ (b : Bool). cond b edit.body stood) t))
        (λ f. ap (λ (b : Bool). cond b wide.body stood) f ∙ sym (ap (λ (b : Bool). cond b edit.body stood) f))

    wide_elsewhere : (edits wides : List BodyEdit) (stood : Option (List ℕ)) → ArePaddedEdits marks nulls undefined number edits wides → row_after wides other key stood ≡ row_after edits other key stood
    wide_elsewhere [] [] stood padded = refl
    wide_elsewhere (edit ∷ edits) (wide ∷ wides) stood padded =
        ap (row_after wides other key) (kept_body edit wide stood padded.0)
        ∙ wide_elsewhere edits wides (cond (nat_eq other edit.table && same_bytes key edit.key) edit.body stood) padded.1
    wide_elsewhere [] (wide ∷ wides) stood padded = absurd padded
    wide_elsewhere (edit ∷ edits) [] stood padded = absurd padded

-- a change that these bytes are
told_change : ChangesApart → (marks : List Bool) (some other : Option Change) (stored : Option (List ℕ)) → IfSome some (FitsChange marks) → IfSome other (FitsChange marks)
    → stored ≡ option_map change_spelling some → stored ≡ option_map change_spelling other → some ≡ other
told_change apart marks None None stored fits suits one two = refl
told_change apart marks (Some a) (Some b) stored fits suits one two =
    ap (λ (c : Change). Some c) (same_change apart marks a b fits suits (let e = sym one ∙ two in cc))
told_change apart marks None (Some b) stored fits suits one two = absurd (let no = sym one ∙ two in cc)
told_change apart marks (Some a) None stored fits suits one two = absurd (let no = sym one ∙ two in cc)

module _ (laws : OnePlaceOfName) (apart : ChangesApart) (bytes : BytesWiden) (reads : ReadsEdits) (counts : CountsBodies) (tables : List TableDef) (are : AreTables tables) (name : List ℕ) (width : ℕ)
    (contents : Contents) (pending end : Changed) (pends : Pends tables contents pending) (number : ℕ) (table : TableDef) (at : slice_get tables number ≡ Some table) (named : table.name ≡ name)
    (edits : List BodyEdit) (makes : MakesPending tables contents edits end) (made : List BodyEdit) (widens : ArePendingEdits (widened_tables name width tables) contents made (widened_pending name width pending))
    (wides : List BodyEdit) (padded : ArePaddedEdits table.key_marks (replicate (width - length table.key_marks) null_type) (replicate (width - length table.key_marks) undefined_type) number edits wides) where
  abbrev stored : ℕ → List ℕ → Option (List ℕ)
  stored = stored_pending contents

  -- what the first of them leave
  first_leave : (other : ℕ) (wide : TableDef) (key : List ℕ) → slice_get (widened_tables name width tables) other ≡ Some wide → (found : TableDef) → wide.name ≡ found.name
      → row_after made other key (stored other key) ≡ option_map change_spelling (widened_pending name width pending found.name key)
  first_leave other wide key there found is =
      widens.written other wide key there ∙ ap (λ (n : List ℕ). option_map change_spelling (widened_pending name width pending n key)) is

  written : (other : ℕ) (wide : TableDef) (key : List ℕ) → slice_get (widened_tables name width tables) other ≡ Some wide
      → row_after (made ++ wides) other key (stored other key) ≡ option_map change_spelling (widened_pending name width end wide.name key)
  written other wide key there =
      let from = from_wide name width tables other wide there in
      let found = from.0 in
      let first = first_leave other wide key there found from.2 in
      row_both made wides other key (stored other key)
      ∙ subst (λ (n : List ℕ). row_after wides other key (row_after made other key (stored other key)) ≡ option_map change_spelling (widened_pending name width end n key)) (sym from.2)
      (by_test (bytes_eq found.name name) _
      (λ t. let place = same_place laws tables are name number table at named other found from.1 (name_is found.name name t) in
      let is = same_found laws tables are name number table at named other found from.1 place in
      let left : row_after made other key (stored other key) ≡ wide_bytes width (pending found.name key) = rw t at first in
      let all = subst (λ (n : ℕ). ArePaddedEdits table.key_marks (replicate (width - length table.key_marks) null_type) (replicate (width - length table.key_marks) undefined_type) n edits wides) (sym place) padded in
      let fits : (c : Changed) → ((t : TableDef) (k : List ℕ) → Contains tables t → IfSome (c t.name k) (FitsChange t.key_marks)) → IfSome (c found.name key) (FitsChange table.key_marks) =
      λ c fit. subst (λ (u : TableDef). IfSome (c found.name key) (FitsChange u.key_marks)) is (fit found key (contained tables other found from.1)) in
      simp t (wide_here bytes width other table.key_marks edits wides key (stored other key) (row_after made other key (stored other key)) all
      (λ change suits spells.
      left ∙ ap (wide_bytes width) (told_change apart table.key_marks (pending found.name key) change (stored other key) (fits pending pends.fits) suits (pends.stored other found key from.1) spells))
      (end found.name key) (fits end makes.fits) (makes.written other found key from.1)))
      (λ f. let away = other_place laws tables are name number table at named other found from.1 (name_not found.name name f) in
      let left : row_after made other key (stored other key) ≡ option_map change_spelling (pending found.name key) = rw f at first in
      simp f (ap (row_after wides other key) (left ∙ sym (pends.stored other found key from.1))
      ∙ wide_elsewhere bytes width number table.key_marks other (λ e. away_from other e away) key edits wides (stored other key) padded
      ∙ makes.written other found key from.1)))
    where
      away_from : (other : ℕ) → other ≡ number → nat_eq other number ≡ false → ⊥
      away_from other e f = let yes : true ≡ false = sym ((Decides-eqb other number).1 e) ∙ f in cc

  wides_within : (count : ℕ) (some more : List BodyEdit) → ArePaddedEdits table.key_marks (replicate (width - length table.key_marks) null_type) (replicate (width - length table.key_marks) undefined_type) number some more
      → AllByRecursion (λ (edit : BodyEdit). edit.table < count) some → AllByRecursion (λ (edit : BodyEdit). edit.table < count) more
  wides_within count [] [] all within = tt
  wides_within count (edit ∷ some) (wide ∷ more) all within = (let same = all.0.table in omega (arith, same, within.0), wides_within count some more all.1 within.1)
  wides_within count [] (wide ∷ more) all within = absurd all
  wides_within count (edit ∷ some) [] all within = absurd all

  within : AreWithin (widened_tables name width tables) (made ++ wides)
  within =
      all_both (λ (edit : BodyEdit). edit.table < length (widened_tables name width tables)) made wides
      (recursion_from_All (λ (edit : BodyEdit). edit.table < length (widened_tables name width tables)) made widens.within)
      (subst (λ (n : ℕ). AllByRecursion (λ (edit : BodyEdit). edit.table < n) wides) (sym (length-map tables (widened_table name width))) (wides_within (length tables) edits wides padded makes.within))

  pub folded_makes : MakesPending (widened_tables name width tables) contents (made ++ wides) (widened_pending name width end)
  folded_makes = record { written = written; within = within; fits = pending_fits tables name width end makes.fits }

  -- a change is pending where one was
  still_there : (other : ℕ) (wide : TableDef) (key : List ℕ) → slice_get (widened_tables name width tables) other ≡ Some wide → is_some (widened_pending name width pending wide.name key) ≡ is_some (stored other key)
  still_there other wide key there =
      let from = from_wide name width tables other wide there in
      let found = from.0 in
      let was : is_some (pending found.name key) ≡ is_some (stored other key) =
      sym (map_there change_spelling (pending found.name key)) ∙ ap is_some (sym (pends.stored other found key from.1)) in
      ap (λ (n : List ℕ). is_some (widened_pending name width pending n key)) from.2
      ∙ by_test (bytes_eq found.name name) _ (λ t. simp t (map_there (widened_change width) (pending found.name key) ∙ was)) (λ f. simp f was)

  pub folded_count : pending_after contents (made ++ wides) ≡ pending_after contents edits
  folded_count =
      let set = all_set_of (widened_tables name width tables) contents (widened_pending name width pending) made widens still_there in
      let begun = all_same reads counts contents.pending contents.pending made set (record { places = λ n k. refl; count = refl }) in
      ap len (fold_both contents.pending made wides)
      ∙ sym (all_both_more reads counts table.key_marks (replicate (width - length table.key_marks) null_type) (replicate (width - length table.key_marks) undefined_type) number
      contents.pending (fold edit_body contents.pending made) edits wides padded begun).count
