-- Edits that rise and change what stands there are known by what they leave.
use Rattle.std.proofs.Common.{◌≡◌, ◌≢◌, ◌<◌, ◌≤◌, ◌^◌, ◌∙◌, ◌&&◌, ◌⊎◌, inl, inr, ℕ, Bool, List, [], ◌∷◌, cond, get_or, is_some, length, map, take, Option, Some, None, option_map, T, true, false, refl, ap, ap₂, subst, sym, arith}
use Rattle.std.specs.Prelude.{nat_eq, slice_get}
use Rattle.std.specs.FinMap.{find, is_sorted}
use Rattle.std.specs.FinMap.Entries.{below_all}
use Rattle.std.specs.Int.{from_be_bytes, to_be_bytes, w32}
use Rattle.std.specs.List.{AllByRecursion}
use Rattle.std.specs.List.Sorted.{IsStrictlySortedBy}
use Rattle.std.specs.Ordering.{is_lt}
use Rattle.std.specs.declared.cmp.Ordering.{Ordering}
use Rattle.std.specs.declared.cmp.Ordering.TheVariants.{Less}
use Rattle.std.proofs.lemmas.Bool.Decides.{Decides-eqb}
use Rattle.std.proofs.lemmas.Map.Keys.{sorted_head, sorted_tail}
use Rattle.std.proofs.lemmas.List.Elements.{recursion_from_All}
use Rattle.std.proofs.lemmas.Option.{slice_get-get_or}
use Rattle.std.proofs.lemmas.Nat.{from_be_bytes-to_be_bytes_4}
use Rattle.cs_value.specs.Catalog.{AreTables}
use Rattle.cs_value.specs.declared.catalog.TableDef.{TableDef}
use Rattle.cs_record.specs.Spelling.{row_bytes}
use Rattle.cs_change.specs.Spelling.{change_spelling}
use Rattle.cs_value.specs.Facts.{by_test, head_same, some_same, tail_same}
use Rattle.cs_order.specs.Order.{by_bytes, same_bytes}
use Rattle.cs_pending.specs.Spots.{and_left, and_right, key_is, key_refl}
use Rattle.cs_pending.specs.Steps.{map_there, none_left}
use Rattle.cs_pending.specs.View.{Changed}
use Rattle.cs_pending.specs.rows.Listings.{each_found}
use Rattle.cs_store.specs.Contents.{Contents, stored_pending, stored_tables}
use Rattle.cs_store.specs.Laws.{OneListing, row_after}
use Rattle.cs_store.specs.States.{AreEdits, edit_place, place_bytes}
use Rattle.cs_store.specs.edits.Edits.{BodyEdit}
use Rattle.cs_padding.specs.Laws.{OnePendingEdits, OneRowEdits}
use Rattle.cs_padding.specs.Pending.{ArePendingEdits}

-- ---- an edit as a place and what is set there

abbrev code : Option (List ℕ) → List ℕ
code None = []
code (Some body) = 0 ∷ body

one_code : (some other : Option (List ℕ)) → code some ≡ code other → some ≡ other
one_code None None e = refl
one_code (Some a) (Some b) e = ap (λ (x : List ℕ). Some x) (tail_same e)
one_code None (Some b) e = absurd (let no = e in cc)
one_code (Some a) None e = absurd (let no = e in cc)

abbrev listed : BodyEdit → List ℕ × List ℕ
listed edit = (edit_place edit, code edit.body)

abbrev Rising : List BodyEdit → Type 0
Rising edits = IsStrictlySortedBy by_bytes (map edit_place edits)

-- the edit is one of those
abbrev Among : BodyEdit → List BodyEdit → Type 0
Among edit [] = ⊥
Among edit (first ∷ edits) = (edit ≡ first) ⊎ Among edit edits

all_among : (P : BodyEdit → Type 0) (edit : BodyEdit) (edits : List BodyEdit) → AllByRecursion P edits → Among edit edits → P edit
all_among P edit [] all among = absurd among
all_among P edit (first ∷ edits) all (inl e) = subst P (sym e) all.0
all_among P edit (first ∷ edits) all (inr among) = all_among P edit edits all.1 among

-- ---- they are a listing

is_less : (o : Ordering) → o ≡ Less → T (is_lt o)
is_less o e = subst (λ (x : Ordering). T (is_lt x)) (sym e) tt

both : (a b : Bool) → T a → T b → T (a && b)
both true true h i = tt
both true false h i = i
both false b h i = h

below : (place : List ℕ) (edits : List BodyEdit) → AllByRecursion (λ (other : List ℕ). by_bytes place other ≡ Less) (map edit_place edits) → T (below_all by_bytes place (map listed edits))
below place [] all = tt
below place (edit ∷ edits) all = both _ _ (is_less (by_bytes place (edit_place edit)) all.0) (below place edits all.1)

sorted : (edits : List BodyEdit) → Rising edits → T (is_sorted by_bytes (map listed edits))
sorted [] rises = tt
sorted (edit ∷ edits) rises =
    both _ _ (below (edit_place edit) edits (sorted_head by_bytes (edit_place edit) (map edit_place edits) rises))
    (sorted edits (sorted_tail by_bytes (edit_place edit) (map edit_place edits) rises))

-- what is found is an edit's
found_edit : (place set : List ℕ) (edits : List BodyEdit) → find by_bytes place (map listed edits) ≡ Some set
    → (edit : BodyEdit) × Among edit edits × (edit_place edit ≡ place) × (code edit.body ≡ set)
found_edit place set [] e = absurd (let no = e in cc)
found_edit place set (edit ∷ edits) e =
    by_test (same_bytes place (edit_place edit)) _
    (λ t. (edit, inl refl, sym (key_is place (edit_place edit) t), some_same (rw t at e)))
    (λ t. let more = found_edit place set edits (rw t at e) in (more.0, inr more.1, more.2, more.3))

-- and an edit is found
finds : (edit : BodyEdit) (edits : List BodyEdit) → Rising edits → Among edit edits → find by_bytes (edit_place edit) (map listed edits) ≡ Some (code edit.body)
finds edit edits rises among =
    let all = each_found (λ place set. find by_bytes place (map listed edits) ≡ Some set) (map listed edits) (sorted edits rises) (λ place set e. e) in
    all_among (λ (one : BodyEdit). find by_bytes (edit_place one) (map listed edits) ≡ Some (code one.body)) edit edits (of_listed edits all) among
  where
    of_listed : (rest : List BodyEdit) → AllByRecursion (λ (row : List ℕ × List ℕ). find by_bytes row.0 (map listed edits) ≡ Some row.1) (map listed rest)
        → AllByRecursion (λ (one : BodyEdit). find by_bytes (edit_place one) (map listed edits) ≡ Some (code one.body)) rest
    of_listed [] all = tt
    of_listed (one ∷ rest) all = (all.0, of_listed rest all.1)

-- ---- what they leave

-- the edit is of this place
abbrev pub IsAt : ℕ → List ℕ → BodyEdit → Type 0
IsAt number key edit = (edit.table ≡ number) × (edit.key ≡ key)

abbrev Left : ℕ → List ℕ → Option (List ℕ) → List BodyEdit → Type 0
Left number key stood edits =
    (((edit : BodyEdit) → Among edit edits → IsAt number key edit → ⊥) × (row_after edits number key stood ≡ stood))
    ⊎ ((edit : BodyEdit) × Among edit edits × IsAt number key edit × (row_after edits number key stood ≡ edit.body))

step : (number : ℕ) (key : List ℕ) (edit : BodyEdit) (edits : List BodyEdit) (stood : Option (List ℕ)) (t : Bool) → (nat_eq number edit.table && same_bytes key edit.key) ≡ t
    → row_after (edit ∷ edits) number key stood ≡ row_after edits number key (cond t edit.body stood)
step number key edit edits stood t e = ap (λ (b : Bool). row_after edits number key (cond b edit.body stood)) e

pub at_is : (number : ℕ) (key : List ℕ) (edit : BodyEdit) → (nat_eq number edit.table && same_bytes key edit.key) ≡ true → IsAt number key edit
at_is number key edit e = (
  sym ((Decides-eqb number edit.table).0 (and_left (nat_eq number edit.table) (same_bytes key edit.key) e)),
  sym (key_is key edit.key (and_right (nat_eq number edit.table) (same_bytes key edit.key) e)),
)

is_at : (number : ℕ) (key : List ℕ) (edit : BodyEdit) → IsAt number key edit → (nat_eq number edit.table && same_bytes key edit.key) ≡ true
is_at number key edit at =
    ap₂ (λ (a b : Bool). a && b) ((Decides-eqb number edit.table).1 (sym at.0)) (subst (λ (k : List ℕ). same_bytes key k ≡ true) (sym at.1) (key_refl key))

left : (number : ℕ) (key : List ℕ) (edits : List BodyEdit) (stood : Option (List ℕ)) → Left number key stood edits
left number key [] stood = inl ((λ edit among at. among), refl)
left number key (edit ∷ edits) stood =
    by_test (nat_eq number edit.table && same_bytes key edit.key) _
    (λ t. here t (left number key edits edit.body))
    (λ t. there t (left number key edits stood))
  where
    here : (nat_eq number edit.table && same_bytes key edit.key) ≡ true → Left number key edit.body edits → Left number key stood (edit ∷ edits)
    here t (inl (none, is)) = inr (edit, inl refl, at_is number key edit t, step number key edit edits stood true t ∙ is)
    here t (inr (other, among, at, is)) = inr (other, inr among, at, step number key edit edits stood true t ∙ is)

    neither : (nat_eq number edit.table && same_bytes key edit.key) ≡ false → ((one : BodyEdit) → Among one edits → IsAt number key one → ⊥) → (one : BodyEdit) → Among one (edit ∷ edits) → IsAt number key one → ⊥
    neither t none one (inl e) at = let yes = is_at number key edit (subst (IsAt number key) e at) in let no = t in cc
    neither t none one (inr among) at = none one among at

    there : (nat_eq number edit.table && same_bytes key edit.key) ≡ false → Left number key stood edits → Left number key stood (edit ∷ edits)
    there t (inl (none, is)) = inl (neither t none, step number key edit edits stood false t ∙ is)
    there t (inr (other, among, at, is)) = inr (other, inr among, at, step number key edit edits stood false t ∙ is)

-- ---- two lists of edits

place_is : (number : ℕ) (key : List ℕ) (edit : BodyEdit) → IsAt number key edit → edit_place edit ≡ place_bytes number key
place_is number key edit at = ap₂ place_bytes at.0 at.1

module _ (stored : ℕ → List ℕ → Option (List ℕ)) (count : ℕ) (target : ℕ → List ℕ → Option (List ℕ)) where
  pub record Makes (edits : List BodyEdit) : Type 0 where
    pub written : (number : ℕ) (key : List ℕ) → number < count → row_after edits number key (stored number key) ≡ target number key
    pub within : AllByRecursion (λ (edit : BodyEdit). edit.table < count) edits
    pub rises : IsStrictlySortedBy by_bytes (map edit_place edits)
    pub changing : AllByRecursion (λ (edit : BodyEdit). edit.body ≢ stored edit.table edit.key) edits

  -- an edit sets what is to stand there
  sets : (edits : List BodyEdit) → Makes edits → (edit : BodyEdit) → Among edit edits → edit.body ≡ target edit.table edit.key
  sets edits makes edit among =
      let less = all_among (λ (one : BodyEdit). one.table < count) edit edits makes.within among in
      told (left edit.table edit.key edits (stored edit.table edit.key)) (makes.written edit.table edit.key less)
    where
      told : Left edit.table edit.key (stored edit.table edit.key) edits → row_after edits edit.table edit.key (stored edit.table edit.key) ≡ target edit.table edit.key → edit.body ≡ target edit.table edit.key
      told (inl (none, is)) e = absurd (none edit among (refl, refl))
      told (inr (other, inside, at, is)) e =
          let one = finds edit edits makes.rises among in
          let two = ap (λ (p : List ℕ). find by_bytes p (map listed edits)) (sym (place_is edit.table edit.key other at)) ∙ finds other edits makes.rises inside in
          one_code edit.body other.body (some_same (sym one ∙ two)) ∙ sym is ∙ e

  -- what is found of one is found of the other
  found_of : (some others : List BodyEdit) → Makes some → Makes others → (place set : List ℕ) → find by_bytes place (map listed some) ≡ Some set → find by_bytes place (map listed others) ≡ Some set
  found_of some others makes make place set found =
      let one = found_edit place set some found in
      let edit = one.0 in
      let less = all_among (λ (e : BodyEdit). e.table < count) edit some makes.within one.1 in
      let sets_it = sets some makes edit one.1 in
      let changes = all_among (λ (e : BodyEdit). e.body ≢ stored e.table e.key) edit some makes.changing one.1 in
      told edit one.2 one.3 sets_it changes (make.written edit.table edit.key less) (left edit.table edit.key others (stored edit.table edit.key))
    where
      told : (edit : BodyEdit) → edit_place edit ≡ place → code edit.body ≡ set → edit.body ≡ target edit.table edit.key → edit.body ≢ stored edit.table edit.key
          → row_after others edit.table edit.key (stored edit.table edit.key) ≡ target edit.table edit.key → Left edit.table edit.key (stored edit.table edit.key) others
          → find by_bytes place (map listed others) ≡ Some set
      told edit at is target_is changes e (inl (none, stays)) = absurd (changes (target_is ∙ sym e ∙ stays))
      told edit at is target_is changes e (inr (other, inside, same, leaves)) =
          ap (λ (p : List ℕ). find by_bytes p (map listed others)) (sym (place_is edit.table edit.key other same ∙ at)) ∙ finds other others make.rises inside
          ∙ ap (λ (b : Option (List ℕ)). Some (code b)) (sym leaves ∙ e ∙ sym target_is) ∙ ap (λ (b : List ℕ). Some b) is

  same_found : (some others : List BodyEdit) → Makes some → Makes others → (place : List ℕ) → find by_bytes place (map listed some) ≡ find by_bytes place (map listed others)
  same_found some others makes make place =
      let split : (a b : Option (List ℕ)) → find by_bytes place (map listed some) ≡ a → find by_bytes place (map listed others) ≡ b → a ≡ b = elim [
        | None ↦ elim [
          | None ↦ λ e f. refl
          | Some set ↦ λ e f. absurd (let g = found_of others some make makes place set f in let no : ◌≡◌ {A = Option (List ℕ)} None (Some set) = sym e ∙ g in cc)
        ]
        | Some set ↦ λ b e f. sym (found_of some others makes make place set e) ∙ f
      ] in
      split (find by_bytes place (map listed some)) (find by_bytes place (map listed others)) refl refl

-- the places tell the edits
table_told : (m n : ℕ) (k l : List ℕ) → m < 2 ^ 32 → n < 2 ^ 32 → place_bytes m k ≡ place_bytes n l → m ≡ n
table_told m n k l small low e =
    let fours : to_be_bytes w32 m ≡ to_be_bytes w32 n = ap (take 4) e in
    sym (from_be_bytes-to_be_bytes_4 m small) ∙ (ap (from_be_bytes w32) fours ∙ from_be_bytes-to_be_bytes_4 n low)

key_told : (m n : ℕ) (k l : List ℕ) → place_bytes m k ≡ place_bytes n l → k ≡ l
key_told m n k l e = cc

edit_told : (some other : BodyEdit) → some.table < 2 ^ 32 → other.table < 2 ^ 32 → listed some ≡ listed other → some ≡ other
edit_told some other small low e =
    let place : edit_place some ≡ edit_place other = ap (λ (row : List ℕ × List ℕ). row.0) e in
    let table = table_told some.table other.table some.key other.key small low place in
    let key = key_told some.table other.table some.key other.key place in
    let body = one_code some.body other.body (ap (λ (row : List ℕ × List ℕ). row.1) e) in
    same_parts some.table other.table some.key other.key some.body other.body table key body
  where
    same_parts : (m n : ℕ) (k l : List ℕ) (b d : Option (List ℕ)) → m ≡ n → k ≡ l → b ≡ d
        → ◌≡◌ {A = BodyEdit} (record { table = m; key = k; body = b }) (record { table = n; key = l; body = d })
    same_parts m n k l b d e f g =
        ap (λ (t : ℕ). record { table = t; key = k; body = b }) e ∙ ap (λ (x : List ℕ). record { table = n; key = x; body = b }) f ∙ ap (λ (x : Option (List ℕ)). record { table = n; key = l; body = x }) g

edits_told : (count : ℕ) → count ≤ 2 ^ 32 → (some others : List BodyEdit) → AllByRecursion (λ (edit : BodyEdit). edit.table < count) some → AllByRecursion (λ (edit : BodyEdit). edit.table < count) others
    → map listed some ≡ map listed others → some ≡ others
edits_told count few [] [] p q e = refl
edits_told count few (edit ∷ some) (other ∷ others) p q e =
    ap₂ (λ (x : BodyEdit) (xs : List BodyEdit). x ∷ xs) (edit_told edit other (let less = p.0 in omega (arith, less, few)) (let less = q.0 in omega (arith, less, few)) (head_same e))
    (edits_told count few some others p.1 q.1 (tail_same e))
edits_told count few [] (other ∷ others) p q e = absurd (let no = e in cc)
edits_told count few (edit ∷ some) [] p q e = absurd (let no = e in cc)

-- ---- edits of places where something stands and stays

module _ (stored : ℕ → List ℕ → Option (List ℕ)) (count : ℕ) (target : ℕ → List ℕ → Option (List ℕ)) (edits : List BodyEdit) (makes : Makes stored count target edits)
    (same : (number : ℕ) (key : List ℕ) → number < count → is_some (target number key) ≡ is_some (stored number key)) where
  -- a body is set where one stands
  abbrev pub IsSet : BodyEdit → Type 0
  IsSet edit = (is_some edit.body ≡ true) × (is_some (stored edit.table edit.key) ≡ true)

  one_set : (edit : BodyEdit) → Among edit edits → IsSet edit
  one_set edit among =
      let less = all_among (λ (one : BodyEdit). one.table < count) edit edits makes.within among in
      let is = sets stored count target edits makes edit among in
      let changes = all_among (λ (one : BodyEdit). one.body ≢ stored one.table one.key) edit edits makes.changing among in
      let alike : is_some edit.body ≡ is_some (stored edit.table edit.key) = ap is_some is ∙ same edit.table edit.key less in
      by_test (is_some (stored edit.table edit.key)) _ (λ t. (alike ∙ t, t))
      (λ f. absurd (changes (none_left edit.body (alike ∙ f) ∙ sym (none_left (stored edit.table edit.key) f))))

  each_set : (rest : List BodyEdit) → ((edit : BodyEdit) → Among edit rest → Among edit edits) → AllByRecursion IsSet rest
  each_set [] within = tt
  each_set (edit ∷ rest) within = (one_set edit (within edit (inl refl)), each_set rest (λ other among. within other (inr among)))

  pub all_set : AllByRecursion IsSet edits
  all_set = each_set edits (λ edit among. among)

-- there is one list
pub one_edits : OneListing → (stored target : ℕ → List ℕ → Option (List ℕ)) (count : ℕ) → count ≤ 2 ^ 32 → (some others : List BodyEdit) → Makes stored count target some → Makes stored count target others → some ≡ others
one_edits one stored target count few some others makes make =
    edits_told count few some others makes.within make.within
    (one (λ place. find by_bytes place (map listed others)) (map listed some) (map listed others)
    (record { rises = sorted some makes.rises; found = λ place. same_found stored count target some others makes make place })
    (record { rises = sorted others make.rises; found = λ place. refl }))

-- ---- of tables

-- what is said of a table's name, at the table's place
abbrev pub at_table : (List ℕ → List ℕ → Option (List ℕ)) → Option TableDef → List ℕ → Option (List ℕ)
at_table held None key = None
at_table held (Some table) key = held table.name key

abbrev pub held_at : List TableDef → (List ℕ → List ℕ → Option (List ℕ)) → ℕ → List ℕ → Option (List ℕ)
held_at tables held number key = at_table held (slice_get tables number) key

there_is : (tables : List TableDef) (number : ℕ) → number < length tables → (table : TableDef) × (slice_get tables number ≡ Some table)
there_is [] number less = absurd (omega (arith, less))
there_is (table ∷ tables) number less = (get_or (table ∷ tables) number table, slice_get-get_or (table ∷ tables) number table less)

written_at : (tables : List TableDef) (held : List ℕ → List ℕ → Option (List ℕ)) (left : ℕ → List ℕ → Option (List ℕ))
    → ((number : ℕ) (table : TableDef) (key : List ℕ) → slice_get tables number ≡ Some table → left number key ≡ held table.name key)
    → (number : ℕ) (key : List ℕ) → number < length tables → left number key ≡ held_at tables held number key
written_at tables held left written number key less =
    let table = there_is tables number less in
    written number table.0 key table.1 ∙ sym (ap (λ (found : Option TableDef). at_table held found key) table.1)

few_tables : (tables : List TableDef) → AreTables tables → length tables ≤ 2 ^ 32
few_tables tables are = omega (arith, are.0)

pub one_row_edits : OneListing → OneRowEdits
one_row_edits one tables contents some others end are p q =
    one_edits one (stored_tables contents) (held_at tables (λ name key. option_map row_bytes (end name key))) (length tables) (few_tables tables are) some others (makes some p) (makes others q)
  where
    makes : (edits : List BodyEdit) → AreEdits tables contents edits end → Makes (stored_tables contents) (length tables) (held_at tables (λ name key. option_map row_bytes (end name key))) edits
    makes edits are_edits = record {
      written = written_at tables (λ name key. option_map row_bytes (end name key)) (λ number key. row_after edits number key (stored_tables contents number key)) are_edits.written;
      within = recursion_from_All (λ (edit : BodyEdit). edit.table < length tables) edits are_edits.within;
      rises = are_edits.rising;
      changing = recursion_from_All (λ (edit : BodyEdit). edit.body ≢ stored_tables contents edit.table edit.key) edits are_edits.changing;
    }

pub pending_makes : (tables : List TableDef) (contents : Contents) (end : Changed) (edits : List BodyEdit) → ArePendingEdits tables contents edits end
    → Makes (stored_pending contents) (length tables) (held_at tables (λ name key. option_map change_spelling (end name key))) edits
pending_makes tables contents end edits are_edits = record {
  written = written_at tables (λ name key. option_map change_spelling (end name key)) (λ number key. row_after edits number key (stored_pending contents number key)) are_edits.written;
  within = recursion_from_All (λ (edit : BodyEdit). edit.table < length tables) edits are_edits.within;
  rises = are_edits.rising;
  changing = recursion_from_All (λ (edit : BodyEdit). edit.body ≢ stored_pending contents edit.table edit.key) edits are_edits.changing;
}

pub one_pending_edits : OneListing → OnePendingEdits
one_pending_edits one tables contents some others end are p q =
    one_edits one (stored_pending contents) (held_at tables (λ name key. option_map change_spelling (end name key))) (length tables) (few_tables tables are) some others
    (pending_makes tables contents end some p) (pending_makes tables contents end others q)

-- edits that leave a change where there was one, and none elsewhere, set a body where one stands
pub all_set_of : (tables : List TableDef) (contents : Contents) (end : Changed) (edits : List BodyEdit) → ArePendingEdits tables contents edits end
    → ((number : ℕ) (table : TableDef) (key : List ℕ) → slice_get tables number ≡ Some table → is_some (end table.name key) ≡ is_some (stored_pending contents number key))
    → AllByRecursion (λ (edit : BodyEdit). (is_some edit.body ≡ true) × (is_some (stored_pending contents edit.table edit.key) ≡ true)) edits
all_set_of tables contents end edits are_edits same =
    all_set (stored_pending contents) (length tables) (held_at tables (λ name key. option_map change_spelling (end name key))) edits (pending_makes tables contents end edits are_edits)
    (λ number key less.
    let table = there_is tables number less in
    ap (λ (found : Option TableDef). is_some (at_table (λ name k. option_map change_spelling (end name k)) found key)) table.1
    ∙ map_there change_spelling (end table.0.name key) ∙ same number table.0 key table.1)
