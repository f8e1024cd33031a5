-- Entries of the log that are read of rows, one after another.
use Rattle.std.specs.Prelude.{◌↔◌}
use Rattle.std.proofs.Common.{◌≡◌, inl, inr, ℕ, ◌+◌, ℤ, pos, List, [], ◌∷◌, ◌++◌, length, length-append, Bool, true, false, IsTrue, refl, sym, ap, subst, ◌∙◌, arith}
use Rattle.std.specs.Ordering.{is_eq, int_cmp}
use Rattle.std.specs.Cmp.{eq_by_cmp_equiv}
use Rattle.std.proofs.lemmas.Bool.{cases_Bool}
use Rattle.std.proofs.lemmas.Cmp.{int_cmp_total}
use Rattle.std.proofs.lemmas.List.{append_assoc, map-append}
use Rattle.std.proofs.lemmas.Map.Lookups.{exact_signed}
use Rattle.cs_order.specs.Facts.{equal_from}
use Rattle.sqlite.specs.Order.{Row, column}
use Rattle.sqlite_value.specs.declared.value.Value.TheVariants.{Int}
use Rattle.sqlite_value.specs.Order.{value_cmp}
use Rattle.sqlite_value.proofs.OrderLemmas.{value_cmp-Int}
use Rattle.cs_store.specs.Contents.{LogItem}
use Rattle.cs_store.specs.Written.{item_of, items_of}
use Rattle.cs_store.specs.declared.batch.StoredEntry.{StoredEntry}
use Rattle.cs_sql.specs.declared.statements.reading.Entries.{Entries}
use Rattle.cs_sql.specs.statements.Steps.{AreInTurn, AreTaken, is_shown_at, item_read, items_read}

shown_tie : (row : Row) (version : ℤ) (k : ℕ) → column row 3 ≡ Int version → is_shown_at k row ≡ is_eq (int_cmp version (pos k))
shown_tie row version k is = (λ i. is_eq (value_cmp (is i) (Int (pos k)))) ∙ ap is_eq (value_cmp-Int version (pos k))

pub shown_here : (row : Row) (version : ℤ) (k : ℕ) → column row 3 ≡ Int version → version ≡ pos k → is_shown_at k row ≡ true
shown_here row version k is same = shown_tie row version k is ∙ ap (λ (z : ℤ). is_eq (int_cmp z (pos k))) same ∙ (eq_by_cmp_equiv int_cmp_total).refl (pos k)

pub shown_elsewhere : (row : Row) (version : ℤ) (k : ℕ) → column row 3 ≡ Int version → (version ≡ pos k → ⊥) → is_shown_at k row ≡ false
shown_elsewhere row version k is other = elim (cases_Bool (is_shown_at k row)) [
  | inl here ↦ absurd (other (exact_signed version (pos k) (equal_from _ (sym (shown_tie row version k is) ∙ here))))
  | inr off ↦ off
]

items_push : (first : ℕ) (rows : List Row) (row : Row) → AreInTurn first rows → is_shown_at (first + length rows) row ≡ true → items_read first (rows ++ row ∷ []) ≡ items_read first rows ++ item_read row ∷ []
items_push first [] row turn is = let here : is_shown_at first row ≡ true = subst (λ (n : ℕ). is_shown_at n row ≡ true) (omega arith) is in rw here refl
items_push first (r ∷ rows) row turn is =
    let later : is_shown_at ((first + 1) + length rows) row ≡ true = subst (λ (n : ℕ). is_shown_at n row ≡ true) (omega arith) is in
    let own : is_shown_at first r ≡ true = turn.0 in
    rw own (ap (λ (items : List LogItem). item_read r ∷ items) (items_push (first + 1) rows row turn.1 later))

turn_push : (first : ℕ) (rows : List Row) (row : Row) → AreInTurn first rows → is_shown_at (first + length rows) row ≡ true → AreInTurn first (rows ++ row ∷ [])
turn_push first [] row turn is = (subst (λ (n : ℕ). is_shown_at n row ≡ true) (omega arith) is, tt)
turn_push first (r ∷ rows) row turn is = (turn.0, turn_push (first + 1) rows row turn.1 (subst (λ (n : ℕ). is_shown_at n row ≡ true) (omega arith) is))

items_stop : (first : ℕ) (rows more : List Row) (row : Row) → AreInTurn first rows → is_shown_at (first + length rows) row ≡ false → items_read first (rows ++ row ∷ more) ≡ items_read first rows
items_stop first [] more row turn is = let off : is_shown_at first row ≡ false = subst (λ (n : ℕ). is_shown_at n row ≡ false) (omega arith) is in rw off refl
items_stop first (r ∷ rows) more row turn is =
    let later : is_shown_at ((first + 1) + length rows) row ≡ false = subst (λ (n : ℕ). is_shown_at n row ≡ false) (omega arith) is in
    let own : is_shown_at first r ≡ true = turn.0 in
    rw own (ap (λ (items : List LogItem). item_read r ∷ items) (items_stop (first + 1) rows more row turn.1 later))

-- a row that shows another version ends them, and one after the end changes nothing
stopped : (first : ℕ) (rows : List Row) (row : Row) (new : Entries) → new.has_ended ≡ true → items_of new.entries.items ≡ items_read first rows → ((more : List Row) → items_read first (rows ++ row ∷ more) ≡ items_read first rows) → AreTaken first new (rows ++ row ∷ [])
stopped first rows row new ended items stop = record {
  items = items ∙ sym (stop []);
  in_turn = λ goes_on. let no : true ≡ false = sym ended ∙ goes_on in absurd cc;
  ended = λ _ more. ap (items_read first) (append_assoc rows (row ∷ []) more) ∙ stop more ∙ sym (stop []);
}

pub taken_over : (old new : Entries) (row : Row) (version : ℤ) (takes : Bool) → new.entries.items ≡ old.entries.items → new.has_ended ≡ true → takes ≡ false → (IsTrue takes ↔ ((old.has_ended ≡ false) × (version ≡ pos old.next)))
    → column row 3 ≡ Int version → (first : ℕ) (rows : List Row) → AreTaken first old rows → AreTaken first new (rows ++ row ∷ [])
taken_over old new row version takes entries ended refused decides is first rows taken =
    let items : items_of new.entries.items ≡ items_read first rows = ap items_of entries ∙ taken.items in
    elim (cases_Bool old.has_ended) [
      | inl over ↦ stopped first rows row new ended items (λ more. taken.ended over (row ∷ more))
      | inr goes_on ↦
          let turn = taken.in_turn goes_on in
          let off : is_shown_at (first + length rows) row ≡ false =
          subst (λ (n : ℕ). is_shown_at n row ≡ false) turn.1 (shown_elsewhere row version old.next is (λ same. let yes : takes ≡ true = decides.1 (goes_on, same) in let no : true ≡ false = sym yes ∙ refused in absurd cc)) in
          stopped first rows row new ended items (λ more. items_stop first rows more row turn.0 off)
    ]

pub taken_more : (old new : Entries) (row : Row) (version : ℤ) (entry : StoredEntry) → new.entries.items ≡ old.entries.items ++ entry ∷ [] → new.next ≡ old.next + 1 → new.has_ended ≡ old.has_ended → old.has_ended ≡ false → version ≡ pos old.next
    → column row 3 ≡ Int version → item_of entry ≡ item_read row → (first : ℕ) (rows : List Row) → AreTaken first old rows → AreTaken first new (rows ++ row ∷ [])
taken_more old new row version entry entries next same goes_on place is item first rows taken =
    let turn = taken.in_turn goes_on in
    let here : is_shown_at (first + length rows) row ≡ true = subst (λ (n : ℕ). is_shown_at n row ≡ true) turn.1 (shown_here row version old.next is place) in
    record {
      items = ap items_of entries ∙ map-append item_of old.entries.items (entry ∷ []) ∙ (λ i. taken.items i ++ item i ∷ []) ∙ sym (items_push first rows row turn.0 here);
      in_turn = λ _. (turn_push first rows row turn.0 here, let n = turn.1 in let m = length-append rows (row ∷ []) in omega (arith, next, n, m));
      ended = λ ended. let no : true ≡ false = sym ended ∙ same ∙ goes_on in absurd cc;
    }
