-- Rows of tables, one table after another.
use Rattle.std.proofs.Common.{◌≡◌, ◌∙◌, ◌<◌, ◌+◌, ℕ, zero, suc, List, [], ◌∷◌, ◌++◌, get_or, refl, sym, ap, append_assoc, append-nil, subst, drop, length, arith}
use Rattle.std.specs.Prelude.{Some, slice_get}
use Rattle.cs_replica.specs.Step.{AreRowsIn, Member, Turns, member_of}
use Rattle.cs_normal.specs.State.{State}
use Rattle.cs_pending.specs.View.{View}
use Rattle.cs_replica.specs.Holding.{Holding, Shows}
use Rattle.cs_store.specs.declared.store.RowStore.{Ghosts}
use Rattle.cs_value.specs.Catalog.{AreTables}
use Rattle.cs_value.specs.declared.catalog.TableDef.{TableDef}
use Rattle.cs_value.specs.declared.value.Value.{Value}
use Rattle.cs_node_lines.specs.working.Steps.{PutsTable}
use Rattle.cs_node_lines.specs.told.Dump.{AreRowLines, PutsRows, rows_text}

drop_suc : {A : Type 0} (xs : List A) (at : ℕ) (x : A) → slice_get xs at ≡ Some x → drop at xs ≡ x ∷ drop (suc at) xs
drop_suc [] at x there = absurd (cc)
drop_suc (y ∷ ys) zero x there = let is : y ≡ x = cc in ap (λ z. z ∷ ys) is
drop_suc (y ∷ ys) (suc at) x there = drop_suc ys at x there

pub drop_next : {A : Type 0} (xs : List A) (at : ℕ) (x : A) → slice_get xs at ≡ Some x → drop at xs ≡ x ∷ drop (at + 1) xs
drop_next xs at x there = let next : at + 1 ≡ suc at = omega arith in rw next (drop_suc xs at x there)

pub get_is : {A : Type 0} (xs : List A) (at : ℕ) (x d : A) → at < length xs → x ≡ get_or xs at d → slice_get xs at ≡ Some x
get_is [] at x d less is = absurd (omega (arith, less))
get_is (y ∷ ys) zero x d less is = ap Some (sym is)
get_is (y ∷ ys) (suc at) x d less is = get_is ys at x d (omega (arith, less)) is

pub drop_all : {A : Type 0} (xs : List A) → drop (length xs) xs ≡ []
drop_all [] = refl
drop_all (x ∷ xs) = drop_all xs

module _ {S : Type 0} (g : Ghosts S) where
  -- a table's lines were put behind a text
  pub put_one : (old new : Holding S) (table : ℕ) (def : TableDef) (rows : List (List ℕ × List Value)) (start now : List ℕ)
      → slice_get old.catalog table ≡ Some def → Turns g (λ before after. after ≡ before) old new
      → (g.honest new.store → (view : View) → Shows g.contents old view → AreRowsIn old.catalog view.tables table rows) → now ≡ start ++ rows_text def.name rows
      → Turns g (λ (before : Member) (after : Member). (after ≡ before) × PutsTable old.catalog table before.view.tables start now) old new
  put_one old new table def rows start now there kept listed is = record {
    was_honest = kept.was_honest;
    turned = λ h are fits view shows.
        let k = kept.turned h are fits view shows in
        (k.0, k.1, k.2, (k.3, (def, rows, there, (listed h view shows).there def there, is)));
  }

  -- where the lines of the tables from one on stand behind what was put, those of all stand behind the start
  abbrev pub PutsRest : List TableDef → ℕ → State → List ℕ → List ℕ → Type 0
  PutsRest tables table state start now =
      (rest : List ℕ) → AreRowLines (drop table tables) state rest → (lines : List ℕ) × AreRowLines tables state lines × (start ++ lines ≡ now ++ rest)

  abbrev pub IsDumping : ℕ → List ℕ → List ℕ → Holding S → Holding S → Type 0
  IsDumping table start now old held =
      Turns g (λ (before : Member) (after : Member). (after ≡ before) × PutsRest old.catalog table before.view.tables start now) old held

  pub dumping_on : (table : ℕ) (start now next : List ℕ) (old mid new : Holding S) → mid.catalog ≡ old.catalog → IsDumping table start now old mid
      → Turns g (λ (before : Member) (after : Member). (after ≡ before) × PutsTable mid.catalog table before.view.tables now next) mid new
      → IsDumping (table + 1) start next old new
  dumping_on table start now next old mid new same some one = record {
    was_honest = λ h. some.was_honest (one.was_honest h);
    turned = λ h are fits view shows.
        let s = some.turned (one.was_honest h) are fits view shows in
        let o = one.turned h (subst AreTables (sym same) are) s.2 s.0 s.1 in
        let put : PutsTable mid.catalog table view.tables now next = subst (λ (m : Member). PutsTable mid.catalog table m.view.tables now next) s.3.0 o.3.1 in
        let puts : PutsTable old.catalog table view.tables now next = subst (λ (ts : List TableDef). PutsTable ts table view.tables now next) same put in (
          o.0,
          o.1,
          o.2,
          (
            o.3.0 ∙ s.3.0,
            λ rest lines.
                let text = rows_text puts.0.name puts.1 ++ rest in
                let whole : AreRowLines (drop table old.catalog) view.tables text = subst (λ (ts : List TableDef). AreRowLines ts view.tables text) (sym (drop_next old.catalog table puts.0 puts.2)) (puts.1, rest, puts.3, lines, refl) in
                let all = s.3.1 text whole in
                (all.0, all.1, all.2 ∙ sym (append_assoc now (rows_text puts.0.name puts.1) rest) ∙ ap (λ l. l ++ rest) (sym puts.4)),
          ),
        );
  }

  -- none are left
  pub dumping_last : (table : ℕ) (start now : List ℕ) (old new : Holding S) → drop table old.catalog ≡ [] → IsDumping table start now old new
      → Turns g (λ (before : Member) (after : Member). (after ≡ before) × PutsRows before.tables before.view.tables start now) old new
  dumping_last table start now old new none some = record {
    was_honest = some.was_honest;
    turned = λ h are fits view shows.
        let s = some.turned h are fits view shows in
        let all = s.3.1 [] (subst (λ (ts : List TableDef). AreRowLines ts view.tables []) (sym none) refl) in
        (s.0, s.1, s.2, (s.3.0, (all.0, all.1, sym (all.2 ∙ append-nil now))));
  }

  -- nothing more is known where it ended early
  pub dumping_failed : (table : ℕ) (start now : List ℕ) (P Q : Member → Type 0) (old mid new : Holding S) → mid.catalog ≡ old.catalog → IsDumping table start now old mid
      → Turns g (λ (before : Member) (after : Member). (after ≡ before) × P before) mid new → ((m : Member) → Q m)
      → Turns g (λ (before : Member) (after : Member). (after ≡ before) × Q before) old new
  dumping_failed table start now P Q old mid new same some one any = record {
    was_honest = λ h. some.was_honest (one.was_honest h);
    turned = λ h are fits view shows.
        let s = some.turned (one.was_honest h) are fits view shows in
        let o = one.turned h (subst AreTables (sym same) are) s.2 s.0 s.1 in
        (o.0, o.1, o.2, (o.3.0 ∙ s.3.0, any (member_of old view)));
  }
