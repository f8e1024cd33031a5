-- A row among rows, and a table among tables.
use Rattle.std.proofs.Common.{◌≡◌, ◌≢◌, ◌<◌, ◌∙◌, ◌||◌, ℕ, zero, suc, Bool, true, false, List, [], ◌∷◌, cond, refl, sym, ap, subst, length, arith}
use Rattle.std.specs.Prelude.{All, HoldsAt, Some}
use Rattle.std.specs.FinMap.{find}
use Rattle.std.specs.Str.{bytes_eq}
use Rattle.std.proofs.lemmas.List.Elements.{All-head, All-tail}
use Rattle.cs_order.specs.Order.{by_bytes, same_bytes}
use Rattle.cs_pending.specs.Spots.{key_is, key_refl, name_other, name_refl}
use Rattle.cs_value.specs.Facts.{by_test}
use Rattle.cs_value.specs.declared.catalog.TableDef.{TableDef}
use Rattle.cs_value.specs.declared.value.Value.{Value}
use Rattle.cs_node_lines.specs.following.FollowStep.{behind_key, has_table}

abbrev pub Rows : Type 0
Rows = List (List ℕ × List Value)

pub found_here : (key : List ℕ) (row : List ℕ × List Value) (more : List (List ℕ × List Value)) → row.0 ≡ key → row ∷ [] ≡ behind_key key (find by_bytes key (row ∷ more))
found_here key row more is =
    let test : same_bytes key row.0 ≡ true = subst (λ (k : List ℕ). same_bytes key k ≡ true) (sym is) (key_refl key) in
    ap (λ (k : List ℕ). (k, row.1) ∷ []) is ∙ sym (ap (λ (b : Bool). behind_key key (cond b (Some row.1) (find by_bytes key more))) test)

pub found_further : (key : List ℕ) (row : List ℕ × List Value) (more : List (List ℕ × List Value)) → (row.0 ≡ key → ⊥) → find by_bytes key (row ∷ more) ≡ find by_bytes key more
found_further key row more apart =
    by_test (same_bytes key row.0) _
    (λ t. absurd (apart (sym (key_is key row.0 t))))
    (λ t. ap (λ (b : Bool). cond b (Some row.1) (find by_bytes key more)) t)

pub has_none : (tables : List TableDef) (name : List ℕ) → All (λ (t : TableDef). t.name ≢ name) tables → has_table tables name ≡ false
has_none [] name none = refl
has_none (table ∷ tables) name none =
    ap (λ (b : Bool). b || has_table tables name) (name_other table.name name (All-head (λ (t : TableDef). t.name ≢ name) table tables none))
    ∙ has_none tables name (All-tail (λ (t : TableDef). t.name ≢ name) table tables none)

or_true : (b : Bool) → b || true ≡ true
or_true true = refl
or_true false = refl

pub has_one : (tables : List TableDef) (name : List ℕ) (place : ℕ) → place < length tables → HoldsAt (λ (t : TableDef). t.name ≡ name) tables place → has_table tables name ≡ true
has_one [] name place less holds = absurd (omega (arith, less))
has_one (table ∷ tables) name zero less holds =
    let test = subst (λ (n : List ℕ). bytes_eq n name ≡ true) (sym (holds table)) (name_refl name) in
    ap (λ (b : Bool). b || has_table tables name) test
has_one (table ∷ tables) name (suc place) less holds =
    ap (λ (b : Bool). bytes_eq table.name name || b) (has_one tables name place (omega (arith, less)) holds) ∙ or_true (bytes_eq table.name name)
