-- Edits, column by column.
use Rattle.std.proofs.Common.{◌≡◌, ◌≢◌, ℕ, zero, suc, ◌<◌, Bool, true, false, cond, All, List, [], ◌∷◌, ◌++◌, length, get_or, refl, sym, ap, ap₂, ◌∙◌, arith, append_assoc, append-nil}
use Rattle.std.specs.Prelude.{Option, Some, None, option_map}
use Rattle.std.specs.List.{HoldsAt}
use Rattle.std.specs.Str.{bytes_eq}
use Rattle.std.proofs.lemmas.List.Elements.{All-head, All-tail}
use Rattle.std.proofs.lemmas.Slice.Eq.{bytes_eq-Decides}
use Rattle.cs_value.specs.declared.catalog.TableDef.{TableDef}
use Rattle.cs_value.specs.declared.value.Value.{Value}
use Rattle.cs_value.specs.declared.value.Field.{Field}
use Rattle.cs_value.specs.declared.value.Field.TheVariants.{Undefined}
use Rattle.cs_text.specs.parse.Edits.{PutsColumn, column_in, column_onto, columns_in, marks_of}
use Rattle.cs_text.specs.parse.Values.{field_in, value_in}

-- the marks of the one table with the name
pub marks_found : (tables : List TableDef) (name : List ℕ) (place : ℕ) (table : TableDef) → place < length tables → table ≡ get_or tables place table
    → HoldsAt (λ t. t.name ≡ name) tables place
    → ((p : ℕ) → p < length tables → HoldsAt (λ t. t.name ≡ name) tables p → Some place ≡ Some p)
    → table.key_marks ≡ marks_of tables name
marks_found [] name place table lt is holds only = absurd (omega arith)
marks_found (t ∷ ts) name zero table lt is holds only =
    ap (λ d. d.key_marks) is ∙ sym (ap (λ b. cond b t.key_marks (marks_of ts name)) ((bytes_eq-Decides t.name name).1 (holds t)))
marks_found (t ∷ ts) name (suc place) table lt is holds only =
    elim (bytes_eq t.name name) as (λ b. bytes_eq t.name name ≡ b → table.key_marks ≡ cond b t.key_marks (marks_of ts name)) [
      | true ↦ λ e.
          let same : t.name ≡ name = (bytes_eq-Decides t.name name).0 e in
          let clash : Some (suc place) ≡ Some 0 = only 0 (omega arith) (λ d. same) in
          let numbers : suc place ≡ 0 = cc in absurd (omega arith)
      | false ↦ λ e. marks_found ts name place table (omega arith) is holds
          (λ p less h. let up : Some (suc place) ≡ Some (suc p) = only (suc p) (omega arith) h in
          let down : suc place ≡ suc p = cc in let same : place ≡ p = omega arith in ap Some same)
    ] refl

pub marks_none : (tables : List TableDef) (name : List ℕ) → All (λ t. t.name ≢ name) tables → [] ≡ marks_of tables name
marks_none [] name none = refl
marks_none (t ∷ ts) name none =
    elim (bytes_eq t.name name) as (λ b. bytes_eq t.name name ≡ b → [] ≡ cond b t.key_marks (marks_of ts name)) [
      | true ↦ λ e. absurd (All-head (λ d. d.name ≢ name) t ts none ((bytes_eq-Decides t.name name).0 e))
      | false ↦ λ e. marks_none ts name (All-tail (λ d. d.name ≢ name) t ts none)
    ] refl

pub puts_key : (mark : Bool) (word : List ℕ) (value : Value) (key new_key : List Value) (fields new_fields : List Field)
    → mark ≡ true → Some value ≡ value_in word → new_key ≡ key ++ value ∷ [] → new_fields ≡ fields ++ Undefined ∷ []
    → PutsColumn true (column_in mark word) key new_key fields new_fields
puts_key mark word value key new_key fields new_fields is spells put filled = (
  (value ∷ [], Undefined),
  ap (λ m. column_in m word) is ∙ ap (option_map (λ v. (v ∷ [], Undefined))) (sym spells),
  put,
  filled,
)

pub puts_field : (mark : Bool) (word : List ℕ) (field : Field) (key : List Value) (fields new_fields : List Field)
    → mark ≡ false → Some field ≡ field_in word → new_fields ≡ fields ++ field ∷ []
    → PutsColumn true (column_in mark word) key key fields new_fields
puts_field mark word field key fields new_fields is spells filled =
    (([], field), ap (λ m. column_in m word) is ∙ ap (option_map (λ f. ([], f))) (sym spells), sym (append-nil key), filled)

abbrev Behind : List Value → List Field → Option (List Value × List Field) → Option (List Value × List Field)
Behind key fields more = option_map {U = List Value × List Field} (λ m. (key ++ m.0, fields ++ m.1)) more

behind_more : (key new_key : List Value) (fields new_fields : List Field) (one : List Value × Field) (more : Option (List Value × List Field))
    → new_key ≡ key ++ one.0 → new_fields ≡ fields ++ one.1 ∷ []
    → Behind key fields (column_onto (Some one) more) ≡ Behind new_key new_fields more
behind_more key new_key fields new_fields one None e f = refl
behind_more key new_key fields new_fields one (Some m) e f =
    let left : key ++ (one.0 ++ m.0) ≡ new_key ++ m.0 = sym (append_assoc key one.0 m.0) ∙ ap (λ k. k ++ m.0) (sym e) in
    let right : fields ++ one.1 ∷ m.1 ≡ new_fields ++ m.1 = sym (append_assoc fields (one.1 ∷ []) m.1) ∙ ap (λ k. k ++ m.1) (sym f) in
    let make : List Value → List Field → Option (List Value × List Field) = λ k g. Some (k, g) in
    ap₂ make left right

-- one more column
pub columns_more : (whole : Option (List Value × List Field)) (marks more : List Bool) (mark : Bool) (words rest : List (List ℕ)) (word : List ℕ)
    (key new_key : List Value) (fields new_fields : List Field)
    → whole ≡ Behind key fields (columns_in marks words) → words ≡ word ∷ rest
    → ((w : List ℕ) (ws : List (List ℕ)) → columns_in marks (w ∷ ws) ≡ column_onto (column_in mark w) (columns_in more ws))
    → PutsColumn true (column_in mark word) key new_key fields new_fields
    → whole ≡ Behind new_key new_fields (columns_in more rest)
columns_more whole marks more mark words rest word key new_key fields new_fields e next split puts =
    e ∙ ap (λ w. Behind key fields (columns_in marks w)) next ∙ ap (Behind key fields) (split word rest)
    ∙ ap (λ c. Behind key fields (column_onto c (columns_in more rest))) puts.1
    ∙ behind_more key new_key fields new_fields puts.0 (columns_in more rest) puts.2 puts.3

pub columns_none : (whole : Option (List Value × List Field)) (marks more : List Bool) (mark : Bool) (words rest : List (List ℕ)) (word : List ℕ)
    (key : List Value) (fields : List Field)
    → whole ≡ Behind key fields (columns_in marks words) → words ≡ word ∷ rest
    → ((w : List ℕ) (ws : List (List ℕ)) → columns_in marks (w ∷ ws) ≡ column_onto (column_in mark w) (columns_in more ws))
    → column_in mark word ≡ None → None ≡ whole
columns_none whole marks more mark words rest word key fields e next split none =
    sym (e ∙ ap (λ w. Behind key fields (columns_in marks w)) next ∙ ap (Behind key fields) (split word rest)
    ∙ ap (λ c. Behind key fields (column_onto c (columns_in more rest))) none)
