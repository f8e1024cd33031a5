-- Marks, digit by digit, and the last colon.
use Rattle.std.proofs.Common.{◌≡◌, ◌≢◌, ℕ, zero, suc, ◌+◌, ◌<◌, Bool, true, false, List, [], ◌∷◌, ◌++◌, All, length, map, take, get_or, refl, sym, ap, ◌∙◌, arith, subst, ap₂, ◌-◌}
use Rattle.std.specs.Prelude.{Some, None}
use Rattle.std.proofs.lemmas.List.Elements.{All-head, All-tail}
use Rattle.cs_value.specs.declared.catalog.TableDef.{TableDef}
use Rattle.std.proofs.lemmas.List.{take_more, map-append}
use Rattle.cs_text.specs.parse.Texts.{text_in}
use Rattle.cs_command.specs.TableWord.{mark_digit, SpellsTable}

pub marks_more : (marks : List Bool) (mark : Bool) (digits : List ℕ) (i digit : ℕ) → i < length digits → digit ≡ get_or digits i 0
    → mark_digit mark ≡ digit → map mark_digit marks ≡ take i digits → map mark_digit (marks ++ mark ∷ []) ≡ take (i + 1) digits
marks_more marks mark digits i digit lt is spells so_far =
    map-append mark_digit marks (mark ∷ []) ∙ ap (λ l. l ++ mark_digit mark ∷ []) so_far
    ∙ ap (λ d. take i digits ++ d ∷ []) (spells ∙ is) ∙ sym (take_more digits i 0 lt)

-- each digit of spelled marks is one
mark_at : (marks : List Bool) (i d : ℕ) → i < length (map mark_digit marks) → (mark : Bool) × (mark_digit mark ≡ get_or (map mark_digit marks) i d)
mark_at [] i d lt = absurd (omega arith)
mark_at (mark ∷ marks) zero d lt = (mark, refl)
mark_at (mark ∷ marks) (suc i) d lt = mark_at marks i d (omega arith)

pub no_marks : (digits : List ℕ) (i digit : ℕ) → i < length digits → digit ≡ get_or digits i 0
    → ((mark : Bool) → mark_digit mark ≢ digit) → (marks : List Bool) → map mark_digit marks ≢ digits
no_marks digits i digit lt is none = λ marks e.
    let found = mark_at marks i 0 (rw e lt) in none found.0 (found.1 ∙ ap (λ l. get_or l i 0) e ∙ sym is)

same_mark : (m n : Bool) → mark_digit m ≡ mark_digit n → m ≡ n
same_mark true true e = refl
same_mark false false e = refl
same_mark true false e = absurd (omega arith)
same_mark false true e = absurd (omega arith)

same_marks : (ms ns : List Bool) → map mark_digit ms ≡ map mark_digit ns → ms ≡ ns
same_marks [] [] e = refl
same_marks [] (n ∷ ns) e = absurd (cc)
same_marks (m ∷ ms) [] e = absurd (cc)
same_marks (m ∷ ms) (n ∷ ns) e =
    let here : mark_digit m ≡ mark_digit n = cc in
    let rest : map mark_digit ms ≡ map mark_digit ns = cc in
    ap₂ (λ b bs. b ∷ bs) (same_mark m n here) (same_marks ms ns rest)

abbrev NoColon : List ℕ → Type 0
NoColon = All (λ byte. byte ≢ 58)

mark_is_no_colon : (m : Bool) → mark_digit m ≢ 58
mark_is_no_colon true = λ e. omega arith
mark_is_no_colon false = λ e. omega arith

marks_have_no_colon : (marks : List Bool) → NoColon (map mark_digit marks)
marks_have_no_colon marks = λ k d lt h.
    let found = mark_at marks k d lt in mark_is_no_colon found.0 (found.1 ∙ h)

has_colon : (front back : List ℕ) → NoColon (front ++ 58 ∷ back) → ⊥
has_colon [] back none = All-head (λ byte. byte ≢ 58) 58 back none refl
has_colon (x ∷ front) back none = has_colon front back (All-tail (λ byte. byte ≢ 58) x (front ++ 58 ∷ back) none)

-- there is one last colon
last_colon : (a b c d : List ℕ) → a ++ 58 ∷ b ≡ c ++ 58 ∷ d → NoColon b → NoColon d → (a ≡ c) × (b ≡ d)
last_colon [] b [] d e nb nd = (refl, cc)
last_colon [] b (y ∷ c) d e nb nd =
    let rest : b ≡ c ++ 58 ∷ d = cc in absurd (has_colon c d (subst NoColon rest nb))
last_colon (x ∷ a) b [] d e nb nd =
    let rest : d ≡ a ++ 58 ∷ b = cc in absurd (has_colon a b (subst NoColon rest nd))
last_colon (x ∷ a) b (y ∷ c) d e nb nd =
    let first : x ≡ y = cc in
    let rest : a ++ 58 ∷ b ≡ c ++ 58 ∷ d = cc in
    let same = last_colon a b c d rest nb nd in (ap₂ (λ z zs. z ∷ zs) first same.0, same.1)

pub no_table_without_colon : (word : List ℕ) → NoColon word → (table : TableDef) → SpellsTable word table → ⊥
no_table_without_colon word none = λ table spells.
    has_colon spells.text (map mark_digit table.key_marks) (subst NoColon spells.split none)

parts_are : (word text digits : List ℕ) → word ≡ text ++ 58 ∷ digits → NoColon digits
    → (table : TableDef) (spells : SpellsTable word table) → (text ≡ spells.text) × (digits ≡ map mark_digit table.key_marks)
parts_are word text digits cut none table spells =
    last_colon text digits spells.text (map mark_digit table.key_marks) (sym cut ∙ spells.split) none (marks_have_no_colon table.key_marks)

pub no_table_without_marks : (word text digits : List ℕ) → word ≡ text ++ 58 ∷ digits → NoColon digits
    → ((marks : List Bool) → map mark_digit marks ≢ digits) → (table : TableDef) → SpellsTable word table → ⊥
no_table_without_marks word text digits cut none other = λ table spells.
    other table.key_marks (sym (parts_are word text digits cut none table spells).1)

pub no_table_without_name : (word text digits : List ℕ) → word ≡ text ++ 58 ∷ digits → NoColon digits
    → text_in text ≡ None → (table : TableDef) → SpellsTable word table → ⊥
no_table_without_name word text digits cut none other = λ table spells.
    let same : text_in text ≡ text_in spells.text = ap text_in (parts_are word text digits cut none table spells).0 in
    let clash : None ≡ Some table.name = sym other ∙ same ∙ spells.named in absurd (cc)

-- a word spells one table
pub spelled_once : (word : List ℕ) (one other : TableDef) → SpellsTable word one → SpellsTable word other → one ≡ other
spelled_once word one other first second =
    let parts = parts_are word first.text (map mark_digit one.key_marks) first.split (marks_have_no_colon one.key_marks) other second in
    let both : Some one.name ≡ Some other.name = sym first.named ∙ ap text_in parts.0 ∙ second.named in
    let name : one.name ≡ other.name = cc in
    let make : List ℕ → List Bool → TableDef = λ n m. record { name = n; key_marks = m } in
    ap₂ make name (same_marks one.key_marks other.key_marks parts.1)
