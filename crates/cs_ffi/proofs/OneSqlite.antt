-- Writing for SQLite has one answer, up to want of memory.
use Rattle.std.proofs.Common.{◌≡◌, inl, inr, ℕ, List, refl, sym, ap, subst, ◌∙◌}
use Rattle.cs_value.specs.declared.catalog.TableDef.{TableDef}
use Rattle.cs_change.specs.declared.group.Group.{Group}
use Rattle.cs_changeset.specs.Laws.{ChangesetLaws}
use Rattle.cs_normalising.specs.Laws.{NoFaultWhereFit}
use Rattle.cs_normalising.specs.NormalFormOf.{IsNormalFormOf}
use Rattle.cs_normal.specs.declared.normal.TableChanges.{TableChanges}
use Rattle.cs_column_bytes.specs.KeyPlaces.{heads_of, sqlite_spelling, HaveOneOrder}
use Rattle.cs_column_bytes.specs.Laws.{OneOrderOrTwo}
use Rattle.cs_ffi.specs.Answers.{no_memory, UpToMemory}
use Rattle.cs_ffi.specs.NormalAnswers.{Declare, DeclareNone, IsFitInput, IsFormRefusal}
use Rattle.cs_ffi.specs.SqliteAnswers.{AnswersForSqlite, CanSpellForSqlite, DeclareInOrder, DeclareTwoOrders, IsSqliteRefusal, SpellForSqlite}
use Rattle.cs_ffi.specs.Laws.{AnswerLaws, OneSqliteAnswer}
use Rattle.cs_ffi.specs.declared.answer.Answer.{Answer}
use Rattle.cs_ffi.proofs.OneAnswer.{are_tables, Below, by_each, no_form_refusal, one_declared, one_form_refusal, one_hand, one_spelled, Same, same, some_declared, without_content}

-- the headers of what declares tables are those of one changeset
same_headers : ChangesetLaws → (declared : List ℕ) (some others : List TableDef) (s : Declare declared some) (o : Declare declared others) → s.groups ≡ o.groups
same_headers laws declared some others s o = one_spelled laws declared s.groups o.groups s.spells o.spells

one_for_sqlite : Below → (declared input bytes more : List ℕ) → SpellForSqlite declared input bytes → SpellForSqlite declared input more → bytes ≡ more
one_for_sqlite laws declared input bytes more s o =
    let tables = one_declared laws.changesets declared s.tables o.tables s.declares.declares o.declares.declares in
    let groups = one_spelled laws.changesets input s.groups o.groups s.spells o.spells in
    let form = subst (λ (g : List Group). IsNormalFormOf o.tables g s.normal) groups (subst (λ (t : List TableDef). IsNormalFormOf t s.groups s.normal) tables s.form) in
    let normal = laws.form o.tables o.groups s.normal o.normal (are_tables declared o.tables o.declares.declares) form o.form in
    let heads = same_headers laws.changesets declared s.tables o.tables s.declares.declares o.declares.declares in
    by_each s.spelled o.spelled
    (ap (λ (n : List TableChanges). sqlite_spelling (heads_of s.declares.declares.groups) n) normal
    ∙ ap (λ (g : List Group). sqlite_spelling (heads_of g) o.normal) heads)

-- headers that have one order have no two
in_order : ChangesetLaws → OneOrderOrTwo → (declared : List ℕ) (tables : List TableDef) → DeclareInOrder declared tables → DeclareTwoOrders declared → ⊥
in_order laws law declared tables s two =
    let one = subst (λ (g : List Group). HaveOneOrder (heads_of g)) (one_spelled laws declared s.declares.groups two.groups s.declares.spells two.spells) s.order in
    law (heads_of two.groups) one two.orders

-- what declares tables in two orders declares tables
declared_twice : ChangesetLaws → (declared : List ℕ) → DeclareTwoOrders declared → DeclareNone declared → ⊥
declared_twice laws declared two none =
    some_declared laws declared _ (record { groups = two.groups; spells = two.spells; catalog = two.catalog; are = refl }) none

pub no_sqlite_refusal : ChangesetLaws → NoFaultWhereFit → OneOrderOrTwo → (declared input : List ℕ) (answer : Answer) → CanSpellForSqlite declared input → IsSqliteRefusal declared input answer → answer ≡ no_memory
no_sqlite_refusal laws law orders declared input answer can (inl m) = m
no_sqlite_refusal laws law orders declared input answer can (inr (inl (is, none))) =
    absurd (some_declared laws declared can.fit.tables can.fit.declares none)
no_sqlite_refusal laws law orders declared input answer can (inr (inr (inl (is, two)))) =
    absurd (in_order laws orders declared can.fit.tables (record { declares = can.fit.declares; order = can.order }) two)
no_sqlite_refusal laws law orders declared input answer can (inr (inr (inr (tables, declares, r)))) =
    no_form_refusal laws law can.fit.tables input can.fit.groups answer (are_tables declared can.fit.tables can.fit.declares) can.fit.spells can.fit.fit
    (subst (λ (t : List TableDef). IsFormRefusal t input answer) (one_declared laws declared tables can.fit.tables declares.declares can.fit.declares) r)

-- what is spelled can be
can : (declared input bytes : List ℕ) → SpellForSqlite declared input bytes → CanSpellForSqlite declared input
can declared input bytes s =
    let fit : IsFitInput declared input =
    record {
      tables = s.tables;
      groups = s.groups;
      declares = s.declares.declares;
      spells = s.spells;
      fit = s.form.fit;
    } in
    record { fit = fit; order = s.declares.order }

one_sqlite_refusal : Below → OneOrderOrTwo → (declared input : List ℕ) (one other : Answer) → IsSqliteRefusal declared input one → IsSqliteRefusal declared input other → Same one other
one_sqlite_refusal laws law declared input one other (inl m) r = inl m
one_sqlite_refusal laws law declared input one other (inr s) (inl m) = inr (inl m)
one_sqlite_refusal laws law declared input one other (inr (inl (a, none))) (inr (inl (b, none'))) = same (a ∙ sym b)
one_sqlite_refusal laws law declared input one other (inr (inl (a, none))) (inr (inr (inl (b, two)))) =
    absurd (declared_twice laws.changesets declared two none)
one_sqlite_refusal laws law declared input one other (inr (inl (a, none))) (inr (inr (inr (tables, s, r)))) =
    absurd (some_declared laws.changesets declared tables s.declares none)
one_sqlite_refusal laws law declared input one other (inr (inr (inl (a, two)))) (inr (inl (b, none))) =
    absurd (declared_twice laws.changesets declared two none)
one_sqlite_refusal laws law declared input one other (inr (inr (inl (a, two)))) (inr (inr (inl (b, two')))) = same (a ∙ sym b)
one_sqlite_refusal laws law declared input one other (inr (inr (inl (a, two)))) (inr (inr (inr (tables, s, r)))) =
    absurd (in_order laws.changesets law declared tables s two)
one_sqlite_refusal laws law declared input one other (inr (inr (inr (tables, s, r)))) (inr (inl (b, none))) =
    absurd (some_declared laws.changesets declared tables s.declares none)
one_sqlite_refusal laws law declared input one other (inr (inr (inr (tables, s, r)))) (inr (inr (inl (b, two)))) =
    absurd (in_order laws.changesets law declared tables s two)
one_sqlite_refusal laws law declared input one other (inr (inr (inr (some, s, r)))) (inr (inr (inr (others, o, r')))) =
    one_form_refusal laws others input one other (are_tables declared others o.declares)
    (subst (λ (t : List TableDef). IsFormRefusal t input one) (one_declared laws.changesets declared some others s.declares o.declares) r) r'

pub one_sqlite_answer : Below → OneOrderOrTwo → OneSqliteAnswer
one_sqlite_answer laws law declared input =
    one_hand (SpellForSqlite declared input) (IsSqliteRefusal declared input) (one_for_sqlite laws declared input)
    (λ bytes answer s r. no_sqlite_refusal laws.changesets laws.fit law declared input answer (can declared input bytes s) r)
    (one_sqlite_refusal laws law declared input)

-- what is owed is told
pub sqlite_told : AnswerLaws → (declared input before after : List ℕ) (result answer : Answer) → AnswersForSqlite declared input before after result → IsSqliteRefusal declared input answer → UpToMemory result answer (result ≡ answer)
sqlite_told laws declared input before after result answer answers owed =
    without_content (laws.for_sqlite declared input before after before result answer answers (inr (owed, refl)))
