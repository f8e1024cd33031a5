-- Nothing but the engine's own faults stands in the way of the CREATE statements.
use Rattle.std.specs.Prelude.{IsUtf8, IfErr}
use Rattle.std.proofs.Common.{◌≡◌, inl, inr, ℕ, ◌+◌, ◌*◌, ◌^◌, ◌<◌, ◌≤◌, Bool, List, [], length, codes, true, false, IsTrue, None, Some, Option, Ok, Err, Result, refl, sym, ap, subst, ◌∙◌, arith}
use Rattle.std.specs.Fmt.{digits}
use Rattle.std.specs.List.{AllByRecursion}
use Rattle.std.proofs.lemmas.Bool.{cases_Bool}
use Rattle.sqlite_value.specs.declared.value.Value.TheVariants.{Text}
use Rattle.sqlite_value.specs.Order.{Row}
use Rattle.sqlite_rules.specs.Lists.{Has}
use Rattle.sqlite_rules.proofs.ListLemmas.{all_has}
use Rattle.sqlite_catalog.specs.Calls.{RefusesTable}
use Rattle.sqlite_catalog.specs.Change.{automatics, created, is_reserved, is_used, next_tree}
use Rattle.sqlite_catalog.specs.Listing.{is_fit, is_formed}
use Rattle.sqlite_catalog.specs.declared.error.Refusal.{Refusal}
use Rattle.sqlite_catalog.specs.declared.error.Refusal.TheVariants.{Invalid, NameTaken, BadName, TooBig, BadKey, BadText, Violates}
use Rattle.sqlite_resolve.specs.declared.compiled.Compiled.{Compiled}
use Rattle.sqlite_schema.specs.Rules.{index_reals, table_reals}
use Rattle.sqlite_schema.specs.Names as names
use Rattle.sqlite_trees.specs.Sound as sound
use Rattle.sqlite_trees.specs.Sound.{begins, fits_kind, is_free_name}
use Rattle.sqlite_value.specs.Order.{value_cmp}
use Rattle.sqlite.specs.declared.error.Error.{Error}
use Rattle.sqlite.specs.declared.run.Mode.{Mode}
use Rattle.sqlite.specs.Table.{Table}
use Rattle.sqlite.specs.Schema.{Schema}
use Rattle.sqlite.specs.Clock.{timed}
use Rattle.sqlite.specs.Compile.{table_defined_by}
use Rattle.sqlite.specs.Command.TheVariants.{CreateTable}
use Rattle.sqlite.specs.Does.{Does, MakesTable, lacks_sequence}
use Rattle.sqlite.specs.Effect.{Database}
use Rattle.sqlite.specs.Listing.{understood}
use Rattle.sqlite.specs.State.{State, ExecutesIn, ExecutesInside, EndsScope, Escapes, IsMisplaced, RunsAlone, mode_of, shows_rows, text_of}
use Rattle.sqlite.proofs.Callers.{IsPlain, command_of, statement_of}
use Rattle.sqlite_tied.specs.Compute.{everything}
use Rattle.cs_sql.specs.Causes.{IsCaused, IsOne}
use Rattle.cs_sql.specs.declared.parts.Part.{Part}
use Rattle.cs_sql.specs.declared.parts.Part.TheVariants.{Rows, Pending, Meta, Log}
use Rattle.cs_sql.specs.schema.Making.{create_text, schema_before, IsAmong}
use Rattle.cs_sql.proofs.CauseLemmas.{fails_caused, unrun_caused}
use Rattle.cs_sql.proofs.SchemaLemmas.Laying.{leads, made_table, makes, same_value, whole}

-- what a schema and the texts of a table have to be like
pub record CanMake (schema : Schema) (text : List ℕ) (table : Table) : Type 0 where
  pub utf8 : IsUtf8 text
  pub named : IsUtf8 table.name
  pub free : is_used schema table.name ≡ false
  pub apart : AllByRecursion (λ i. is_used schema i.name ≡ false) (automatics table 0 0 table.uniques)
  pub own : is_reserved table.name ≡ false
  pub trees : ℕ
  pub trees_are : next_tree schema + length table.uniques ≡ trees
  pub few : trees < 65536
  pub reals : table_reals table ≡ 0
  pub key_reals : AllByRecursion (λ key. index_reals (table_reals table) key ≡ 0) table.uniques
  pub formed : is_formed table ≡ true
  pub fit : is_fit (Text (codes "table")) (Text table.name) (Text table.name) (Text text) ≡ true
  pub size : ℕ
  pub size_is : 2 * length table.name + length text + 200 ≡ size
  pub short : size < 10 ^ 9

module _ (schema : Schema) (text : List ℕ) (table : Table) (defined : table_defined_by text ≡ Ok table) (can : CanMake schema text table) where
  same_table : (made : Table) → table_defined_by text ≡ Ok made → made ≡ table
  same_table made is = same_value (sym is ∙ defined)

  never : {b : Bool} → b ≡ true → b ≡ false → ⊥
  never is is_not = let e : true ≡ false = sym is ∙ is_not in absurd cc

  unrefused : (why : Refusal) → ¬ RefusesTable schema text why
  unrefused (Invalid e) h = absurd (let x : ◌≡◌ {A = Result Table _} (Ok table) (Err e) = sym defined ∙ h in cc)
  unrefused NameTaken h =
      let same = same_table h.0 h.1 in
      elim h.2 [
        | inl used ↦ never (subst (λ (t : Table). is_used schema t.name ≡ true) same used) can.free
        | inr index ↦ never index.2 (all_has (λ i. is_used schema i.name ≡ false) _ index.0 can.apart (subst (λ (t : Table). Has (automatics t 0 0 t.uniques) index.0) same index.1))
      ]
  unrefused BadName h =
      let same = same_table h.0 h.1 in
      elim h.2 [ inl bad ↦ bad (subst (λ (t : Table). IsUtf8 t.name) (sym same) can.named) | inr reserved ↦ never (subst (λ (t : Table). is_reserved t.name ≡ true) same reserved.0) can.own ]
  unrefused TooBig h =
      let same = same_table h.0 h.1 in
      elim h.2 [
        | inl many ↦ let most = subst (λ (t : Table). 65536 ≤ next_tree schema + length t.uniques) same many in absurd (omega (arith, most, can.trees_are, can.few))
        | inr (inl reals) ↦ let most = subst (λ (t : Table). 2 ^ 64 ≤ table_reals t) same reals in absurd (omega (arith, most, can.reals))
        | inr (inr key) ↦
            let most = subst (λ (t : Table). 2 ^ 64 ≤ index_reals (table_reals t) key.0) same key.2 in
            let none = all_has (λ k. index_reals (table_reals table) k ≡ 0) _ key.0 can.key_reals (subst (λ (t : Table). Has t.uniques key.0) same key.1) in
            absurd (omega (arith, most, none))
      ]
  unrefused BadKey h = let same = same_table h.0 h.1 in never can.formed (subst (λ (t : Table). is_formed t ≡ false) same h.2)
  unrefused BadText h = let same = same_table h.0 h.1 in never can.fit (subst (λ (t : Table). is_fit (Text (codes "table")) (Text t.name) (Text t.name) (Text text) ≡ false) same h.2)
  unrefused (Violates rule) h = h

  unstopped : (db : Database) → db.schema ≡ schema → (stop : Option Error) → ¬ MakesTable text db (Err stop)
  unstopped db has None h =
      let most = subst (λ (t : Table). 10 ^ 9 ≤ 2 * length t.name + length text + 200) (same_table h.0 h.1) h.2 in absurd (omega (arith, most, can.size_is, can.short))
  unstopped db has (Some e) (inl bad) = bad.0 can.utf8
  unstopped db has (Some e) (inr altered) = unrefused altered.0 (subst (λ s. RefusesTable s text altered.0) has altered.1)

  module _ (command : command_of (understood schema text) ≡ CreateTable) (whole : statement_of text (understood schema text) ≡ text) (plain : IsPlain (understood schema text))
      (one : IsOne 0 text (understood schema text)) (lacks : lacks_sequence (created schema table) ≡ false) where
    does_all : (limit : Option ℕ) (mode : Mode) (params : Row) (db : Database) → db.schema ≡ schema → (stop : Option Error) → ¬ Does limit mode params db text None CreateTable (Err stop)
    does_all limit mode params db has stop (inl stopped) = elim stopped.1 [
      | inl first ↦ unstopped db has first.0 first.1
      | inr made ↦
          let first = made.1 in
          let same = same_table first.table first.defined in
          let is : made.0.schema ≡ created schema table = first.is ∙ ap (λ s. created s first.table) has ∙ ap (created schema) same in
          let bare : lacks_sequence made.0.schema ≡ false = ap lacks_sequence is ∙ lacks in
          let gives = rw bare at made.2 in
          absurd cc
    ]
    does_all limit mode params db has stop (inr went) = let e = went.2 in absurd cc

    placed : (s : State) (e : Error) → ¬ IsMisplaced s CreateTable e
    placed s e (inl h) = elim h.1 [ inl begin ↦ let x = begin.0 in absurd cc | inr (end) ↦ elim end.0 [ inl x ↦ absurd cc | inr x ↦ absurd cc ] ]
    placed s e (inr h) = elim h.2 [ inl x ↦ absurd cc | inr x ↦ absurd cc ]

    unended : (s : State) → ¬ Escapes 0 s CreateTable
    unended s (inl h) = elim h [ inl x ↦ absurd cc | inr x ↦ absurd cc ]
    unended s (inr h) = elim h.1 [ inl x ↦ absurd cc | inr x ↦ absurd cc ]

    run_caused : (old new : State) (c : Compiled) (e : Error) (params : Row) → old.now.schema ≡ schema → c.command ≡ CreateTable → c.returning ≡ None → text_of text c ≡ text
        → RunsAlone false old new text c params (Err e) → IsCaused old new e
    run_caused old new c e params has is bare text_is h =
        let quiet : shows_rows false c ≡ false = rw (is, bare) refl in
        let done = λ (stop : Option Error) (does : Does old.step_limit (mode_of old) params old.now (text_of text c) None CreateTable (Err stop)).
        does_all old.step_limit (mode_of old) params old.now has stop (subst (λ t. Does old.step_limit (mode_of old) params old.now t None CreateTable (Err stop)) text_is does) in
        elim (rw (quiet, is, bare) at h) [
          | inl refused ↦ absurd (elim refused.0 [ inl misplaced ↦ placed old e misplaced | inr changes ↦ done (Some e) changes.1 ])
          | inr fails ↦ fails_caused old new _ e (done None) fails
        ]

    open_caused : (old new : State) (e : Error) → old.now.schema ≡ schema → ExecutesInside 0 text [] old new (Err e) → IsCaused old new e
    unfolding ExecutesIn EndsScope
    open_caused old new e has (inl ran) = elim ran.0 [
      | inl unrun ↦ unrun_caused text [] old new (subst (λ s. IsPlain (understood s text)) (sym has) plain) (subst (λ s. IsOne 0 text (understood s text)) (sym has) one) e unrun
      | inr it ↦
          let known = sym it.1.is ∙ ap (λ s. understood s text) has in
          let bare = subst IsPlain (sym known) plain in
          run_caused old new it.0 e (timed [] it.0.formats it.1.now) has (ap command_of known ∙ command) bare.0 (ap (statement_of text) known ∙ whole) it.2
    ]
    open_caused old new e has (inr scope) =
        let ends = scope.0 in
        let known = sym ends.1.is ∙ ap (λ s. understood s text) has in
        absurd (unended old (subst (Escapes 0 old) (ap command_of known ∙ command) ends.2))

    pub create_caused : (old new : State) (r : Result ℕ Error) → (IsTrue old.is_open → old.now.schema ≡ schema) → ExecutesInside 0 text [] old new r → IfErr r (IsCaused old new)
    create_caused old new (Ok count) has h = tt
    create_caused old new (Err e) has h = elim (cases_Bool old.is_open) [ inl opened ↦ open_caused old new e (has opened) h | inr shut ↦ inr (inr (inl shut)) ]

-- ---- the four texts

one : (part : Part) → IsOne 0 (create_text part) (understood (schema_before part) (create_text part))
unfolding understood everything
one Rows = (refl, refl)
one Meta = (refl, refl)
one Log = (refl, refl)
one Pending = (refl, refl)

can : (part : Part) → CanMake (schema_before part) (create_text part) (made_table part)
unfolding digits fits_kind is_free_name begins value_cmp names.same_name sound.same_name lib.Utf8.encode lib.Ieee.is_nan lib.Ieee.lt
can Rows = record {
  utf8 = (create_text Rows, (refl, refl));
  named = (codes "rows", (refl, refl));
  free = refl;
  apart = (refl, tt);
  own = refl;
  trees = 1;
  trees_are = refl;
  few = omega arith;
  reals = refl;
  key_reals = (refl, tt);
  formed = refl;
  fit = refl;
  size = 318;
  size_is = refl;
  short = omega arith;
}
can Meta = record {
  utf8 = (create_text Meta, (refl, refl));
  named = (codes "meta", (refl, refl));
  free = refl;
  apart = (refl, tt);
  own = refl;
  trees = 3;
  trees_are = refl;
  few = omega arith;
  reals = refl;
  key_reals = (refl, tt);
  formed = refl;
  fit = refl;
  size = 285;
  size_is = refl;
  short = omega arith;
}
can Log = record {
  utf8 = (create_text Log, (refl, refl));
  named = (codes "log", (refl, refl));
  free = refl;
  apart = tt;
  own = refl;
  trees = 4;
  trees_are = refl;
  few = omega arith;
  reals = refl;
  key_reals = tt;
  formed = refl;
  fit = refl;
  size = 329;
  size_is = refl;
  short = omega arith;
}
can Pending = record {
  utf8 = (create_text Pending, (refl, refl));
  named = (codes "pending", (refl, refl));
  free = refl;
  apart = (refl, tt);
  own = refl;
  trees = 6;
  trees_are = refl;
  few = omega arith;
  reals = refl;
  key_reals = (refl, tt);
  formed = refl;
  fit = refl;
  size = 327;
  size_is = refl;
  short = omega arith;
}

pub making_caused : (part : Part) (old new : State) (r : Result ℕ Error) → IsAmong (schema_before part) old → ExecutesInside 0 (create_text part) [] old new r → IfErr r (IsCaused old new)
making_caused part old new r was = create_caused (schema_before part) (create_text part) (made_table part) (makes part).1 (can part) (makes part).0 (whole part).0 (whole part).1 (one part) (leads part).2 old new r was.schema_is
