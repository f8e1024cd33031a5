-- The queries for rowids are refused only for a limit on steps.
use Rattle.std.proofs.Common.{◌≡◌, ◌⊎◌, inl, inr, ℕ, [], Bool, true, false, Option, IsSome, refl, sym, ap, subst, ◌∙◌}
use Rattle.sqlite.specs.Command.{Command}
use Rattle.sqlite.specs.Effect.{Database, RefusesQuery, RefusesToRead}
use Rattle.sqlite.specs.Listing.{IsSourceOf, reads_listing, understood}
use Rattle.sqlite.specs.Schema.{Schema}
use Rattle.sqlite.specs.Tree.{Trees}
use Rattle.sqlite.specs.declared.error.Error.{Error}
use Rattle.sqlite.proofs.Callers.{command_of}
use Rattle.sqlite_tied.specs.Compute.{everything}
use Rattle.cs_sql.specs.Causes.{IsGranted, IsOne}
use Rattle.cs_sql.specs.declared.parts.Part.{Part}
use Rattle.cs_sql.specs.declared.parts.Part.TheVariants as part
use Rattle.cs_sql.specs.schema.Making.{tree_with}
use Rattle.cs_sql.specs.schema.Schemas.{front_schema, store_schema}
use Rattle.cs_sql.specs.statements.Tables.{ids_text}
use Rattle.cs_sql.specs.statements.Found.{HasFront}
use Rattle.cs_sql.proofs.StatementsLemmas.Meanings.{AsksIds, HasPart, ids_are, ids_in}

-- the database refuses the query for rowids only for a limit
abbrev OnlyLimited : Schema → ℕ → Type 0
OnlyLimited schema tree = (limit : Option ℕ) (trees : Trees) (e : Error) → RefusesQuery limit (record { schema = schema; trees = trees }) (record { lets = []; body = ids_in tree }) [] e → IsSome limit

limited_by : {A B C O L : Type 0} {accepts : Bool} → accepts ≡ true → ¬ O → (A × (accepts ≡ false)) ⊎ ((B × O) ⊎ (C × L)) → L
limited_by is none (inl typed) = absurd (let e : true ≡ false = sym is ∙ typed.1 in cc)
limited_by is none (inr (inl over)) = absurd (none over.1)
limited_by is none (inr (inr limit)) = limit.1

module _ (schema : Schema) (p : Part) (asks : AsksIds schema p) (one : IsOne 0 (ids_text p) (understood schema (ids_text p))) (only : OnlyLimited schema (tree_with p)) where
  granted_in : (now : Database) → now.schema ≡ schema → IsGranted (ids_text p) [] now
  granted_in now has = record {
    one = subst (λ (s : Schema). IsOne 0 (ids_text p) (understood s (ids_text p))) (sym has) one;
    granted = λ limit c db e known source refused.
        let command = ap command_of (sym known ∙ ap (λ (s : Schema). understood s (ids_text p)) has) ∙ asks.0 in
        let same : db ≡ now = subst (λ b. IsSourceOf b now db) (ap (λ (s : Schema). reads_listing s (ids_text p)) has ∙ asks.1) source in
        let there : db ≡ record { schema = schema; trees = db.trees } = λ i. record { schema = (ap (λ (d : Database). d.schema) same ∙ has) i; trees = db.trees } in
        only limit db.trees e
        (subst (λ (d : Database). RefusesQuery limit d (record { lets = []; body = ids_in (tree_with p) }) [] e) there (subst (λ (k : Command). RefusesToRead limit k db [] e) command refused));
  }

one_store : (p : Part) → IsOne 0 (ids_text p) (understood store_schema (ids_text p))
unfolding understood everything
one_store part.Rows = (refl, refl)
one_store part.Pending = (refl, refl)
one_store part.Meta = (refl, refl)
one_store part.Log = (refl, refl)

one_front : IsOne 0 (ids_text part.Rows) (understood front_schema (ids_text part.Rows)) × IsOne 0 (ids_text part.Meta) (understood front_schema (ids_text part.Meta)) × IsOne 0 (ids_text part.Log) (understood front_schema (ids_text part.Log))
unfolding understood everything
one_front = ((refl, refl), (refl, refl), (refl, refl))

only_store : (p : Part) → OnlyLimited store_schema (tree_with p)
only_store part.Rows limit trees e refused = limited_by refl (λ over. elim over [ inl none ↦ none | inr any ↦ any.4 ]) refused
only_store part.Pending limit trees e refused = limited_by refl (λ over. elim over [ inl none ↦ none | inr any ↦ any.4 ]) refused
only_store part.Meta limit trees e refused = limited_by refl (λ over. elim over [ inl none ↦ none | inr any ↦ any.4 ]) refused
only_store part.Log limit trees e refused = limited_by refl (λ over. elim over [ inl none ↦ none | inr any ↦ any.4 ]) refused

only_front : OnlyLimited front_schema (tree_with part.Rows) × OnlyLimited front_schema (tree_with part.Meta) × OnlyLimited front_schema (tree_with part.Log)
only_front = (
  λ limit trees e refused. limited_by refl (λ over. elim over [ inl none ↦ none | inr any ↦ any.4 ]) refused,
  λ limit trees e refused. limited_by refl (λ over. elim over [ inl none ↦ none | inr any ↦ any.4 ]) refused,
  λ limit trees e refused. limited_by refl (λ over. elim over [ inl none ↦ none | inr any ↦ any.4 ]) refused,
)

in_front : (p : Part) → IsOne 0 (ids_text p) (understood front_schema (ids_text p)) → OnlyLimited front_schema (tree_with p) → ((schema : Schema) → HasFront schema → AsksIds schema p) → (now : Database) → HasFront now.schema → IsGranted (ids_text p) [] now
in_front p one only asks now (inl front) = granted_in front_schema p (asks front_schema (inl refl)) one only now front
in_front p one only asks now (inr store) = granted_in store_schema p (asks store_schema (inr refl)) (one_store p) (only_store p) now store

pub ids_granted : (p : Part) (now : Database) → HasPart now.schema p → IsGranted (ids_text p) [] now
ids_granted part.Rows now has = in_front part.Rows one_front.0 only_front.0 (ids_are part.Rows) now has
ids_granted part.Pending now has = granted_in store_schema part.Pending (ids_are part.Pending store_schema refl) (one_store part.Pending) (only_store part.Pending) now has
ids_granted part.Meta now has = in_front part.Meta one_front.1 only_front.1 (ids_are part.Meta) now has
ids_granted part.Log now has = in_front part.Log one_front.2 only_front.2 (ids_are part.Log) now has
