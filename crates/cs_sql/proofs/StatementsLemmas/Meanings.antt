-- What the texts of the statements mean.
use Rattle.std.proofs.Common.{◌≡◌, inl, inr, ℕ, pos, negsuc, false, None, List, [], ◌∷◌, codes, refl, sym, subst}
use Rattle.sqlite.specs.Command.TheVariants.{Delete, Insert, Select}
use Rattle.sqlite.specs.Collation.TheVariants.{Binary}
use Rattle.sqlite.specs.Query.{Query, inner, end}
use Rattle.sqlite.specs.Source.TheVariants.{Values}
use Rattle.sqlite.specs.Term.{Term, lit, col, op2}
use Rattle.sqlite.specs.Listing.{understood, reads_listing}
use Rattle.sqlite.proofs.Callers.{IsPlain, command_of}
use Rattle.sqlite_value.specs.declared.value.Value.TheVariants.{Null, Int}
use Rattle.sqlite_value.specs.declared.keys.Key.{Key}
use Rattle.sqlite_sql.specs.declared.ops.BinaryOp.TheVariants.{Compare}
use Rattle.sqlite_sql.specs.declared.ops.CompareOp.TheVariants.{Eq, Ge, Lt}
use Rattle.sqlite_tied.specs.Compute.{everything}
use Rattle.sqlite.specs.Schema.{Schema}
use Rattle.sqlite.specs.Table.{Table}
use Rattle.cs_sql.specs.declared.parts.Part.{Part}
use Rattle.cs_sql.specs.declared.parts.Part.TheVariants as part
use Rattle.cs_sql.specs.declared.statements.spaces.Space.{Space}
use Rattle.cs_sql.specs.declared.statements.spaces.Space.TheVariants.{Rows, Pending}
use Rattle.cs_sql.specs.schema.Schemas.{front_schema, placed_at, store_schema}
use Rattle.cs_sql.specs.schema.Making.{tree_with}
use Rattle.cs_sql.specs.statements.Found.{HasFront}
use Rattle.cs_sql.specs.statements.Tables.{remove_text, insert_text, select_text, list_text, ids_text, all_text, remove_meta_text, insert_meta_text, select_meta_text, insert_log_text, select_log_text, list_log_text}

-- the terms of `tab = ?1 AND key = ?2`
abbrev pub at_place : List Term
at_place = op2 (Compare Eq Binary) (col 1 1) (col 0 0) ∷ op2 (Compare Eq Binary) (col 1 2) (col 0 1) ∷ []

-- the term of `name = ?1`
abbrev pub at_name : List Term
at_name = op2 (Compare Eq Binary) (col 1 1) (col 0 0) ∷ []

-- the term of `version = ?1`
abbrev pub at_version : List Term
at_version = op2 (Compare Eq Binary) (col 1 0) (col 0 0) ∷ []

-- the term of `tab = ?1`
abbrev pub in_table : List Term
in_table = op2 (Compare Eq Binary) (col 1 1) (col 0 0) ∷ []

-- a query on a table under these terms, which shows these in this order
abbrev pub query_on : ℕ → List Term → List Term → List (Term × Key) → Query
query_on tree terms project order = record {
  from = inner tree end;
  filter = terms;
  group = None;
  project = project;
  distinct = false;
  collations = [];
  order = order;
  limit = lit (Int (negsuc 0));
  offset = lit (Int (pos 0));
}

-- the column alone
abbrev pub one_column : ℕ → List Term
one_column at = col 1 at ∷ []

-- by the bytes of the column
abbrev pub rising_by : ℕ → List (Term × Key)
rising_by at = (col 1 at, record { collation = Binary; descending = false }) ∷ []

-- one of the two tables with bodies at places, its tree, and where it stands in the schema
abbrev pub name_of : Space → List ℕ
name_of Rows = codes "rows"
name_of Pending = codes "pending"

abbrev pub tree_of : Space → ℕ
tree_of Rows = 0
tree_of Pending = 5

abbrev pub table_of : Space → Table
table_of space = placed_at (name_of space) (tree_of space)

abbrev pub index_of : Space → ℕ
index_of Rows = 0
index_of Pending = 3

abbrev pub query_at : Space → ℕ → Query
query_at space at = query_on (tree_of space) at_place (one_column at) []

abbrev pub meta_at : ℕ → Query
meta_at at = query_on 2 at_name (one_column at) []

abbrev pub item_terms : List Term
item_terms = col 1 2 ∷ col 1 3 ∷ col 1 4 ∷ []

abbrev pub item_at : Query
item_at = query_on 4 at_version item_terms []

-- the terms of `version >= ?1 AND version < ?2`
abbrev pub in_range : List Term
in_range = op2 (Compare Ge Binary) (col 1 0) (col 0 0) ∷ op2 (Compare Lt Binary) (col 1 0) (col 0 1) ∷ []

abbrev pub listed_terms : List Term
listed_terms = col 1 2 ∷ col 1 3 ∷ col 1 4 ∷ col 1 0 ∷ []

-- a range of the log, by version
abbrev pub entries_in : Query
entries_in = query_on 4 in_range listed_terms (rising_by 0)

abbrev pub pair_terms : List Term
pair_terms = col 1 2 ∷ col 1 3 ∷ []

-- the rows of one table, by key
abbrev pub pairs_in : ℕ → Query
pairs_in tree = query_on tree in_table pair_terms (rising_by 2)

-- the rowids of a table
abbrev pub ids_in : ℕ → Query
ids_in tree = query_on tree [] (one_column 0) (rising_by 0)

pub remove_is : (space : Space) → command_of (understood store_schema (remove_text space)) ≡ Delete (index_of space) (record { lets = []; body = query_at space 0 })
unfolding understood everything
remove_is Rows = refl
remove_is Pending = refl

pub remove_plain : (space : Space) → IsPlain (understood store_schema (remove_text space))
unfolding understood everything
remove_plain Rows = (refl, refl)
remove_plain Pending = (refl, refl)

abbrev pub row_terms : List Term
row_terms = lit Null ∷ col 0 0 ∷ col 0 1 ∷ col 0 2 ∷ []

pub insert_is : (space : Space) → command_of (understood store_schema (insert_text space)) ≡ Insert (index_of space) (Values row_terms 4)
unfolding understood everything
insert_is Rows = refl
insert_is Pending = refl

pub insert_plain : (space : Space) → IsPlain (understood store_schema (insert_text space))
unfolding understood everything
insert_plain Rows = (refl, refl)
insert_plain Pending = (refl, refl)

pub remove_meta_is : command_of (understood store_schema remove_meta_text) ≡ Delete 1 (record { lets = []; body = meta_at 0 })
unfolding understood everything
remove_meta_is = refl

pub remove_meta_plain : IsPlain (understood store_schema remove_meta_text)
unfolding understood everything
remove_meta_plain = (refl, refl)

abbrev pub meta_terms : List Term
meta_terms = lit Null ∷ col 0 0 ∷ col 0 1 ∷ []

pub insert_meta_is : command_of (understood store_schema insert_meta_text) ≡ Insert 1 (Values meta_terms 3)
unfolding understood everything
insert_meta_is = refl

pub insert_meta_plain : IsPlain (understood store_schema insert_meta_text)
unfolding understood everything
insert_meta_plain = (refl, refl)

abbrev pub log_terms : List Term
log_terms = col 0 0 ∷ lit Null ∷ col 0 1 ∷ col 0 2 ∷ col 0 3 ∷ []

pub insert_log_is : command_of (understood store_schema insert_log_text) ≡ Insert 2 (Values log_terms 5)
unfolding understood everything
insert_log_is = refl

pub insert_log_plain : IsPlain (understood store_schema insert_log_text)
unfolding understood everything
insert_log_plain = (refl, refl)

pub select_is : (space : Space) → (command_of (understood store_schema (select_text space)) ≡ Select (record { lets = []; body = query_at space 3 }) (codes "body" ∷ [])) × (reads_listing store_schema (select_text space) ≡ false)
unfolding understood everything
select_is Rows = (refl, refl)
select_is Pending = (refl, refl)

pub select_plain : (space : Space) → IsPlain (understood store_schema (select_text space))
unfolding understood everything
select_plain Rows = (refl, refl)
select_plain Pending = (refl, refl)

pub select_meta_is : (command_of (understood store_schema select_meta_text) ≡ Select (record { lets = []; body = meta_at 2 }) (codes "body" ∷ [])) × (reads_listing store_schema select_meta_text ≡ false)
unfolding understood everything
select_meta_is = (refl, refl)

pub select_meta_plain : IsPlain (understood store_schema select_meta_text)
unfolding understood everything
select_meta_plain = (refl, refl)

pub select_log_is : (command_of (understood store_schema select_log_text) ≡ Select (record { lets = []; body = item_at }) (codes "origin" ∷ codes "number" ∷ codes "body" ∷ [])) × (reads_listing store_schema select_log_text ≡ false)
unfolding understood everything
select_log_is = (refl, refl)

pub select_log_plain : IsPlain (understood store_schema select_log_text)
unfolding understood everything
select_log_plain = (refl, refl)

pub list_log_is : (command_of (understood store_schema list_log_text) ≡ Select (record { lets = []; body = entries_in }) (codes "origin" ∷ codes "number" ∷ codes "body" ∷ codes "version" ∷ [])) × (reads_listing store_schema list_log_text ≡ false)
unfolding understood everything
list_log_is = (refl, refl)

pub list_log_plain : IsPlain (understood store_schema list_log_text)
unfolding understood everything
list_log_plain = (refl, refl)

pub list_is : (space : Space) → (command_of (understood store_schema (list_text space)) ≡ Select (record { lets = []; body = pairs_in (tree_of space) }) (codes "key" ∷ codes "body" ∷ [])) × (reads_listing store_schema (list_text space) ≡ false)
unfolding understood everything
list_is Rows = (refl, refl)
list_is Pending = (refl, refl)

pub list_plain : (space : Space) → IsPlain (understood store_schema (list_text space))
unfolding understood everything
list_plain Rows = (refl, refl)
list_plain Pending = (refl, refl)

-- the column that a query for rowids shows
abbrev pub id_name : Part → List ℕ
id_name part.Rows = codes "rowid"
id_name part.Pending = codes "rowid"
id_name part.Meta = codes "rowid"
id_name part.Log = codes "version"

-- the text asks for the rowids of the table, in this schema
abbrev pub AsksIds : Schema → Part → Type 0
AsksIds schema p = (command_of (understood schema (ids_text p)) ≡ Select (record { lets = []; body = ids_in (tree_with p) }) (id_name p ∷ [])) × (reads_listing schema (ids_text p) ≡ false) × IsPlain (understood schema (ids_text p))

-- a schema of a store's that has the table
abbrev pub HasPart : Schema → Part → Type 0
HasPart schema part.Rows = HasFront schema
HasPart schema part.Pending = schema ≡ store_schema
HasPart schema part.Meta = HasFront schema
HasPart schema part.Log = HasFront schema

ids_store : (p : Part) → AsksIds store_schema p
unfolding understood everything
ids_store part.Rows = (refl, refl, (refl, refl))
ids_store part.Pending = (refl, refl, (refl, refl))
ids_store part.Meta = (refl, refl, (refl, refl))
ids_store part.Log = (refl, refl, (refl, refl))

ids_front : AsksIds front_schema part.Rows × AsksIds front_schema part.Meta × AsksIds front_schema part.Log
unfolding understood everything
ids_front = ((refl, refl, (refl, refl)), (refl, refl, (refl, refl)), (refl, refl, (refl, refl)))

in_front : (p : Part) → AsksIds front_schema p → (schema : Schema) → HasFront schema → AsksIds schema p
in_front p asks schema (inl is) = subst (λ (s : Schema). AsksIds s p) (sym is) asks
in_front p asks schema (inr is) = subst (λ (s : Schema). AsksIds s p) (sym is) (ids_store p)

pub ids_are : (p : Part) (schema : Schema) → HasPart schema p → AsksIds schema p
ids_are part.Rows schema has = in_front part.Rows ids_front.0 schema has
ids_are part.Pending schema has = subst (λ (s : Schema). AsksIds s part.Pending) (sym has) (ids_store part.Pending)
ids_are part.Meta schema has = in_front part.Meta ids_front.1 schema has
ids_are part.Log schema has = in_front part.Log ids_front.2 schema has

-- a place and a body
abbrev pub place_terms : List Term
place_terms = col 1 1 ∷ col 1 2 ∷ col 1 3 ∷ []

-- all of a table, in this order
abbrev pub all_in : ℕ → List Term → List (Term × Key) → Query
all_in tree terms order = query_on tree [] terms order

abbrev pub terms_of : Part → List Term
terms_of part.Rows = place_terms
terms_of part.Pending = place_terms
terms_of part.Meta = one_column 1
terms_of part.Log = one_column 4

abbrev pub order_of : Part → List (Term × Key)
order_of part.Rows = []
order_of part.Pending = []
order_of part.Meta = []
order_of part.Log = rising_by 0

abbrev pub columns_of : Part → List (List ℕ)
columns_of part.Rows = codes "tab" ∷ codes "key" ∷ codes "body" ∷ []
columns_of part.Pending = codes "tab" ∷ codes "key" ∷ codes "body" ∷ []
columns_of part.Meta = codes "name" ∷ []
columns_of part.Log = codes "body" ∷ []

pub all_is : (p : Part) → (command_of (understood store_schema (all_text p)) ≡ Select (record { lets = []; body = all_in (tree_with p) (terms_of p) (order_of p) }) (columns_of p)) × (reads_listing store_schema (all_text p) ≡ false)
unfolding understood everything
all_is part.Rows = (refl, refl)
all_is part.Pending = (refl, refl)
all_is part.Meta = (refl, refl)
all_is part.Log = (refl, refl)

pub all_plain : (p : Part) → IsPlain (understood store_schema (all_text p))
unfolding understood everything
all_plain part.Rows = (refl, refl)
all_plain part.Pending = (refl, refl)
all_plain part.Meta = (refl, refl)
all_plain part.Log = (refl, refl)
