-- The schema that the trees of a store list is a store's.
use Rattle.std.proofs.Common.{◌≡◌, ℕ, ◌+◌, pos, List, [], ◌∷◌, true, false, Option, Some, Result, Ok, refl, sym, ap, subst, ◌∙◌, arith}
use Rattle.std.specs.List.{AllZip, filter, slice_get}
use Rattle.sqlite.specs.Order.{Row, column}
use Rattle.sqlite.specs.Schema.{Schema}
use Rattle.sqlite.specs.Table.{Table}
use Rattle.sqlite.specs.Tree.{Trees, IsAscending}
use Rattle.sqlite.specs.Effect.{Database, IsDatabase}
use Rattle.sqlite_catalog.specs.Listing.{AreListed, DefinesTable, IsDefined, IsIndexRow, IsTableRow, IsViewRow, automatic, is_index_row}
use Rattle.sqlite_catalog.proofs.AlterLemmas.{numbers_differ}
use Rattle.sqlite_catalog.proofs.StepLemmas.{named_once, same_itself}
use Rattle.sqlite_schema.specs.declared.schema.Index.{Index}
use Rattle.sqlite_schema.specs.Names.{same_name}
use Rattle.sqlite_value.specs.declared.value.Value.{Value}
use Rattle.sqlite_value.specs.declared.value.Value.TheVariants.{Null, Int, Real, Text, Blob}
use Rattle.cs_sql.specs.schema.Schemas.{store_over}

same_text : (a b : List ℕ) → ◌≡◌ {A = Value} (Text a) (Text b) → a ≡ b
same_text a b e = cc

same_value : {B E : Type 0} {a b : B} → ◌≡◌ {A = Result B E} (Ok a) (Ok b) → a ≡ b
same_value e = cc

same_key : (a b : List ℕ) → ◌≡◌ {A = Option (List ℕ)} (Some a) (Some b) → a ≡ b
same_key a b e = cc

same_tree : (m n : ℕ) → ◌≡◌ {A = Value} (Int (pos (m + 1))) (Int (pos (n + 1))) → m ≡ n
same_tree m n e = let next : m + 1 ≡ n + 1 = cc in omega (arith, next)

zip_one : {A B : Type 0} (R : A → B → Type 0) → ((a : A) (x y : B) → R a x → R a y → x ≡ y) → (rows : List A) (xs ys : List B) → AllZip R rows xs → AllZip R rows ys → xs ≡ ys
zip_one R one [] [] [] p q = refl
zip_one R one [] [] (y ∷ ys) p q = absurd q
zip_one R one [] (x ∷ xs) ys p q = absurd p
zip_one R one (a ∷ rows) [] ys p q = absurd p
zip_one R one (a ∷ rows) (x ∷ xs) [] p q = absurd q
zip_one R one (a ∷ rows) (x ∷ xs) (y ∷ ys) p q = let first = one a x y p.0 q.0 in let rest = zip_one R one rows xs ys p.1 q.1 in λ i. first i ∷ rest i

zip_none : {A B : Type 0} (R : A → B → Type 0) (rows : List A) (ys : List B) → AllZip R rows [] → AllZip R rows ys → ys ≡ []
zip_none R [] [] p q = refl
zip_none R [] (y ∷ ys) p q = absurd q
zip_none R (a ∷ rows) ys p q = absurd p

one_table : (row : Row) (t u : Table) → IsTableRow row t → IsTableRow row u → t ≡ u
one_table row t u a b =
    let sql : a.sql ≡ b.sql = same_text a.sql b.sql (sym a.sql_is ∙ b.sql_is) in
    let defined : DefinesTable b.sql t = subst (λ s. DefinesTable s t) sql a.defined in
    let made : defined.0 ≡ b.defined.0 = same_value (sym defined.1 ∙ b.defined.1) in
    let tree : t.tree ≡ u.tree = same_tree t.tree u.tree (sym a.described.id ∙ b.described.id) in
    defined.2 ∙ (λ i. record (made i) { tree = tree i }) ∙ sym b.defined.2

-- the index of a UNIQUE is told by its name, and another by its text
one_defined : (table : Table) (i j : Index) (sql : Value) → i.name ≡ j.name → i.tree ≡ j.tree → IsDefined table i sql → IsDefined table j sql → i ≡ j
one_defined table i j Null name tree a b =
    let names : (automatic table a.0 [] 0).name ≡ (automatic table b.0 [] 0).name = sym (ap (λ (x : Index). x.name) a.3) ∙ name ∙ ap (λ (x : Index). x.name) b.3 in
    let at : a.0 ≡ b.0 = numbers_differ table a.0 b.0 a.4 b.4 (subst (λ n. same_name (automatic table a.0 [] 0).name n ≡ true) names (same_itself (automatic table a.0 [] 0).name)) in
    let key : a.1 ≡ b.1 = same_key a.1 b.1 (sym a.2 ∙ ap (slice_get table.uniques) at ∙ b.2) in
    a.3 ∙ (λ k. automatic table (at k) (key k) (tree k)) ∙ sym b.3
one_defined table i j (Int n) name tree a b = absurd a
one_defined table i j (Real x) name tree a b = absurd a
one_defined table i j (Text sql) name tree a b =
    let made : a.0 ≡ b.0 = same_value (sym a.1 ∙ b.1) in a.2 ∙ (λ k. record (made k) { tree = tree k; table = table.tree }) ∙ sym b.2
one_defined table i j (Blob s) name tree a b = absurd a

one_index : (tables : List Table) → IsAscending (λ s t. same_name s.name t.name ≡ false) tables → (row : Row) (i j : Index) → IsIndexRow tables row i → IsIndexRow tables row j → i ≡ j
one_index tables apart row i j a b =
    let owners : a.table.name ≡ b.table.name = same_text a.table.name b.table.name (sym a.described.owner_is ∙ b.described.owner_is) in
    let table : a.table ≡ b.table = named_once tables a.table b.table apart a.listed b.listed (subst (λ n. same_name a.table.name n ≡ true) owners (same_itself a.table.name)) in
    let name : i.name ≡ j.name = same_text i.name j.name (sym a.described.name_is ∙ b.described.name_is) in
    let tree : i.tree ≡ j.tree = same_tree i.tree j.tree (sym a.described.id ∙ b.described.id) in
    one_defined b.table i j (column row 4) name tree (subst (λ t. IsDefined t i (column row 4)) table a.defined) b.defined

listed_one : (objects : List Row) (own schema : Schema) → own.views ≡ [] → AreListed objects own → AreListed objects schema → schema ≡ own
listed_one objects own schema bare a b =
    let tables : schema.tables ≡ own.tables = zip_one IsTableRow one_table _ schema.tables own.tables b.tables a.tables in
    let indexes : schema.indexes ≡ own.indexes =
    zip_one (IsIndexRow own.tables) (one_index own.tables a.named) _ schema.indexes own.indexes (subst (λ ts. AllZip (IsIndexRow ts) (filter is_index_row objects) schema.indexes) tables b.indexes) a.indexes in
    let views : schema.views ≡ own.views = zip_none IsViewRow _ schema.views (subst (AllZip IsViewRow _) bare a.views) b.views ∙ sym bare in
    λ i. record { tables = tables i; indexes = indexes i; views = views i }

-- databases that show the same trees are the same, where there is no view
pub shows_same : (own db : Database) → own.schema.views ≡ [] → IsDatabase own → IsDatabase db → db.trees ≡ own.trees → db ≡ own
shows_same own db bare sound is same =
    let here : IsDatabase (record { schema = db.schema; trees = own.trees }) = subst (λ (t : Trees). IsDatabase (record { schema = db.schema; trees = t })) same is in
    let schema : db.schema ≡ own.schema = listed_one _ own.schema db.schema bare sound.lists.listed here.lists.listed in
    λ i. record { schema = schema i; trees = same i }

-- a database that shows a store's trees is that store's
pub shows_store : (trees : Trees) (db : Database) → IsDatabase (store_over trees) → IsDatabase db → db.trees ≡ trees → db ≡ store_over trees
shows_store trees db sound is same = shows_same (store_over trees) db refl sound is same
