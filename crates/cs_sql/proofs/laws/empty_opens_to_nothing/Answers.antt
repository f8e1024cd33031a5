use Rattle.std.proofs.Common.{◌≡◌, List, [], ◌∷◌, inl, inr, refl, sym, ap, subst, ◌∙◌, arith, length}
use Rattle.std.specs.List.{AllZip, filter}
use Rattle.sqlite.specs.Effect.{Database}
use Rattle.sqlite.specs.Files.{AreFoundIn, IsEmpty}
use Rattle.sqlite.specs.Order.{Row}
use Rattle.sqlite.specs.Recovery.{Image}
use Rattle.sqlite.specs.Schema.{Schema}
use Rattle.sqlite.specs.Table.{Table}
use Rattle.sqlite.specs.Tree.{Trees}
use Rattle.sqlite_catalog.specs.Listing.{IsTableRow, is_table_row}
use Rattle.cs_store.specs.Contents.{Contents, nothing}
use Rattle.cs_sql.specs.Keeping.{IsHeldIn}
use Rattle.cs_sql.specs.schema.Schemas.{front_schema, store_schema}
use Rattle.cs_sql.proofs.laws.empty_opens_to_nothing.Goals as goal

zip_none : (tables : List Table) → AllZip IsTableRow [] tables → tables ≡ []
zip_none [] all = refl
zip_none (table ∷ tables) all = absurd all

bare : (image : Image) (trees : Trees) → image.db ≡ [] → AreFoundIn image trees → IsEmpty trees
bare image trees none (inl found) = absurd (let some = found.3.found.present in let count : length image.db ≡ 0 = ap (λ bytes. length bytes) none in omega (arith, some, count))
bare image trees none (inr found) = found.1

no_tables : (schema other : Schema) → schema.tables ≡ [] → schema ≡ other → other.tables ≡ []
no_tables schema other none is = sym (ap (λ (s : Schema). s.tables) is) ∙ none

fresh_alone : (db : Database) (held : Contents) → db.schema.tables ≡ [] → IsHeldIn db held → held ≡ nothing
fresh_alone db held none (inl fresh) = fresh.1
fresh_alone db held none (inr (inl front)) = absurd (let e : front_schema.tables ≡ [] = no_tables db.schema front_schema none front.1.0 in cc)
fresh_alone db held none (inr (inr ours)) = absurd (let e : store_schema.tables ≡ [] = no_tables db.schema store_schema none ours.1.0.schema in cc)

pub returns : goal.returns
returns c image held none it =
    let empty = bare image it.0.trees none it.1.reads in
    let listed : AllZip IsTableRow (filter is_table_row []) it.0.schema.tables = subst (λ (rows : List Row). AllZip IsTableRow (filter is_table_row rows) it.0.schema.tables) empty.1 it.1.sound.lists.listed.tables in
    fresh_alone it.0 held (zip_none it.0.schema.tables listed) it.2
