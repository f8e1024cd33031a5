-- However a log widens them, there are as many tables as it opened with.
use Rattle.std.proofs.Common.{◌≡◌, ◌∙◌, ℕ, List, [], ◌∷◌, length, ap, refl}
use Rattle.std.proofs.lemmas.List.{length-map}
use Rattle.cs_value.specs.declared.catalog.TableDef.{TableDef}
use Rattle.cs_store.specs.log.Log.{catalog_after, catalog_next, catalog_of}
use Rattle.cs_store.specs.Whole.{Decodes}
use Rattle.cs_store.specs.declared.log.body.Body.{Body}
use Rattle.cs_store.specs.declared.log.body.Body.TheVariants.{Changes, Widen}
use Rattle.cs_store.specs.declared.log.entry.LogEntry.{LogEntry}

many_next : (tables : List TableDef) (body : Body) → length (catalog_after tables body) ≡ length tables
many_next tables (Changes changes) = refl
many_next tables (Widen table width) = length-map tables _

pub many_of : (tables : List TableDef) (log : List LogEntry) → length (catalog_of tables log) ≡ length tables
many_of tables [] = refl
many_of tables (entry ∷ log) = many_of (catalog_next tables entry) log ∙ many_next tables entry.body

pub many_present : (tables present : List TableDef) (bodies : List (List ℕ)) → Decodes tables bodies present → length present ≡ length tables
many_present tables present [] is = ap (λ (t : List TableDef). length t) is
many_present tables present (bytes ∷ more) (body, fits, is, rest) = many_present (catalog_after tables body) present more rest ∙ many_next tables body
