-- What a schema is to a store.
use Rattle.std.specs.Prelude.{◌≡◌, ◌≢◌}
use Rattle.sqlite.specs.Schema.{Schema}
use Rattle.cs_sql.specs.declared.schema.judging.Judged.{Judged}
use Rattle.cs_sql.specs.declared.schema.judging.Judged.TheVariants.{Fresh, Ours, Front, Foreign}
use Rattle.cs_sql.specs.schema.Schemas.{no_schema, front_schema, store_schema}

-- none of a store's
abbrev pub IsForeign : Schema → Type 0
IsForeign schema = (schema ≢ no_schema) × (schema ≢ front_schema) × (schema ≢ store_schema)

abbrev pub IsJudged : Schema → Judged → Type 0
IsJudged schema Fresh = schema ≡ no_schema
IsJudged schema Ours = schema ≡ store_schema
IsJudged schema Front = schema ≡ front_schema
IsJudged schema Foreign = IsForeign schema

-- a schema is judged in one way
abbrev pub OneJudgement : Type 0
OneJudgement = (schema : Schema) (some other : Judged) → IsJudged schema some → IsJudged schema other → some ≡ other

-- each of a store's schemas is judged as what it is
abbrev pub JudgesOwn : Type 0
JudgesOwn = IsJudged no_schema Fresh × IsJudged front_schema Front × IsJudged store_schema Ours
