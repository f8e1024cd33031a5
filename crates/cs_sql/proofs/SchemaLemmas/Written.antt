-- The schemas written out.
use Rattle.std.proofs.Common.{◌≡◌, refl}
use Rattle.std.specs.Fmt.{digits}
use Rattle.cs_sql.specs.schema.Schemas.{front_schema, store_schema, front_parts, store_parts}

pub front_is : front_parts ≡ front_schema
unfolding digits
front_is = refl

pub store_is : store_parts ≡ store_schema
unfolding digits
store_is = refl
