-- The law of the bytes of keys.
use Rattle.std.specs.Prelude.{◌≡◌, List}
use Rattle.cs_value.specs.declared.value.Value.{Value}
use Rattle.cs_normal.specs.keyed.Changes.{key_bytes, IsSpelled}

-- no two keys that have spellings have the same bytes
abbrev pub BytesTellKeys : Type 0
BytesTellKeys =
    (some other : List Value) → IsSpelled some → IsSpelled other → key_bytes some ≡ key_bytes other → some ≡ other
