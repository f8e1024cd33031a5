-- The laws of words.
use Rattle.std.specs.Prelude.{◌≡◌, ◌<◌, FitsSigned, All, Some, IsUtf8}
use Rattle.std.specs.Int.{w64}
use Rattle.cs_value.specs.declared.value.Value.{Value}
use Rattle.cs_value.specs.declared.value.Value.TheVariants.{Null, Int, Text, Blob}
use Rattle.cs_text.specs.Text.{value_text}
use Rattle.cs_text.specs.parse.Values.{value_in}

-- a number of 64 bits, bytes that are a text in UTF-8, or any bytes
abbrev pub IsWritten : Value → Type 0
IsWritten Null = Unit {0}
IsWritten (Int number) = FitsSigned w64 number
IsWritten (Text text) = IsUtf8 text × All (λ byte. byte < 256) text
IsWritten (Blob bytes) = All (λ byte. byte < 256) bytes

-- what is written of a value is read as that value
abbrev pub WrittenIsRead : Type 0
WrittenIsRead = (value : Value) → IsWritten value → value_in (value_text value) ≡ Some value
