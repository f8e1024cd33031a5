-- The bytes of a reply.
use Rattle.std.specs.Prelude.{ℕ, List}
use Rattle.cs_lines.specs.declared.reply.Reply.{Reply}
use Rattle.cs_lines.specs.declared.reply.Reply.TheVariants.{Bytes, NotHex, NoMemory}
use Rattle.cs_lines.specs.Served.{not_hex, no_memory}

abbrev pub bytes_of : Reply → List ℕ
bytes_of (Bytes bytes) = bytes.items
bytes_of NotHex = not_hex
bytes_of NoMemory = no_memory
