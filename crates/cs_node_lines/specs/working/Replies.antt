-- The text of what is printed of one line: no definition that a public clause cites.
use Rattle.std.specs.Prelude.{ℕ, List, string_bytes}
use Rattle.cs_lines.specs.Lines.{hex_line}
use Rattle.cs_node_lines.specs.working.Texts.{ok_text, refused_text, unread_text}
use Rattle.cs_node_lines.specs.declared.working.reply.Reply.{Reply}
use Rattle.cs_node_lines.specs.declared.working.reply.Reply.TheVariants.{Done, Hex, Refused, Text, Unread}

abbrev pub reply_text : Reply → List ℕ
reply_text Done = ok_text
reply_text (Refused name) = refused_text name.now
reply_text Unread = unread_text
reply_text (Hex bytes) = hex_line bytes.items
reply_text (Text text) = string_bytes text
