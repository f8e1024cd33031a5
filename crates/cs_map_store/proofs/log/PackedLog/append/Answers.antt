use Rattle.std.proofs.Common.{◌≡◌, ◌++◌, ◌∷◌, [], List, Option, ap, sym, ◌∙◌}
use Rattle.std.proofs.lemmas.List.{append_assoc}
use Rattle.cs_store.specs.declared.batch.StoredEntry.{StoredEntry}
use Rattle.cs_store.specs.Contents.{LogItem}
use Rattle.cs_store.specs.Written.{appended, item_of, optional_entry}
use Rattle.cs_map_store.specs.Slots.{log_of}
use Rattle.cs_map_store.specs.Packed.{PackedItems, joined}
use Rattle.cs_map_store.proofs.Numbered.{log_push}
use Rattle.cs_map_store.proofs.log.PackedLog.append.Goals as goal

pub returns-in-Some : goal.returns-in-Some
returns-in-Some c =
    let was = c.self.inside in
    let items = c.args.self.now.items in
    let item = item_of c.in-Some.entry in
    let grown : joined was.full.items ++ c.append.new.self.items ≡ items ++ item ∷ [] =
    ap (λ (last : List LogItem). joined was.full.items ++ last) c.append.ensures.items
    ∙ sym (append_assoc (joined was.full.items) was.last.items (item ∷ [])) ∙ ap (λ (log : PackedItems). log.items ++ item ∷ []) c.self.view_is in
    ap log_of grown ∙ log_push items item ∙ sym (ap (λ (e : Option StoredEntry). appended (log_of items) (optional_entry e)) c.in-Some.is)
