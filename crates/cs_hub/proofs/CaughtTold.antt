-- What a replica that asks to catch up is told.
use Rattle.std.proofs.Common.{Vec, ◌≡◌, ◌-◌, ◌≤◌, ◌++◌, ◌∷◌, [], ◌∙◌, ℕ, List, Result, Ok, Err, ap, drop, length, map, min, take}
use Rattle.std.specs.Global.{Global}
use Rattle.std.specs.Prelude.{IfOk}
use Rattle.std.proofs.lemmas.List.{append_assoc}
use Rattle.cs_value.specs.declared.catalog.TableDef.{TableDef}
use Rattle.cs_pending.specs.Calls.{ReadsStore}
use Rattle.cs_pending.specs.Storing.{WasRead, reads_well, then_reads_failed, then_well, went_well}
use Rattle.cs_store.specs.declared.log.entry.LogEntry.{LogEntry}
use Rattle.cs_store.specs.declared.store.RowStore.{Ghosts}
use Rattle.cs_store.specs.log.Log.{catalog_at}
use Rattle.cs_wire.specs.Answers.{answer_spelling, merged_numbers, merged_tag}
use Rattle.cs_wire.specs.Numbers.{eight_bytes, four_bytes}
use Rattle.cs_wire.specs.Told.{told_entry}
use Rattle.cs_wire.specs.declared.answer.Answer.TheVariants.{Entries}
use Rattle.cs_hub.specs.catching.Catches.{Catches}
use Rattle.cs_hub.specs.declared.catching.caught.Caught.TheVariants.{Alone}
use Rattle.cs_hub.specs.judgement.Judged.{hub_of}
use Rattle.cs_hub.specs.Serves.{TellsCaught}
use Rattle.cs_hub.proofs.Answered.{cut_entries}

-- its own entry
pub own_told : {E : Type 0} (opening : List TableDef) (log : List LogEntry) (asker first limit count : ℕ) (result : Result (Vec ℕ Global) E) → first ≤ length log → count ≡ min 1 (length log - first)
    → Catches (catalog_at opening log first) asker limit (drop first log) Alone → IfOk result (λ answer. answer.items ≡ answer_spelling (Entries first (map told_entry (take count (drop first log)))))
    → IfOk result (λ answer. TellsCaught (hub_of opening log) asker first limit answer.items)
own_told opening log asker first limit count (Ok answer) within cut catches is =
    (Alone, catches, is ∙ ap (λ (es : List LogEntry). answer_spelling (Entries first (map told_entry es))) (cut_entries log first 1 count within cut))
own_told opening log asker first limit count (Err fault) within cut catches is = tt

-- a changeset behind the numbers before it
pub merged_more : (origin first next size : ℕ) (bytes : List ℕ) → (merged_tag ∷ merged_numbers origin first next size []) ++ bytes ≡ merged_tag ∷ merged_numbers origin first next size bytes
merged_more origin first next size bytes =
    ap (λ (bs : List ℕ). merged_tag ∷ bs)
    (append_assoc (four_bytes origin) (eight_bytes first ++ (eight_bytes next ++ (four_bytes size ++ []))) bytes
    ∙ ap (λ (bs : List ℕ). four_bytes origin ++ bs)
    (append_assoc (eight_bytes first) (eight_bytes next ++ (four_bytes size ++ [])) bytes
    ∙ ap (λ (bs : List ℕ). eight_bytes first ++ bs)
    (append_assoc (eight_bytes next) (four_bytes size ++ []) bytes
    ∙ ap (λ (bs : List ℕ). eight_bytes next ++ bs) (append_assoc (four_bytes size) [] bytes))))

-- reads after others, whatever is told of them
module _ {S : Type 0} (g : Ghosts S) where
  pub then_read : {T E : Type 0} (device : E) (first second all : Type 0) (old mid new : S) (result : Result T E) → (all → first) → (g.honest mid → all → second) → WasRead g first old mid
      → ReadsStore g device second mid new result → ReadsStore g device all old new result
  then_read device first second all old mid new (Ok t) one two a b =
      reads_well g device all old new t (then_well g first second all old mid new one two a (went_well g device second mid new t b))
  then_read device first second all old mid new (Err fault) one two a b = then_reads_failed g device fault first second all old mid new one two a b
