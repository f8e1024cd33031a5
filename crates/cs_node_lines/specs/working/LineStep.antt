-- What a line makes of a replica, and what is printed of it (profile of this project). A replica is seen as what its store shows:
-- its tables as they are now, where it stands, its rows and its pending changes. Where a failed device is told, the store's count
-- of failures rose: from `had` to `has`.
use Rattle.std.specs.Prelude.{◌≡◌, ◌⊎◌, ◌≤◌, ◌++◌, ℕ, List, [], ◌∷◌, Result, Err, codes}
use Rattle.cs_node_lines.specs.declared.asks.ask.Ask.{Ask}
use Rattle.cs_node_lines.specs.declared.asks.ask.Ask.TheVariants.{Answer, Catch, Dump, OnEdit, Pull, Push, Resend}
use Rattle.cs_conflict.specs.declared.wish.Wish.{Wish}
use Rattle.cs_lines.specs.Lines.{hex_line}
use Rattle.cs_replica.specs.Step.{Hears, IsEditedTo, IsPushedTo, IsResent, Member}
use Rattle.cs_pending.specs.declared.fault.EditFault.{EditFault}
use Rattle.cs_pending.specs.declared.fault.EditFault.TheVariants as edits
use Rattle.cs_exchange.specs.declared.pulling.fault.AnswerFault.{AnswerFault}
use Rattle.cs_exchange.specs.declared.pushing.fault.PushFault.{PushFault}
use Rattle.cs_exchange.specs.declared.pushing.fault.PushFault.TheVariants as pushes
use Rattle.cs_replica.specs.Answered.{SaysDevice}
use Rattle.cs_replica.specs.declared.told.Told.{Told}
use Rattle.cs_store.specs.Calls.{MoreFailures}
use Rattle.cs_store.specs.declared.fault.StoreFault.{StoreFault}
use Rattle.cs_store.specs.declared.fault.StoreFault.TheVariants as stored
use Rattle.cs_text.specs.Text.{line}
use Rattle.cs_node_lines.specs.told.Dump.{AreRowLines, replica_text}
use Rattle.cs_wire.specs.Answers.{FitsAnswer, IsAnswerFault, answer_spelling}
use Rattle.cs_wire.specs.Requests.{AsksCatch, AsksPull, request_spelling}
use Rattle.cs_wire.specs.declared.answer.Answer.{Answer as Told_by}
use Rattle.cs_wire.specs.declared.fault.WireFault.{WireFault}
use Rattle.cs_wire.specs.declared.request.RequestBuf.{RequestBuf}
use Rattle.cs_node_lines.specs.working.Texts.{edited_text, heard_text, pushed_text, refused_text, store_fault_text, wire_fault_text}

-- the text says that memory was refused
abbrev pub SaysMemory : List ℕ → Type 0
SaysMemory text = text ≡ refused_text (codes "Memory")

-- where the replica stands, and its rows: its tables in their order, rows in the order of their keys' bytes
abbrev pub IsDumped : Member → List ℕ → Type 0
IsDumped member text = (rows : List ℕ) × AreRowLines member.tables member.view.tables rows × (text ≡ line (replica_text member.position.id member.position) ++ rows)

-- nothing was told: the bytes are no answer, and their fault is printed; or memory was refused
abbrev pub TakesNone : Member → List ℕ → List ℕ → Member → Type 0
TakesNone before bytes text after =
    (after ≡ before) × (((fault : WireFault) × IsAnswerFault fault bytes × (text ≡ refused_text (wire_fault_text fault))) ⊎ SaysMemory text)

-- an answer is taken, and what became of it is printed; or nothing was told
abbrev pub TakesAnswer : ℕ → ℕ → Member → List ℕ → List Wish → List ℕ → Member → Type 0
TakesAnswer had has before bytes wishes text after =
    ((answer : Told_by) × (result : Result Told AnswerFault) × FitsAnswer answer × (bytes ≡ answer_spelling answer)
    × Hears before answer wishes result after × (SaysDevice result → MoreFailures had has) × (text ≡ heard_text result after.position.version))
    ⊎ TakesNone before bytes text after

-- the store was not read: memory was refused or a device failed, where its count rose
abbrev pub ReadsNone : ℕ → ℕ → List ℕ → Type 0
ReadsNone had has text = (fault : StoreFault) × (fault ≡ stored.Device → MoreFailures had has) × (text ≡ refused_text (store_fault_text fault))

-- one case a line: what it makes of the replica, and its text
abbrev pub LineStep : ℕ → ℕ → Member → Ask → List ℕ → Member → Type 0
LineStep had has before (OnEdit asked) text after =
    (result : Result (Unit {0}) EditFault) × IsEditedTo asked result before after
    × (result ≡ Err edits.Device → MoreFailures had has) × (text ≡ edited_text result)
LineStep had has before Push text after =
    (result : Result RequestBuf PushFault) × IsPushedTo result before after
    × (result ≡ Err pushes.Device → MoreFailures had has) × (text ≡ pushed_text result)
LineStep had has before Resend text after =
    (after ≡ before) × (((result : Result RequestBuf PushFault) × IsResent result before.position × (text ≡ pushed_text result)) ⊎ SaysMemory text)
LineStep had has before (Pull limit) text after =
    (after ≡ before) × ((text ≡ hex_line (request_spelling (AsksPull before.position.version limit))) ⊎ SaysMemory text)
LineStep had has before (Catch limit) text after =
    (after ≡ before)
    × ((text ≡ hex_line (request_spelling (AsksCatch before.position.id before.position.version limit))) ⊎ SaysMemory text)
LineStep had has before (Answer bytes wishes) text after = TakesAnswer had has before bytes wishes text after
LineStep had has before Dump text after =
    (after ≡ before) × (IsDumped before text ⊎ ReadsNone had has text)

-- one step behind another, each with its text: the count of failures doesn't fall, and each failed device has a rise of its own
abbrev pub InTurn : {A : Type 0} → (ℕ → ℕ → Member → A → List ℕ → Member → Type 0) → ℕ → ℕ → Member → List A → List (List ℕ) → Member → Type 0
InTurn step had has before [] [] after = (after ≡ before) × (has ≡ had)
InTurn step had has before (one ∷ more) (text ∷ texts) after =
    (between : Member) × (count : ℕ) × (had ≤ count) × step had count before one text between × InTurn step count has between more texts after
InTurn step had has before [] (text ∷ texts) after = ⊥
InTurn step had has before (one ∷ more) [] after = ⊥
