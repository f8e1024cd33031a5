-- Values that are read one after another, as edits that set them.
use Rattle.std.proofs.Common.{◌≡◌, ◌++◌, ℕ, List, [], ◌∷◌, Option, None, refl, sym, ap, ap₂, ◌∙◌}
use Rattle.std.specs.Prelude.{if◌then◌else◌}
use Rattle.cs_order.specs.Order.{same_bytes}
use Rattle.cs_store.specs.Contents.{Contents, meta_value, name_text}
use Rattle.cs_store.specs.Laws.{value_after}
use Rattle.cs_store.specs.Written.{optional_bytes}
use Rattle.cs_store.specs.declared.batch.MetaEdit.{MetaEdit}
use Rattle.cs_store.specs.declared.names.MetaName.{MetaName}
use Rattle.cs_opening.specs.copying.Steps.{value_read}

after_last : (edits : List MetaEdit) (last : MetaEdit) (name : MetaName) (value : Option (List ℕ))
    → value_after (edits ++ (last ∷ [])) name value ≡ (if same_bytes (name_text name) (name_text last.name) then optional_bytes last.value else value_after edits name value)
after_last [] last name value = refl
after_last (edit ∷ edits) last name value = after_last edits last name _

pub read_more : (contents middle : Contents) → middle ≡ contents → (names others : List MetaName) (first : MetaName) → names ≡ first ∷ others
    → (edit : MetaEdit) (old pushed new : List MetaEdit) → pushed ≡ old ++ (edit ∷ []) → edit.name ≡ first → optional_bytes edit.value ≡ meta_value contents first
    → ((name : MetaName) → value_after new name None ≡ value_read middle others name (value_after pushed name None))
    → (name : MetaName) → value_after new name None ≡ value_read contents names name (value_after old name None)
read_more contents middle same names others first is edit old pushed new added named value read name =
    read name
    ∙ ap (λ (c : Contents). value_read c others name (value_after pushed name None)) same
    ∙ ap (λ (es : List MetaEdit). value_read contents others name (value_after es name None)) added
    ∙ ap (value_read contents others name) (after_last old edit name None
    ∙ ap₂ (λ (n : MetaName) (v : Option (List ℕ)). if same_bytes (name_text name) (name_text n) then v else value_after old name None) named value)
    ∙ sym (ap (λ (ns : List MetaName). value_read contents ns name (value_after old name None)) is)
