-- Each C function has one answer, up to want of memory.
use Rattle.std.proofs.Common.{◌≡◌, ◌⊎◌, inl, inr, ℕ, List, [], ◌∷◌, length, refl, sym, ap, subst, ◌∙◌}
use Rattle.std.proofs.lemmas.Bool.{cases_lt}
use Rattle.cs_value.specs.Catalog.{AreTables}
use Rattle.cs_value.specs.declared.catalog.TableDef.{TableDef}
use Rattle.cs_change.specs.declared.group.Group.{Group}
use Rattle.cs_change.specs.Spelling.{changeset_spelling}
use Rattle.cs_changeset.specs.Laws.{ChangesetLaws}
use Rattle.cs_changeset.specs.Reading.{IsChangesetFault}
use Rattle.cs_changeset.specs.declared.fault.Fault.{Fault}
use Rattle.cs_normal.specs.Headers.{headers, HaveCatalog}
use Rattle.cs_normalising.specs.Laws.{NoFaultWhereFit, OneNormalForm, OneUnfit}
use Rattle.cs_normal.specs.Normal.{normal_spelling}
use Rattle.cs_normalising.specs.NormalFormOf.{AreFit, IsUnfit}
use Rattle.cs_normal.specs.declared.normal.TableChanges.{TableChanges}
use Rattle.cs_normalising.specs.declared.unfit.Unfit.{Unfit}
use Rattle.cs_normalising.specs.declared.unfit.Unfit.TheVariants as in_changes
use Rattle.cs_group.specs.Combined.{tables_of, IsCombined, HasCombineFault, NoFaultWhereCombined, OneCombined, OneCombineFault}
use Rattle.cs_group.specs.Inverse.{inverse_changeset}
use Rattle.cs_group.specs.declared.combining.CombineFault.{CombineFault}
use Rattle.cs_group.specs.declared.combining.CombineFault.TheVariants as in_all
use Rattle.cs_ffi.specs.Answers.{no_memory, read, refused, change_count, Spell, IsRefusal, Hands, IsHanded, UpToMemory}
use Rattle.cs_ffi.specs.CombinedAnswers.{combine_answer, AnswersCombined, AnswersInverse, ArePartsOf, IsCombineRefusal, IsAloneRefusal, IsPartRefusal, NotCombined, SpellCombined, SpellInverse}
use Rattle.cs_ffi.specs.NormalAnswers.{unfit_answer, AnswersNormal, Declare, DeclareNone, HasNoForm, IsFitInput, IsFormRefusal, IsNormalRefusal, SpellForm, SpellNormal}
use Rattle.cs_ffi.specs.Laws.{AnswerLaws, OneCount, OneCopy, OneNormalAnswer, OneSqliteAnswer, OneCombinedAnswer, OneInverseAnswer, OneRebasedAnswer}
use Rattle.cs_ffi.specs.declared.answer.Answer.{Answer}
use Rattle.cs_ffi.proofs.PartFaults.{one_cut, no_part_fault, one_part_fault}
use Rattle.cs_ffi.proofs.Parts.{cut_adds_up}

-- the laws below
pub record Below : Type 0 where
  pub changesets : ChangesetLaws
  pub fit : NoFaultWhereFit
  pub unfit : OneUnfit
  pub form : OneNormalForm
  pub combined : OneCombined
  pub no_fault : NoFaultWhereCombined
  pub fault : OneCombineFault

-- ---- up to want of memory

abbrev pub Same : Answer → Answer → Type 0
Same one other = UpToMemory one other (one ≡ other)

pub same : {one other : Answer} → one ≡ other → Same one other
same is = inr (inr is)

pub by_each : {A : Type 0} {one other is told : A} → one ≡ is → other ≡ told → is ≡ told → one ≡ other
by_each a b e = a ∙ e ∙ sym b

-- two refusals, which change nothing
unchanged : {one other : Answer} {before after last : List ℕ} → after ≡ before → last ≡ before → Same one other → UpToMemory one other ((one ≡ other) × (after ≡ last))
unchanged a l (inl m) = inl m
unchanged a l (inr (inl m)) = inr (inl m)
unchanged a l (inr (inr is)) = inr (inr (is, a ∙ sym l))

-- ---- bytes

pub one_spelled : ChangesetLaws → (bytes : List ℕ) (some others : List Group) → Spell bytes some → Spell bytes others → some ≡ others
one_spelled laws bytes some others s o = laws.one some others s.0 o.0 (sym s.1 ∙ o.1)

pub no_fault : ChangesetLaws → (bytes : List ℕ) (groups : List Group) (fault : Fault) (offset : ℕ) → Spell bytes groups → IsChangesetFault fault offset bytes → ⊥
no_fault laws bytes groups fault offset spells told =
    laws.right groups fault offset spells.0 (subst (λ (b : List ℕ). IsChangesetFault fault offset b) spells.1 told)

pub refused_alike : (f g : Fault) (o p : ℕ) → (f ≡ g) × (o ≡ p) → refused f o ≡ refused g p
refused_alike f g o p is = ap (λ (h : Fault). refused h o) is.0 ∙ ap (λ (n : ℕ). refused g n) is.1

pub one_refusal : ChangesetLaws → (bytes : List ℕ) (one other : Answer) → IsRefusal bytes one → IsRefusal bytes other → Same one other
one_refusal laws bytes one other (inl m) r = inl m
one_refusal laws bytes one other (inr s) (inl m) = inr (inl m)
one_refusal laws bytes one other (inr (f, o, told, a)) (inr (g, p, told', b)) =
    same (by_each a b (refused_alike f g o p (laws.fault f g o p bytes told told')))

pub no_refusal : ChangesetLaws → (bytes : List ℕ) (groups : List Group) (answer : Answer) → Spell bytes groups → IsRefusal bytes answer → answer ≡ no_memory
no_refusal laws bytes groups answer spells (inl m) = m
no_refusal laws bytes groups answer spells (inr (fault, offset, told, is)) =
    absurd (no_fault laws bytes groups fault offset spells told)

one_handed : (bytes before after last : List ℕ) → IsHanded bytes before after → IsHanded bytes before last → after ≡ last
one_handed bytes before after last a l =
    elim (cases_lt (length before) (length bytes)) [
      | inl less ↦ a.no_room less ∙ sym (l.no_room less)
      | inr enough ↦ a.room enough ∙ sym (l.room enough)
    ]

-- the same bytes are handed over and told
handed_alike : (bytes more before after last : List ℕ) (one other : Answer) → bytes ≡ more → IsHanded bytes before after → IsHanded more before last → one ≡ read (length bytes) → other ≡ read (length more)
    → UpToMemory one other ((one ≡ other) × (after ≡ last))
handed_alike bytes more before after last one other is a l told told' =
    inr (inr (by_each told told' (ap (λ (b : List ℕ). read (length b)) is), one_handed more before after last (subst (λ (b : List ℕ). IsHanded b before after) is a) l))

-- bytes of which there is one, and which nothing refuses, are handed over in one way
pub one_hand : (AreMade : List ℕ → Type 0) (IsRefused : Answer → Type 0) → ((bytes more : List ℕ) → AreMade bytes → AreMade more → bytes ≡ more)
    → ((bytes : List ℕ) (answer : Answer) → AreMade bytes → IsRefused answer → answer ≡ no_memory) → ((one other : Answer) → IsRefused one → IsRefused other → Same one other)
    → (before after last : List ℕ) (one other : Answer) → Hands AreMade IsRefused before after one → Hands AreMade IsRefused before last other → UpToMemory one other ((one ≡ other) × (after ≡ last))
one_hand AreMade IsRefused alike none refuse before after last one other (inl (bytes, m, h, a)) (inl (more, n, h', b)) =
    handed_alike bytes more before after last one other (alike bytes more m n) h h' a b
one_hand AreMade IsRefused alike none refuse before after last one other (inl (bytes, m, h, a)) (inr (r, kept)) =
    inr (inl (none bytes other m r))
one_hand AreMade IsRefused alike none refuse before after last one other (inr (r, kept)) (inl (bytes, m, h, a)) =
    inl (none bytes one m r)
one_hand AreMade IsRefused alike none refuse before after last one other (inr (r, kept)) (inr (r', kept')) =
    unchanged kept kept' (refuse one other r r')

-- ---- reading, and writing again

one_count : Below → OneCount
one_count laws input one other (inl (g, spells, a)) (inl (h, spells', b)) =
    same (by_each a b (ap (λ (g : List Group). read (change_count g)) (one_spelled laws.changesets input g h spells spells')))
one_count laws input one other (inl (g, spells, a)) (inr r) = inr (inl (no_refusal laws.changesets input g other spells r))
one_count laws input one other (inr r) (inl (g, spells, a)) = inl (no_refusal laws.changesets input g one spells r)
one_count laws input one other (inr r) (inr s) = one_refusal laws.changesets input one other r s

one_copy : Below → OneCopy
one_copy laws input before after last one other (inl (g, spells, h, a)) (inl (g', spells', h', b)) =
    handed_alike (changeset_spelling g) (changeset_spelling g') before after last one other (ap changeset_spelling (one_spelled laws.changesets input g g' spells spells')) h h' a b
one_copy laws input before after last one other (inl (g, spells, h, a)) (inr (r, kept)) =
    inr (inl (no_refusal laws.changesets input g other spells r))
one_copy laws input before after last one other (inr (r, kept)) (inl (g, spells, h, a)) =
    inl (no_refusal laws.changesets input g one spells r)
one_copy laws input before after last one other (inr (r, kept)) (inr (s, kept')) =
    unchanged kept kept' (one_refusal laws.changesets input one other r s)

-- ---- the normal form

pub one_declared : ChangesetLaws → (bytes : List ℕ) (some others : List TableDef) → Declare bytes some → Declare bytes others → some ≡ others
one_declared laws bytes some others s o =
    by_each s.are o.are (ap (λ (g : List Group). tables_of (g ∷ [])) (one_spelled laws bytes s.groups o.groups s.spells o.spells))

pub some_declared : ChangesetLaws → (bytes : List ℕ) (tables : List TableDef) → Declare bytes tables → DeclareNone bytes → ⊥
some_declared laws bytes tables declares (inl (fault, offset, told)) =
    no_fault laws bytes declares.groups fault offset declares.spells told
some_declared laws bytes tables declares (inr (groups, spells, none)) =
    none (subst (λ (g : List Group). HaveCatalog (headers (g ∷ []))) (one_spelled laws bytes declares.groups groups declares.spells spells) declares.catalog)

-- what is declared is a catalog
pub are_tables : (bytes : List ℕ) (tables : List TableDef) → Declare bytes tables → AreTables tables
are_tables bytes tables declares = subst AreTables (sym declares.are) declares.catalog.1

one_form : Below → (declared input bytes more : List ℕ) → SpellNormal declared input bytes → SpellNormal declared input more → bytes ≡ more
one_form laws declared input bytes more s o =
    let tables = one_declared laws.changesets declared s.tables o.tables s.declares o.declares in
    let groups = one_spelled laws.changesets input s.groups o.groups s.spells o.spells in
    let form = subst (λ (g : List Group). SpellForm o.tables g bytes) groups (subst (λ (t : List TableDef). SpellForm t s.groups bytes) tables s.form) in
    by_each form.spelled o.form.spelled
    (ap (λ (n : List TableChanges). normal_spelling n) (laws.form o.tables o.groups form.normal o.form.normal (are_tables declared o.tables o.declares) form.form o.form.form))

-- what has a normal form fits
fits : (declared input bytes : List ℕ) → SpellNormal declared input bytes → IsFitInput declared input
fits declared input bytes s = record {
  tables = s.tables;
  groups = s.groups;
  declares = s.declares;
  spells = s.spells;
  fit = s.form.form.fit;
}

-- an input that fits its tables is refused for want of memory alone
pub no_form_refusal : ChangesetLaws → NoFaultWhereFit → (tables : List TableDef) (input : List ℕ) (groups : List Group) (answer : Answer) → AreTables tables → Spell input groups → AreFit tables groups → IsFormRefusal tables input answer → answer ≡ no_memory
no_form_refusal laws law tables input groups answer are spells fit (inl r) =
    no_refusal laws input groups answer spells r
no_form_refusal laws law tables input groups answer are spells fit (inr o) =
    let told = subst (λ (g : List Group). IsUnfit o.fault tables g) (one_spelled laws input o.groups groups o.spells spells) o.told in
    o.number ∙ ap (λ (f : Unfit). unfit_answer f) (law o.fault tables groups are fit told)

pub no_normal_refusal : ChangesetLaws → NoFaultWhereFit → (declared input : List ℕ) (answer : Answer) → IsFitInput declared input → IsNormalRefusal declared input answer → answer ≡ no_memory
no_normal_refusal laws law declared input answer s (inl m) = m
no_normal_refusal laws law declared input answer s (inr (inl (is, none))) =
    absurd (some_declared laws declared s.tables s.declares none)
no_normal_refusal laws law declared input answer s (inr (inr (tables, declares, r))) =
    no_form_refusal laws law s.tables input s.groups answer (are_tables declared s.tables s.declares) s.spells s.fit
    (subst (λ (t : List TableDef). IsFormRefusal t input answer) (one_declared laws declared tables s.tables declares s.declares) r)

-- a fault of a changeset is want of memory or isn't
is_memory : (fault : Unfit) → (fault ≡ in_changes.Memory) ⊎ (fault ≡ in_changes.Memory → ⊥)
is_memory in_changes.Memory = inl refl
is_memory in_changes.UnknownTable = inr (λ e. cc)
is_memory in_changes.Shape = inr (λ e. cc)
is_memory in_changes.NullKey = inr (λ e. cc)
is_memory in_changes.KeyTwice = inr (λ e. cc)

one_unfit : Below → (tables : List TableDef) (input : List ℕ) (one other : Answer) → AreTables tables → HasNoForm tables input one → HasNoForm tables input other → Same one other
one_unfit laws tables input one other are s o =
    let told = subst (λ (g : List Group). IsUnfit s.fault tables g) (one_spelled laws.changesets input s.groups o.groups s.spells o.spells) s.told in
    elim (is_memory s.fault) [
      | inl m ↦ inl (s.number ∙ ap (λ (f : Unfit). unfit_answer f) m)
      | inr n ↦ elim (is_memory o.fault) [
        | inl m ↦ inr (inl (o.number ∙ ap (λ (f : Unfit). unfit_answer f) m))
        | inr k ↦ same (by_each s.number o.number (ap (λ (f : Unfit). unfit_answer f) (laws.unfit s.fault o.fault tables o.groups are told o.told n k)))
      ]
    ]

pub one_form_refusal : Below → (tables : List TableDef) (input : List ℕ) (one other : Answer) → AreTables tables → IsFormRefusal tables input one → IsFormRefusal tables input other → Same one other
one_form_refusal laws tables input one other are (inl r) (inl s) = one_refusal laws.changesets input one other r s
one_form_refusal laws tables input one other are (inl r) (inr o) =
    inl (no_refusal laws.changesets input o.groups one o.spells r)
one_form_refusal laws tables input one other are (inr o) (inl r) =
    inr (inl (no_refusal laws.changesets input o.groups other o.spells r))
one_form_refusal laws tables input one other are (inr s) (inr o) = one_unfit laws tables input one other are s o

one_normal_refusal : Below → (declared input : List ℕ) (one other : Answer) → IsNormalRefusal declared input one → IsNormalRefusal declared input other → Same one other
one_normal_refusal laws declared input one other (inl m) r = inl m
one_normal_refusal laws declared input one other (inr s) (inl m) = inr (inl m)
one_normal_refusal laws declared input one other (inr (inl (a, none))) (inr (inl (b, none'))) = same (a ∙ sym b)
one_normal_refusal laws declared input one other (inr (inl (a, none))) (inr (inr (tables, declares, r))) =
    absurd (some_declared laws.changesets declared tables declares none)
one_normal_refusal laws declared input one other (inr (inr (tables, declares, r))) (inr (inl (b, none))) =
    absurd (some_declared laws.changesets declared tables declares none)
one_normal_refusal laws declared input one other (inr (inr (some, s, r))) (inr (inr (others, o, r'))) =
    one_form_refusal laws others input one other (are_tables declared others o)
    (subst (λ (t : List TableDef). IsFormRefusal t input one) (one_declared laws.changesets declared some others s o) r) r'

one_normal_answer : Below → OneNormalAnswer
one_normal_answer laws declared input =
    one_hand (SpellNormal declared input) (IsNormalRefusal declared input) (one_form laws declared input) (λ bytes answer s r. no_normal_refusal laws.changesets laws.fit declared input answer (fits declared input bytes s) r) (one_normal_refusal laws declared input)

-- ---- taking together

-- a fault of changesets is want of memory or isn't
are_memory : (fault : CombineFault) → (fault ≡ in_all.Memory) ⊎ (fault ≡ in_all.Memory → ⊥)
are_memory in_all.Memory = inl refl
are_memory (in_all.Headers fault) = inr (λ e. cc)
are_memory (in_all.Unfit fault) = inr (λ e. cc)

one_not_combined : Below → (some others : List (List Group)) (one other : Answer) → some ≡ others → NotCombined some one → NotCombined others other → Same one other
one_not_combined laws some others one other is s o =
    let told = subst (λ (c : List (List Group)). HasCombineFault s.fault c) is s.told in
    elim (are_memory s.fault) [
      | inl m ↦ inl (s.number ∙ ap (λ (f : CombineFault). combine_answer f) m)
      | inr n ↦ elim (are_memory o.fault) [
        | inl m ↦ inr (inl (o.number ∙ ap (λ (f : CombineFault). combine_answer f) m))
        | inr k ↦ same (by_each s.number o.number (ap (λ (f : CombineFault). combine_answer f) (laws.fault others s.fault o.fault told o.told n k)))
      ]
    ]

pub not_both : Below → (some others : List (List Group)) (both : List TableChanges) (answer : Answer) → some ≡ others → IsCombined some both → NotCombined others answer → answer ≡ no_memory
not_both laws some others both answer is combined not =
    not.number
    ∙ ap (λ (f : CombineFault). combine_answer f) (laws.no_fault others both not.fault (subst (λ (c : List (List Group)). IsCombined c both) is combined) not.told)

pub one_together : Below → (some others : List (List Group)) (both all : List TableChanges) → some ≡ others → IsCombined some both → IsCombined others all → both ≡ all
one_together laws some others both all is s o =
    laws.combined others both all (subst (λ (c : List (List Group)). IsCombined c both) is s) o

one_part_refusal : ChangesetLaws → (lengths bytes : List ℕ) (one other : Answer) → IsPartRefusal lengths bytes one → IsPartRefusal lengths bytes other → Same one other
one_part_refusal laws lengths bytes one other (inl m) r = inl m
one_part_refusal laws lengths bytes one other (inr s) (inl m) = inr (inl m)
one_part_refusal laws lengths bytes one other (inr (f, o, told, a)) (inr (g, p, told', b)) =
    same (by_each a b (refused_alike f g o p (one_part_fault laws lengths bytes f g o p told told')))

no_part_refusal : ChangesetLaws → (lengths bytes : List ℕ) (changesets : List (List Group)) (answer : Answer) → ArePartsOf lengths bytes changesets → IsPartRefusal lengths bytes answer → answer ≡ no_memory
no_part_refusal laws lengths bytes changesets answer cut (inl m) = m
no_part_refusal laws lengths bytes changesets answer cut (inr (fault, offset, told, is)) =
    absurd (no_part_fault laws lengths bytes changesets fault offset cut told)

no_combine_refusal : Below → (lengths inputs bytes : List ℕ) (answer : Answer) → SpellCombined lengths inputs bytes → IsCombineRefusal lengths inputs answer → answer ≡ no_memory
no_combine_refusal laws lengths inputs bytes answer s (inl m) = m
no_combine_refusal laws lengths inputs bytes answer s (inr (inl (is, apart))) =
    absurd (apart (cut_adds_up lengths inputs s.changesets s.cut))
no_combine_refusal laws lengths inputs bytes answer s (inr (inr (inl (adds, r)))) =
    no_part_refusal laws.changesets lengths inputs s.changesets answer s.cut r
no_combine_refusal laws lengths inputs bytes answer s (inr (inr (inr (changesets, cut, not)))) =
    not_both laws s.changesets changesets s.both answer (one_cut laws.changesets lengths inputs s.changesets changesets s.cut cut) s.combined not

one_combine_refusal : Below → (lengths inputs : List ℕ) (one other : Answer) → IsCombineRefusal lengths inputs one → IsCombineRefusal lengths inputs other → Same one other
one_combine_refusal laws lengths inputs one other (inl m) r = inl m
one_combine_refusal laws lengths inputs one other (inr s) (inl m) = inr (inl m)
one_combine_refusal laws lengths inputs one other (inr (inl (a, apart))) (inr (inl (b, apart'))) = same (a ∙ sym b)
one_combine_refusal laws lengths inputs one other (inr (inl (a, apart))) (inr (inr (inl (adds, r)))) = absurd (apart adds)
one_combine_refusal laws lengths inputs one other (inr (inl (a, apart))) (inr (inr (inr (changesets, cut, not)))) =
    absurd (apart (cut_adds_up lengths inputs changesets cut))
one_combine_refusal laws lengths inputs one other (inr (inr (inl (adds, r)))) (inr (inl (b, apart))) = absurd (apart adds)
one_combine_refusal laws lengths inputs one other (inr (inr (inl (adds, r)))) (inr (inr (inl (adds', s)))) =
    one_part_refusal laws.changesets lengths inputs one other r s
one_combine_refusal laws lengths inputs one other (inr (inr (inl (adds, r)))) (inr (inr (inr (changesets, cut, not)))) =
    inl (no_part_refusal laws.changesets lengths inputs changesets one cut r)
one_combine_refusal laws lengths inputs one other (inr (inr (inr (changesets, cut, not)))) (inr (inl (b, apart))) =
    absurd (apart (cut_adds_up lengths inputs changesets cut))
one_combine_refusal laws lengths inputs one other (inr (inr (inr (changesets, cut, not)))) (inr (inr (inl (adds, r)))) =
    inr (inl (no_part_refusal laws.changesets lengths inputs changesets other cut r))
one_combine_refusal laws lengths inputs one other (inr (inr (inr (some, cut, not)))) (inr (inr (inr (others, cut', not')))) =
    one_not_combined laws some others one other (one_cut laws.changesets lengths inputs some others cut cut') not not'

one_together_spelled : Below → (lengths inputs bytes more : List ℕ) → SpellCombined lengths inputs bytes → SpellCombined lengths inputs more → bytes ≡ more
one_together_spelled laws lengths inputs bytes more s o =
    let both = one_together laws s.changesets o.changesets s.both o.both (one_cut laws.changesets lengths inputs s.changesets o.changesets s.cut o.cut) s.combined o.combined in
    by_each s.spelled o.spelled (ap (λ (n : List TableChanges). normal_spelling n) both)

one_combined_answer : Below → OneCombinedAnswer
one_combined_answer laws lengths inputs =
    one_hand (SpellCombined lengths inputs) (IsCombineRefusal lengths inputs) (one_together_spelled laws lengths inputs) (no_combine_refusal laws lengths inputs) (one_combine_refusal laws lengths inputs)

-- ---- taking back

pub one_alone : ChangesetLaws → (input : List ℕ) (some others : List Group) → Spell input some → Spell input others → some ∷ [] ≡ others ∷ []
one_alone laws input some others s o = ap (λ (g : List Group). g ∷ []) (one_spelled laws input some others s o)

-- a changeset with a normal form by its own tables is refused for want of memory alone
pub no_alone_refusal : Below → (input : List ℕ) (groups : List Group) (alone : List TableChanges) (answer : Answer) → Spell input groups → IsCombined (groups ∷ []) alone → IsAloneRefusal input answer → answer ≡ no_memory
no_alone_refusal laws input groups alone answer spells combined (inl r) =
    no_refusal laws.changesets input groups answer spells r
no_alone_refusal laws input groups alone answer spells combined (inr (others, spells', not)) =
    not_both laws (groups ∷ []) (others ∷ []) alone answer (one_alone laws.changesets input groups others spells spells') combined not

no_inverse_refusal : Below → (input bytes : List ℕ) (answer : Answer) → SpellInverse input bytes → IsAloneRefusal input answer → answer ≡ no_memory
no_inverse_refusal laws input bytes answer s r =
    no_alone_refusal laws input s.groups s.alone answer s.spells s.combined r

pub one_alone_refusal : Below → (input : List ℕ) (one other : Answer) → IsAloneRefusal input one → IsAloneRefusal input other → Same one other
one_alone_refusal laws input one other (inl r) (inl s) = one_refusal laws.changesets input one other r s
one_alone_refusal laws input one other (inl r) (inr (groups, spells, not)) =
    inl (no_refusal laws.changesets input groups one spells r)
one_alone_refusal laws input one other (inr (groups, spells, not)) (inl r) =
    inr (inl (no_refusal laws.changesets input groups other spells r))
one_alone_refusal laws input one other (inr (some, spells, not)) (inr (others, spells', not')) =
    one_not_combined laws (some ∷ []) (others ∷ []) one other (one_alone laws.changesets input some others spells spells') not not'

one_inverse_spelled : Below → (input bytes more : List ℕ) → SpellInverse input bytes → SpellInverse input more → bytes ≡ more
one_inverse_spelled laws input bytes more s o =
    let alone = one_together laws (s.groups ∷ []) (o.groups ∷ []) s.alone o.alone (one_alone laws.changesets input s.groups o.groups s.spells o.spells) s.combined o.combined in
    by_each s.spelled o.spelled (ap (λ (n : List TableChanges). normal_spelling (inverse_changeset n)) alone)

one_inverse_answer : Below → OneInverseAnswer
one_inverse_answer laws input =
    one_hand (SpellInverse input) (IsAloneRefusal input) (one_inverse_spelled laws input) (no_inverse_refusal laws input) (one_alone_refusal laws input)

pub answer_laws : Below → OneSqliteAnswer → OneRebasedAnswer → AnswerLaws
answer_laws laws for_sqlite rebased = record {
  count = one_count laws;
  copy = one_copy laws;
  normal = one_normal_answer laws;
  for_sqlite = for_sqlite;
  combined = one_combined_answer laws;
  inverse = one_inverse_answer laws;
  rebased = rebased;
}

-- ---- what is owed is told

pub without_content : {one other : Answer} {after last : List ℕ} → UpToMemory one other ((one ≡ other) × (after ≡ last)) → Same one other
without_content (inl m) = inl m
without_content (inr (inl m)) = inr (inl m)
without_content (inr (inr is)) = inr (inr is.0)

pub normal_told : AnswerLaws → (declared input before after : List ℕ) (result answer : Answer) → AnswersNormal declared input before after result → IsNormalRefusal declared input answer → UpToMemory result answer (result ≡ answer)
normal_told laws declared input before after result answer answers owed =
    without_content (laws.normal declared input before after before result answer answers (inr (owed, refl)))

pub combined_told : AnswerLaws → (lengths inputs before after : List ℕ) (result answer : Answer) → AnswersCombined lengths inputs before after result → IsCombineRefusal lengths inputs answer → UpToMemory result answer (result ≡ answer)
combined_told laws lengths inputs before after result answer answers owed =
    without_content (laws.combined lengths inputs before after before result answer answers (inr (owed, refl)))

pub inverse_told : AnswerLaws → (input before after : List ℕ) (result answer : Answer) → AnswersInverse input before after result → IsAloneRefusal input answer → UpToMemory result answer (result ≡ answer)
inverse_told laws input before after result answer answers owed =
    without_content (laws.inverse input before after before result answer answers (inr (owed, refl)))
