-- What the code leaves of the own row is the merge, and may stand there.
use Rattle.std.proofs.Common.{◌≡◌, ℕ, Bool, List, Option, Some, None, refl, sym, ap, subst, ◌∙◌, inl, inr}
use Rattle.std.specs.Prelude.{◌≢◌, Contains}
use Rattle.cs_value.specs.Facts.{some_same}
use Rattle.cs_value.specs.Catalog.{AreTables}
use Rattle.cs_value.specs.Key.{Place, FitsPlace}
use Rattle.cs_value.specs.Laws.{OnePlaceOfName}
use Rattle.cs_value.specs.declared.catalog.TableDef.{TableDef}
use Rattle.cs_value.specs.declared.value.Value.{Value}
use Rattle.cs_change.specs.Action.{Action, action, after}
use Rattle.cs_change.specs.Laws.{NormalIsNet}
use Rattle.cs_change.specs.Net.{net}
use Rattle.cs_change.specs.Normal.{IsNormal}
use Rattle.cs_change.specs.declared.change.Change.{Change}
use Rattle.cs_normal.specs.keyed.Changes.{IsEntry}
use Rattle.cs_normal.specs.keyed.Laws.{BytesTellKeys}
use Rattle.cs_normal.specs.Laws.{SetColumnsFit}
use Rattle.cs_normal.specs.State.{MayStandAt}
use Rattle.cs_conflict.specs.Conflict.{kind, answered, effect_at}
use Rattle.cs_conflict.specs.Laws.{KindTells, MadeAsReplaced}
use Rattle.cs_conflict.specs.Lawful.{covers, IsLawful}
use Rattle.cs_conflict.specs.Wishes.{resolution_of}
use Rattle.cs_conflict.specs.declared.clash.Clash.{Clash}
use Rattle.cs_conflict.specs.declared.kind.Kind.{Kind}
use Rattle.cs_conflict.specs.declared.conflict.Resolution.{Resolution}
use Rattle.cs_conflict.specs.declared.conflict.Resolution.TheVariants.{Omit, Abort}
use Rattle.cs_conflict.specs.declared.wish.Wish.{Wish}
use Rattle.cs_conflict.specs.declared.wish.Wish.TheVariants.{Keep, Take, Stop}
use Rattle.cs_tasks.specs.Tasks.{Task}
use Rattle.cs_rebaser.specs.Diamond.{Diamond, IsLawfulOver, outcome}
use Rattle.cs_rebaser.specs.Merge.{merge}
use Rattle.cs_exchange.specs.taking.Steps.{LeavesOwn}
use Rattle.cs_exchange.specs.taking.Takes.{Asks}
use Rattle.cs_exchange.proofs.TakingLemmas.Local.{action_is}
use Rattle.cs_exchange.proofs.TakingLemmas.Standing.{replaced_stands}

-- what a change leaves of the own row under a lawful answer is the merge
merged_by : Diamond → NormalIsNet → (marks : List Bool) (key : List Value) (answer : Resolution) (log own theirs merged : Place) (change : Action)
    → IsNormal marks key change → FitsPlace marks key log → FitsPlace marks key own
    → after change log ≡ Some theirs
    → IsLawfulOver answer (net marks log own) (Some change) own
    → outcome answer (Some change) own ≡ Some merged
    → merged ≡ merge answer log own theirs
merged_by diamond normal_is_net marks key answer log own theirs merged change normal fb fm made lawful left =
    let n = normal_is_net marks key change log theirs normal fb made in
    let closes = diamond marks key answer log own theirs fb fm n.0 (subst (λ (c : Option Action). IsLawfulOver answer (net marks log own) c own) (sym n.1) lawful) in
    some_same (sym left ∙ ap (λ (c : Option Action). outcome answer c own) (sym n.1) ∙ closes.0)

unasked_lawful : (answer : Resolution) (local : Option Action) (change : Action) (own : Place) → kind change own ≡ None → IsLawfulOver answer local (Some change) own
unasked_lawful answer None change own free = tt
unasked_lawful answer (Some local) change own free = rw free tt

asked_lawful : (answer : Resolution) (local : Option Action) (mine change : Action) (own : Place) (k : Kind) (covered : Bool) → local ≡ Some mine → kind change own ≡ Some k → covered ≡ covers mine change → IsLawful answer k covered → answer ≢ Abort → IsLawfulOver answer local (Some change) own
asked_lawful answer local mine change own k covered is stuck same lawful on =
    subst (λ (l : Option Action). IsLawfulOver answer l (Some change) own) (sym is)
    (rw stuck (subst (λ (c : Bool). IsLawful answer k c) same lawful, on))

not_abort : (wish : Wish) → wish ≢ Stop → resolution_of wish ≢ Abort
not_abort Keep on = λ e. cc
not_abort Take on = λ e. cc
not_abort Stop on = absurd (on refl)

module _ {P : Type 0} (picks : P → Clash → Wish → P → Type 0) (diamond : Diamond) (normal_is_net : NormalIsNet) (task : Task) (key : List Value) (log own theirs merged : Place) (p q : P) where
  pub takes_one : IsNormal task.marks key (action task.change) → FitsPlace task.marks key log → FitsPlace task.marks key own
      → after (action task.change) log ≡ Some theirs → LeavesOwn picks task log own p merged q
      → (wish : Wish) × (wish ≢ Stop) × Asks picks task log own p wish q × (merged ≡ merge (resolution_of wish) log own theirs)
  takes_one normal fb fm made (inl (free, left, same)) = (
    Keep,
    λ e. cc,
    inl (free, same),
    merged_by diamond normal_is_net task.marks key Omit log own theirs merged (action task.change) normal fb fm made
        (unasked_lawful Omit (net task.marks log own) (action task.change) own free)
        (ap (λ k. effect_at k Omit (action task.change) own) free ∙ left),
  )
  takes_one normal fb fm made (inr (wish, on, (clash, is, picked, lawful), left)) = (
    wish,
    on,
    inr (clash, is, picked),
    merged_by diamond normal_is_net task.marks key (resolution_of wish) log own theirs merged (action task.change) normal fb fm made
        (asked_lawful (resolution_of wish) (net task.marks log own) (action clash.local) (action task.change) own clash.conflict.kind clash.covers (action_is (net task.marks log own) clash.local is.of_local) is.of_conflict.of_kind
        (clash.covers_is ∙ ap (λ (c : Change). covers (action clash.local) (action c)) is.of_conflict.of_change) lawful (not_abort wish on))
        (ap (λ k. effect_at k (resolution_of wish) (action task.change) own) is.of_conflict.of_kind ∙ left),
  )

-- ---- it may stand there

module _ (tells : BytesTellKeys) (fit : SetColumnsFit) (one_place : OnePlaceOfName) (made_as : MadeAsReplaced) (kinds : KindTells) (tables : List TableDef) (are : AreTables tables) (table : TableDef) (inside : Contains tables table)
    (key : List ℕ) (change : Change) (entry : IsEntry table.key_marks (key, change)) where
  pub made_stands : (place end : Place) → MayStandAt tables table.name key place → after (action change) place ≡ Some end → MayStandAt tables table.name key end
  made_stands place end stands made =
      replaced_stands tells fit one_place tables are table inside key change place end entry stands
      (sym (made_as (action change) place ((kinds (action change) place).1 (end, made))) ∙ made)

  wish_stands : (wish : Wish) (place end : Place) → MayStandAt tables table.name key place → answered (resolution_of wish) (action change) place ≡ Some end → MayStandAt tables table.name key end
  wish_stands Keep place end stands is = subst (λ (p : Place). MayStandAt tables table.name key p) (some_same is) stands
  wish_stands Take place end stands is = replaced_stands tells fit one_place tables are table inside key change place end entry stands is
  wish_stands Stop place end stands is = absurd (let e = is in cc)

  pub left_own_stands : {P : Type 0} (picks : P → Clash → Wish → P → Type 0) (task : Task) (log own merged : Place) (p q : P) → task.change ≡ change → MayStandAt tables table.name key own → LeavesOwn picks task log own p merged q
      → MayStandAt tables table.name key merged
  left_own_stands picks task log own merged p q same stands (inl (free, left, rest)) =
      made_stands own merged stands (subst (λ (c : Change). after (action c) own ≡ Some merged) same left)
  left_own_stands picks task log own merged p q same stands (inr (wish, on, asked, left)) =
      wish_stands wish own merged stands (subst (λ (c : Change). answered (resolution_of wish) (action c) own ≡ Some merged) same left)
