-- A `&` to a `Seen` holds what it says, which can be had twice. Assumes `Logic`.
use mathlib.Core.List.{[], ◌∷◌}
use seplogic.Ra.Ura.{Ura}
use base.Logic.{ent, sep, wand, snd∗, apply∗}
use base.Fml.{Lft, Fml, fbor}
use base.Before.{before}
use types.Logic.{Logic, sem, lfts}
use types.Kit.{‵, raw, ◌⊛◌, later, ◌$◌, ◌∵◌, !, qed, move, drop, use1, use2, split, await, updating, now, done}
use denote.RattleType.{RattleType}
use denote.Sharing.{said}
use denote.Param.Laws.{Laws}
use denote.Param.Shared.{copy_shared}
use denote.Struct.Laws.{field_copy}
use denote.Struct.Lending.{Lends, of_Lends}
use Rattle.once_cell.specs.Once.{mark}
use Rattle.cs_spine.specs.seen.Holds.{held}
use Rattle.std.specs.contracts.marker.PhantomData as P
use Rattle.cs_spine.specs.contracts.seen.Seen as C
use Rattle.cs_spine.proofs.seen.Seen.TheLaw.Statement.{statement}

lends_twice : {M : Type 1} {𝓤 : Ura M} (𝓛 : Logic 𝓤) (P : Fml) → ent 𝓤 (sem 𝓛 P) (sep 𝓤 (sem 𝓛 P) (sem 𝓛 P)) → (l : Lft) → Lends 𝓛 P (said P) l
lends_twice {𝓤 = 𝓤} 𝓛 P twice l κ ts inc sp = let Back = 𝓛.H.⇛ (sep 𝓤 (𝓛.A.bor κ P) (lfts 𝓛 ts)) in
    qed 𝓛 (‵ (fbor κ P) ∷ raw (lfts 𝓛 ts) ∷ []) ∵ updating ! $ use2 𝓛 (later (‵ P ⊛ raw (wand 𝓤 (sem 𝓛 P) Back))) (𝓛.more.bor_acc_by κ ts P sp) $ await ! tt $ split ! $ use1 𝓛 (‵ P ⊛ ‵ P) twice $ split ! $ move ! (0 ∷ 2 ∷ []) $
    use2 𝓛 (later (‵ (fbor κ P) ⊛ raw (lfts 𝓛 ts))) (apply∗ 𝓤 (sem 𝓛 P) Back) $ await ! tt $ split ! $ drop ! $ move ! (1 ∷ 0 ∷ []) $ now ! $ done !

pub shares : (T : RattleType) (L : Laws T) → statement T L
shares T L = of_Lends (C.struct T) (C.the_codes T.Denot T.coded (P.the_row T).coded) (C.the_heap T) (C.the_lent T)
    (λ d p. record { contraction = λ M 𝓤 𝓛 κ. 𝓛.names.res_dup d.cell (mark T d.cell d.value); mono = λ M 𝓤 𝓛 κ' κ. snd∗ 𝓤 (sem 𝓛 (before κ' κ)) (sem 𝓛 (held T d.cell d.value)) })
    (copy_shared (P.the_field T) (field_copy (P.the_type T) tt), tt)
    (λ M 𝓤 𝓛 d p. lends_twice 𝓛 (held T d.cell d.value) (𝓛.names.res_dup d.cell (mark T d.cell d.value)) (C.the_row T).lives)
