-- A `Seen` as a value, and what two of them say. Assumes `Logic`.
use Rattle.std.proofs.Common.{◌≡◌, ℕ, [], ◌∷◌, refl, ap}
use seplogic.Ra.Ura.{Ura}
use mir.Val.{Val, vstruct, vcons, vnil}
use base.Logic.{SProp, ent, sep, via, fst∗, snd∗}
use types.Logic.{Logic, sem}
use types.Kit.{‵, ◌$◌, ◌∵◌, !, qed, use0, done}
use contract.Monad.{fact, fact_mono, conj_i}
use denote.RattleType.{RattleType}
use denote.Shadow.{makes_shadow}
use denote.Struct.Struct.{Struct}
use denote.Struct.Owning.{shape}
use Rattle.once_cell.specs.Once.{mark}
use Rattle.once_cell.proofs.Moves.{second}
use Rattle.cs_spine.specs.seen.Holds.{held}
use Rattle.cs_spine.specs.contracts.seen.Seen as Seen

abbrev pub token_val : Val
token_val = vstruct (vcons (vstruct vnil) vnil)

pub seen_made : {M : Type 1} {𝓤 : Ura M} (𝓛 : Logic 𝓤) (R : RattleType) (γ : ℕ) (x : R.Denot)
    → ent 𝓤 (sem 𝓛 (held R γ x)) (sem 𝓛 ((Seen.the_row R).own_val (record { marker = record {}; cell = γ; value = x }) (token_val ∷ [])))
seen_made 𝓛 R γ x = let F = (Struct (shape (Seen.the_type R))).own_val (tt, tt) (token_val ∷ []) in
    qed 𝓛 (‵ (held R γ x) ∷ []) ∵ use0 𝓛 (‵ F) (makes_shadow 𝓛 F (λ vss. (tt, ((λ uss. (tt, tt)), tt))) ((vstruct vnil ∷ [], tt), (refl, ((tt, (refl, tt)), tt)))) $ done !

pub one_held : {M : Type 1} {𝓤 : Ura M} (𝓛 : Logic 𝓤) (R : RattleType) (γ : ℕ) (x y : R.Denot)
    → ent 𝓤 (sep 𝓤 (sem 𝓛 (held R γ x)) (sem 𝓛 (held R γ y))) (fact 𝓤 (x ≡ y))
one_held {𝓤 = 𝓤} 𝓛 R γ x y = let P : SProp 𝓤 = 𝓛.A.res γ (mark R γ x) in let Q : SProp 𝓤 = 𝓛.A.res γ (mark R γ y) in
    via 𝓤 _ (via 𝓤 _ (conj_i 𝓤 P Q (fst∗ 𝓤 P Q) (snd∗ 𝓤 P Q)) (𝓛.names.res_one γ (mark R γ x) (mark R γ y))) (fact_mono 𝓤 (mark R γ x ≡ mark R γ y) (x ≡ y) (λ e. R.coded.inj x y (ap second e)))
