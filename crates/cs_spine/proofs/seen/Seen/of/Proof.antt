-- What a note knows, as a `Seen`.
use Rattle.std.proofs.Common.{◌≡◌, ℕ, List, [], ◌∷◌, ◌++◌, refl, sym, subst}
use mir.Syntax.{a_type}
use mir.Val.{Val, vptr}
use mir.MapTy.{inst_fn}
use base.Logic.{SProp, ent, emp, id⊢, apply∗, all, all_e}
use base.Fml.{Lft, Share, Fml, ftrue, fsep, flft}
use prog.Wp.{WpFn}
use types.Logic.{sem}
use types.Kit.{‵, raw, ◌⊛◌, later, ◌$◌, ◌∵◌, !, qed, by, move, keep, split, join, fsplit, fjoin, suffices, use0, use1, use2, await, rewrite, feq_i}
use types.Run.{no_more, and_then, returns, enter}
use types.ByLocal.{alloc_all, pass_all, free_all, look_at, get, sets}
use types.Part.{agg}
use contract.Monad.{fact, fact_i}
use contract.Running.{tables}
use denote.RattleType.{RattleType, owns}
use denote.Signature.{types_at, type_at, plain}
use denote.Steps.{nothing, heard}
use contract.BorrowLft.{◌⊑◌}
use denote.Param.{param, layouts}
use denote.Param.Laws.{param_laws}
use denote.Triple.Walked.{Stays, walk_of, stay_ref, Goes-ref}
use Rattle.once_cell.specs.Once.{noted}
use Rattle.std.proofs.raw_atomic.Walks.{proved_at, leaves}
use Rattle.once_cell.proofs.Notes as notes
use Rattle.once_cell.proofs.Notes.{Note}
use Rattle.std.specs.Prelude.{Option, Some, None, IsSome}
use Rattle.cs_spine.specs.contracts.seen.Seen as Seen
use Rattle.cs_spine.proofs.SeenLemmas.Made.{token_val, seen_made}
use Rattle.cs_spine.specs.contracts.seen.Seen.of.{ended, clauses}
use Rattle.cs_spine.specs.contracts.seen.Seen.of.Key.{name as #self}
use Rattle.cs_spine.proofs.seen.Seen.of.Statement.{statement}
use Rattle.cs_spine.proofs.seen.Seen.of.Code as code

value_in : {X : Type 0} (o : Option X) → IsSome o → (x : X) × (o ≡ Some x)
value_in None some = absurd (cc)
value_in (Some x) some = (x, refl)

pub of_spec : {M : Type 1} → statement M
of_spec 𝓤 𝓛 𝓜 𝓡 wired T L =
    let H = 𝓛.H in let 𝓣 = tables 𝓤 H 𝓜 𝓡 𝓡.env in let R : RattleType = param 0 T in let LR = param_laws 0 T L in let En = ended T in let c = clauses T 𝓛 𝓜.mem 𝓡.returns in
    let inst = layouts (a_type ∷ []) (T, tt) in let fn = inst_fn inst code.function in
    let hs : Stays En.signature.params En.kept = (stay_ref (0 ∷ []) tt (plain (λ _. Note 𝓛 R)), tt) in
    proved_at 𝓛 En hs c 𝓜 𝓡 (Goes-ref 𝓛 2 0 tt (plain (λ _. Note 𝓛 R)), tt) (#self inst) fn (code.unfolded 𝓤 H 𝓜 𝓡 wired (T, tt)) (λ z are.
    let κs = z.0.0 in let qs = z.0.1 in let Post : Val → SProp 𝓤 = (walk_of 𝓛 En hs c).post z in let Run : List Val → SProp 𝓤 = λ ws. WpFn 𝓤 H 𝓣.C 𝓣.Λ fn ws Post in let Out : RattleType = type_at En.signature.result κs in
    let κ' : Lft = κs.0 in let q' : Share = qs.0 in let m = z.0.3.0 in let nb₀ : ℕ = m.ref_ptr.0 in let no₀ : ℕ = m.ref_ptr.1 in let ν₀ : ℕ = m.ghost_name in let n = m.now in let γ : ℕ = n.cell in
    let Shuts = notes.Shuts 𝓛 R κ' q' nb₀ no₀ ν₀ in let N : Fml = noted R γ n.known in let S : RattleType = Seen.the_row R in
    qed 𝓛 (((‵ (flft κ' q') ⊛ ‵ (fsep (flft κs.1.0 qs.1.0) ftrue)) ⊛ ‵ (owns (types_at En.signature.params κs) z.0.3 z.0.4)) ∷ raw (fact 𝓤 (κs.1.0 ⊑ T.lives)) ∷ raw (fact 𝓤 (IsSome n.known)) ∷ []) ∵
    move ! (2 ∷ []) $ heard ! (IsSome n.known) (λ some. let has = value_in n.known some in let x : T.Denot = has.0 in let r : S.Denot = record { marker = record {}; cell = γ; value = x } in let Told : Type 0 = (γ ≡ γ) × (n.known ≡ Some x) × (n ≡ n) in
    split ! $ split ! $ move ! (2 ∷ []) $ fsplit ! $ fsplit ! $ keep ! (1 ∷ 3 ∷ 4 ∷ []) $
    suffices ! (Run (vptr nb₀ no₀ ∷ [])) (subst (λ (us : List Val). ent 𝓤 (Run (vptr nb₀ no₀ ∷ [])) (Run us)) (sym (λ i. are.0.0 i ++ [])) (id⊢ 𝓤 (Run (vptr nb₀ no₀ ∷ [])))) $
    enter ! 𝓣.C 𝓣.Λ fn (vptr nb₀ no₀ ∷ []) Post $ alloc_all ! (λ l. pass_all ! refl ((tt, tt), tt) $
    use2 𝓛 (later (‵ N ⊛ raw (all 𝓤 Shuts))) (notes.note_opens 𝓛 R κ' q' nb₀ no₀ ν₀ n) $ await ! tt $ split ! $ use1 𝓛 (‵ N ⊛ ‵ N) (notes.noted_twice 𝓛 R γ n.known) $ split ! $ move ! (2 ∷ []) $ use1 𝓛 (raw (Shuts n)) (all_e 𝓤 Shuts n) $ move ! (1 ∷ 0 ∷ []) $ use2 𝓛 (later (‵ (notes.lent 𝓛 R κ' q' nb₀ no₀ ν₀ n) ⊛ ‵ (flft κ' q'))) (apply∗ 𝓤 (sem 𝓛 (noted R γ n.known)) _) $ await ! tt $ split ! $
    feq_i ! (List Val) z.0.4.0 (vptr nb₀ no₀ ∷ []) are.0.0 $ fjoin ! $
    nothing ! $ move ! (1 ∷ 0 ∷ []) $ fjoin ! $ move ! (2 ∷ []) $ sets ! (agg ! (no_more !)) refl (tt, tt) $ sets ! (agg ! (and_then ! (get ! refl) (no_more !))) refl (tt, (tt, tt)) $ rewrite ! 0 (λ (k : Option T.Denot). ‵ (noted R γ k)) has.1 refl $ use1 𝓛 (‵ (S.own_val r (token_val ∷ []))) (seen_made 𝓛 R γ x) $ move ! (2 ∷ 3 ∷ []) $ join ! $ use0 𝓛 (raw (fact 𝓤 Told)) (fact_i 𝓤 Told (emp 𝓤) (refl, has.1, refl)) $
    returns ! (look_at ! 0 refl) $ free_all ! refl $ keep ! (1 ∷ 3 ∷ 2 ∷ 0 ∷ []) $ by ! (leaves 𝓛 En hs c z token_val r (n, tt) (tt, tt)))))
