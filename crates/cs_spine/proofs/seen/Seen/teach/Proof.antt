-- What a `Seen` says, in a note.
use Rattle.std.proofs.Common.{◌≡◌, ℕ, List, [], ◌∷◌, ◌++◌, refl, sym, subst}
use mir.Syntax.{a_type}
use mir.Val.{Val, vunit, vptr}
use mir.MapTy.{inst_fn}
use base.Logic.{SProp, ent, emp, id⊢, apply∗, all, all_e}
use base.Fml.{Lft, Share, Fml, ftrue, flft}
use prog.Wp.{WpFn}
use types.Logic.{sem}
use types.Kit.{‵, raw, ◌⊛◌, later, ◌$◌, ◌∵◌, !, qed, by, move, keep, drop, split, split3, join, fsplit, fsplit3, fjoin, suffices, use0, use1, use2, await, feq_i}
use types.Run.{unit_lit, of_opd, returns, enter}
use types.ByLocal.{alloc_all, pass_all, free_all, look_at, sets}
use contract.Monad.{fact, fact_i}
use contract.Running.{tables}
use denote.Exit.{yes}
use denote.RattleType.{RattleType, owns}
use denote.Signature.{types_at, plain}
use denote.Steps.{nothing, heard}
use denote.Opens.{unhide}
use contract.BorrowLft.{◌⊑◌}
use denote.Param.{param, layouts}
use denote.Builtin.{RefOf}
use denote.Triple.Walked.{Stays, stay_dropped, walk_of, stay_ref, Goes-dropped, Goes-ref}
use Rattle.once_cell.specs.Once.{noted}
use Rattle.std.proofs.raw_atomic.Walks.{proved_at, leaves}
use Rattle.once_cell.proofs.Notes as notes
use Rattle.once_cell.proofs.Notes.{Note}
use Rattle.std.specs.Prelude.{Some}
use Rattle.cs_spine.specs.contracts.seen.Seen as Seen
use Rattle.cs_spine.specs.contracts.seen.Seen.teach.{ended, clauses}
use Rattle.cs_spine.specs.contracts.seen.Seen.teach.Key.{name as #self}
use Rattle.cs_spine.proofs.seen.Seen.teach.Statement.{statement}
use Rattle.cs_spine.proofs.seen.Seen.teach.Code as code

pub teach_spec : {M : Type 1} → statement M
teach_spec 𝓤 𝓛 𝓜 𝓡 wired T L =
    let H = 𝓛.H in let 𝓣 = tables 𝓤 H 𝓜 𝓡 𝓡.env in let R : RattleType = param 0 T in let En = ended T in let S : RattleType = Seen.the_row R in let c = clauses T 𝓛 𝓜.mem 𝓡.returns in
    let inst = layouts (a_type ∷ []) (T, tt) in let fn = inst_fn inst code.function in let self = RefOf (0 ∷ []) tt (plain (λ _. S)) (λ _. tt) in
    let hs : Stays En.signature.params En.kept = (stay_dropped self yes, (stay_ref (1 ∷ []) tt (plain (λ _. Note 𝓛 R)), tt)) in
    proved_at 𝓛 En hs c 𝓜 𝓡 (Goes-dropped 𝓛 3 self yes (λ κs x f. refl), (Goes-ref 𝓛 3 1 tt (plain (λ _. Note 𝓛 R)), tt)) (#self inst) fn (code.unfolded 𝓤 H 𝓜 𝓡 wired (T, tt)) (λ z are.
    let κs = z.0.0 in let qs = z.0.1 in let Post : Val → SProp 𝓤 = (walk_of 𝓛 En hs c).post z in let Run : List Val → SProp 𝓤 = λ ws. WpFn 𝓤 H 𝓣.C 𝓣.Λ fn ws Post in
    let b : ℕ = z.0.3.0.ref_ptr.0 in let o : ℕ = z.0.3.0.ref_ptr.1 in let γ : ℕ = z.0.3.0.now.cell in let x : T.Denot = z.0.3.0.now.value in let κ : Lft = κs.0 in let q : Share = qs.0 in let μ : Lft = κs.1.1.0 in let r : Share = qs.1.1.0 in
    let κ' : Lft = κs.1.0 in let q' : Share = qs.1.0 in let m = z.0.3.1.0 in let nb₀ : ℕ = m.ref_ptr.0 in let no₀ : ℕ = m.ref_ptr.1 in let ν₀ : ℕ = m.ghost_name in
    let Shuts = notes.Shuts 𝓛 R κ' q' nb₀ no₀ ν₀ in let N : Fml = noted R m.now.cell m.now.known in let n : (Note 𝓛 R).Denot = record { marker = m.now.marker; cell = γ; known = Some x } in
    let Told : Type 0 = (γ ≡ m.now.cell) × (n.known ≡ Some x) in
    qed 𝓛 (((‵ (flft κ q) ⊛ ‵ (flft κ' q') ⊛ ‵ (flft μ r) ⊛ ‵ ftrue) ⊛ ‵ (owns (types_at En.signature.params κs) z.0.3 z.0.4)) ∷ raw (fact 𝓤 (μ ⊑ T.lives)) ∷ raw (fact 𝓤 (m.now.cell ≡ γ)) ∷ []) ∵
    move ! (2 ∷ []) $ heard ! (m.now.cell ≡ γ) (λ same. keep ! (0 ∷ []) $ split ! $ split3 ! $ move ! (2 ∷ []) $ split ! $ move ! (4 ∷ []) $ fsplit3 ! $ move ! (1 ∷ []) $ fsplit ! $ keep ! (1 ∷ 2 ∷ 6 ∷ 7 ∷ 4 ∷ []) $
    suffices ! (Run (vptr b o ∷ vptr nb₀ no₀ ∷ [])) (subst (λ (us : List Val). ent 𝓤 (Run (vptr b o ∷ vptr nb₀ no₀ ∷ [])) (Run us)) (sym (λ i. are.0.0 i ++ (are.1.0.0 i ++ []))) (id⊢ 𝓤 (Run (vptr b o ∷ vptr nb₀ no₀ ∷ [])))) $
    enter ! 𝓣.C 𝓣.Λ fn (vptr b o ∷ vptr nb₀ no₀ ∷ []) Post $ alloc_all ! (λ l. pass_all ! refl ((tt, tt), ((tt, tt), tt)) $
    move ! (0 ∷ 3 ∷ []) $ use2 𝓛 (later (‵ N ⊛ raw (all 𝓤 Shuts))) (notes.note_opens 𝓛 R κ' q' nb₀ no₀ ν₀ m.now) $ await ! tt $ split ! $ drop ! $
    -- [the way to shut the note; what the `&` holds; its token; the token of the type]
    move ! (1 ∷ []) $ fsplit ! $ drop ! $ unhide ! $ fsplit ! $ drop ! $ move ! (1 ∷ []) $ use1 𝓛 (raw (Shuts n)) (all_e 𝓤 Shuts n) $ move ! (1 ∷ 0 ∷ []) $
    use2 𝓛 (later (‵ (notes.lent 𝓛 R κ' q' nb₀ no₀ ν₀ n) ⊛ ‵ (flft κ' q'))) (apply∗ 𝓤 (sem 𝓛 (noted R n.cell n.known)) _) $ await ! tt $ split ! $
    feq_i ! (List Val) z.0.4.1.0 (vptr nb₀ no₀ ∷ []) are.1.0.0 $ fjoin ! $
    -- [the note; its token; the token of `&self`; the token of the type]
    nothing ! $ move ! (1 ∷ 0 ∷ []) $ fjoin ! $ nothing ! $ fjoin ! $ move ! (3 ∷ []) $ nothing ! $ move ! (1 ∷ 0 ∷ []) $ join ! $ move ! (2 ∷ 0 ∷ []) $ join ! $ move ! (2 ∷ 0 ∷ []) $ join ! $
    sets ! (of_opd ! (unit_lit !)) refl (tt, tt) $ feq_i ! (List Val) (vunit ∷ []) (vunit ∷ []) refl $ use0 𝓛 (raw (fact 𝓤 Told)) (fact_i 𝓤 Told (emp 𝓤) (sym same, refl)) $
    returns ! (look_at ! 0 refl) $ free_all ! refl $ keep ! (2 ∷ 3 ∷ 1 ∷ 0 ∷ []) $ by ! (leaves 𝓛 En hs c z vunit tt (tt, (n, tt)) (tt, (tt, tt))))))
