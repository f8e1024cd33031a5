-- The calls of taking an entry put together.
use Rattle.std.proofs.Common.{◌≡◌, ℕ, sym, subst}
use Rattle.std.specs.FinMap.{len}
use Rattle.cs_value.specs.declared.catalog.TableDef.{TableDef}
use Rattle.std.specs.Prelude.{List}
use Rattle.cs_normal.specs.declared.normal.TableChanges.{TableChanges}
use Rattle.cs_store.specs.Contents.{Contents}
use Rattle.cs_conflict.specs.declared.clash.Clash.{Clash}
use Rattle.cs_conflict.specs.declared.wish.Wish.{Wish}
use Rattle.cs_pending.specs.Settling.{Settles}
use Rattle.cs_pending.specs.Shows.{ShowsRows}
use Rattle.cs_pending.specs.View.{View}
use Rattle.cs_pending.specs.declared.settling.Settling.{Settling}
use Rattle.cs_pending.specs.position.Shows.{IsUnderWay, ShowsAt, ShowsSomeAt}
use Rattle.cs_pending.specs.declared.position.position.Position.{Position}
use Rattle.cs_exchange.specs.taking.Steps.{IsCommitted}
use Rattle.cs_exchange.specs.taking.Takes.{IsTaken, IsTakenTo}

module _ {P : Type 0} (picks : P → Clash → Wish → P → Type 0) (tables : List TableDef) (position : Position) (next : ℕ) (changes : List TableChanges) (p q : P) (old mid left : Contents) (settling : Settling)
    (same : mid ≡ old)
    (gathered : (seen : View) → ShowsRows tables old seen → IsUnderWay tables position.flight seen → (end : View) × Settles tables old position.pending settling end × IsTaken picks tables position.flight changes seen end p q)
    (committed : IsCommitted tables position next settling mid left) where
  -- edits that were gathered and committed take the entry
  pub taken_in : IsTakenTo picks tables position next changes p q old left
  taken_in before shows =
      let end = gathered before shows.rows shows.under_way in
      let done = committed before end.0 (subst (λ (c : Contents). ShowsAt tables c position before) (sym same) shows) (subst (λ (c : Contents). Settles tables c position.pending settling end.0) (sym same) end.1) in
      (end.0, done.0, end.2)

  pub taken_count : ShowsSomeAt tables position old → settling.count ≡ len left.pending
  taken_count (before, shows) =
      let end = gathered before shows.rows shows.under_way in
      (committed before end.0 (subst (λ (c : Contents). ShowsAt tables c position before) (sym same) shows) (subst (λ (c : Contents). Settles tables c position.pending settling end.0) (sym same) end.1)).1
