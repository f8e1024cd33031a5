use Rattle.std.proofs.Common.{◌≡◌, [], inl, inr, refl, sym, ap, subst, ◌∙◌}
use Rattle.std.proofs.Math.Logic.{∥∥₁_elim}
use Rattle.sqlite.specs.Effect.{Database}
use Rattle.sqlite.specs.Schema.{Schema}
use Rattle.sqlite_trees.specs.Props.{Trees-set}
use Rattle.cs_store.specs.Contents.{Contents}
use Rattle.cs_sql.specs.Keeping.{IsHeldIn}
use Rattle.cs_sql.proofs.OneSchema.{shows_same}
use Rattle.cs_sql.proofs.laws.one_is_opened.Goals as goal

bare : (db : Database) (held : Contents) → IsHeldIn db held → db.schema.views ≡ []
bare db held (inl fresh) = ap (λ (s : Schema). s.views) fresh.0
bare db held (inr (inl front)) = ap (λ (s : Schema). s.views) front.1.0
bare db held (inr (inr ours)) = ap (λ (s : Schema). s.views) ours.1.0.schema

pub returns : goal.returns
returns c image trees some other holds a b =
    let first : a.0.trees ≡ trees = ∥∥₁_elim holds (Trees-set _ _) (a.1.holds trees) in
    let second : b.0.trees ≡ trees = ∥∥₁_elim holds (Trees-set _ _) (b.1.holds trees) in
    let same : b.0 ≡ a.0 = shows_same a.0 b.0 (bare a.0 some a.2) a.1.sound b.1.sound (second ∙ sym first) in
    c.one_is_held.ensures a.0 some other a.2 (subst (λ (db : Database). IsHeldIn db other) same b.2)
