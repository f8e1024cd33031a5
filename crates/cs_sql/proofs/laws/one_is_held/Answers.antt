use Rattle.std.proofs.Common.{◌≡◌, inl, inr, sym, ◌∙◌}
use Rattle.sqlite.specs.Effect.{Database}
use Rattle.cs_store.specs.Contents.{Contents}
use Rattle.cs_sql.specs.schema.Judged.{OneJudgement}
use Rattle.cs_sql.specs.declared.schema.judging.Judged.TheVariants.{Fresh, Ours, Front}
use Rattle.cs_sql.specs.Keeping.{IsHeldIn}
use Rattle.cs_sql.proofs.laws.one_is_held.Goals as goal

module _ (one : OneJudgement) where
  held : (db : Database) (some other : Contents) → IsHeldIn db some → IsHeldIn db other → some ≡ other
  held db some other (inl a) (inl b) = a.1 ∙ sym b.1
  held db some other (inl a) (inr (inl b)) = absurd (let e : Fresh ≡ Front = one db.schema Fresh Front a.0 b.1.0 in cc)
  held db some other (inl a) (inr (inr b)) = absurd (let e : Fresh ≡ Ours = one db.schema Fresh Ours a.0 b.1.0.schema in cc)
  held db some other (inr (inl a)) (inl b) = absurd (let e : Front ≡ Fresh = one db.schema Front Fresh a.1.0 b.0 in cc)
  held db some other (inr (inl a)) (inr (inl b)) = a.2 ∙ sym b.2
  held db some other (inr (inl a)) (inr (inr b)) = absurd (let e : Front ≡ Ours = one db.schema Front Ours a.1.0 b.1.0.schema in cc)
  held db some other (inr (inr a)) (inl b) = absurd (let e : Ours ≡ Fresh = one db.schema Ours Fresh a.1.0.schema b.0 in cc)
  held db some other (inr (inr a)) (inr (inl b)) = absurd (let e : Ours ≡ Front = one db.schema Ours Front a.1.0.schema b.1.0 in cc)
  held db some other (inr (inr a)) (inr (inr b)) = a.2 ∙ sym b.2

pub returns : goal.returns
returns c = held c.judgements.ensures.one
