use Rattle.std.specs.Prelude.{◌↔◌}
use Rattle.std.proofs.Common.{◌≡◌, Bool, true, false, IsTrue, refl, sym, ◌∙◌}
use Rattle.sqlite.specs.Effect.{Database}
use Rattle.cs_store.specs.Contents.{Contents}
use Rattle.cs_sql.specs.schema.Judged.{OneJudgement}
use Rattle.cs_sql.specs.declared.schema.judging.Judged.TheVariants as judged
use Rattle.cs_sql.specs.statements.Found.{IsFound, IsLogOf}
use Rattle.cs_sql.specs.declared.statements.counting.LogFound.{LogFound}
use Rattle.cs_sql.specs.declared.statements.looking.Found.{Found}
use Rattle.cs_sql.specs.declared.statements.looking.Found.TheVariants.{Fresh, Front, Ours, Foreign}
use Rattle.cs_sql.proofs.laws.one_is_found.Goals as goal

same_truth : (P : Type 0) (a b : Bool) → IsTrue a ↔ P → IsTrue b ↔ P → a ≡ b
same_truth P true true p q = refl
same_truth P true false p q = absurd (let t : false ≡ true = q.1 (p.0 refl) in cc)
same_truth P false true p q = absurd (let t : false ≡ true = p.1 (q.0 refl) in cc)
same_truth P false false p q = refl

-- what is so of a log is one thing
one_log : (contents : Contents) (some other : LogFound) → IsLogOf contents some → IsLogOf contents other → some ≡ other
one_log contents some other a b =
    let entries = a.counted ∙ sym b.counted in let whole = same_truth _ some.is_whole other.is_whole a.whole b.whole in λ i. record { entries = entries i; is_whole = whole i }

module _ (one : OneJudgement) where
  found : (db : Database) (some other : Found) → IsFound some db → IsFound other db → some ≡ other
  found db Fresh Fresh a b = refl
  found db Fresh (Front log) a b = absurd (let e : judged.Fresh ≡ judged.Front = one db.schema judged.Fresh judged.Front a b.0 in cc)
  found db Fresh (Ours log) a b = absurd (let e : judged.Fresh ≡ judged.Ours = one db.schema judged.Fresh judged.Ours a b.0.schema in cc)
  found db Fresh Foreign a b = absurd (b.0 a)
  found db (Front log) Fresh a b = absurd (let e : judged.Front ≡ judged.Fresh = one db.schema judged.Front judged.Fresh a.0 b in cc)
  found db (Front log) (Front next) a b = let same = one_log _ log next a.2 b.2 in λ i. Front (same i)
  found db (Front log) (Ours next) a b = absurd (let e : judged.Front ≡ judged.Ours = one db.schema judged.Front judged.Ours a.0 b.0.schema in cc)
  found db (Front log) Foreign a b = absurd (b.1 log a)
  found db (Ours log) Fresh a b = absurd (let e : judged.Ours ≡ judged.Fresh = one db.schema judged.Ours judged.Fresh a.0.schema b in cc)
  found db (Ours log) (Front next) a b = absurd (let e : judged.Ours ≡ judged.Front = one db.schema judged.Ours judged.Front a.0.schema b.0 in cc)
  found db (Ours log) (Ours next) a b = let same = one_log _ log next a.1 b.1 in λ i. Ours (same i)
  found db (Ours log) Foreign a b = absurd (b.2 log a)
  found db Foreign Fresh a b = absurd (a.0 b)
  found db Foreign (Front log) a b = absurd (a.1 log b)
  found db Foreign (Ours log) a b = absurd (a.2 log b)
  found db Foreign Foreign a b = refl

pub returns-clause-one : goal.returns-clause-one
returns-clause-one c = found c.judgements.ensures.one

pub returns-clause-some : goal.returns-clause-some
returns-clause-some c db none = none Foreign (none Fresh, λ log. none (Front log), λ log. none (Ours log))
