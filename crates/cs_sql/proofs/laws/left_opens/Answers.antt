use Rattle.std.proofs.Common.{inr, sym, subst}
use Rattle.cs_sql.specs.schema.Schemas.{store_over}
use Rattle.cs_sql.specs.declared.statements.looking.Found.TheVariants.{Ours}
use Rattle.cs_sql.specs.Laws.{OpensAs}
use Rattle.cs_sql.proofs.OneSchema.{shows_store}
use Rattle.cs_sql.proofs.laws.left_opens.Goals as goal

pub returns : goal.returns
returns g c clean left it db sound shown =
    let opens = c.leaves_store.ensures clean it.0 it.1 in
    let same = shows_store it.0 db opens.kept.sound sound shown in
    subst (OpensAs left) (sym same) (record {
      log = opens.log;
      found = (opens.kept.kept, opens.log_is);
      alone = λ other found. c.one_is_found.ensures.one (store_over it.0) other (Ours opens.log) found (opens.kept.kept, opens.log_is);
      held = inr (inr (opens.log, (opens.kept.kept, opens.log_is), it.2));
      only = λ other held. c.one_is_held.ensures (store_over it.0) other left held (inr (inr (opens.log, (opens.kept.kept, opens.log_is), it.2)));
    })
