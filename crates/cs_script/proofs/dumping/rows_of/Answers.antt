use Rattle.std.proofs.Common.{subst}
use Rattle.cs_script.specs.Turns.{IsStateOf}
use Rattle.cs_script.proofs.WorldLemmas.{all_honest, newest_rows, replica_rows}
use Rattle.cs_script.proofs.dumping.rows_of.Goals as goal

pub returns-in-Ok-clause-listed : goal.returns-in-Ok-clause-listed
returns-in-Ok-clause-listed c standing state stands of def there =
    let own = subst (λ whose. IsStateOf standing whose state) c.in-Some.is of in
    let rows = rw c.in-Ok.is at (c.rows.ensures.listed (all_honest c.rows.new.self) standing stands own.0 own.1) in
    replica_rows standing own.0 c.in-Some.replica state c.args.table c.in-Ok.rows.items stands.1 own.1 own.2 rows def there

pub returns-in-Ok-hub_rows-clause-listed : goal.returns-in-Ok-hub_rows-clause-listed
returns-in-Ok-hub_rows-clause-listed c standing state stands of def there =
    let own = subst (λ whose. IsStateOf standing whose state) c.in-None.is of in
    let rows = rw c.in-Ok-hub_rows.is at (c.hub_rows.ensures.listed (all_honest c.hub_rows.new.self) standing stands) in
    newest_rows standing state c.args.table c.in-Ok-hub_rows.rows.items own rows def there
