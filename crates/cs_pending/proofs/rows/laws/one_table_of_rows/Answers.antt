use Rattle.std.proofs.Common.{sym, ◌∙◌}
use Rattle.std.specs.FinMap.Entries.{same_entries}
use Rattle.std.proofs.lemmas.Cmp.{nat_list_cmp_total}
use Rattle.std.proofs.lemmas.Map.Lookups.{exact_bytes}
use Rattle.cs_order.specs.Order.{by_bytes}
use Rattle.cs_pending.proofs.rows.laws.one_table_of_rows.Goals as goal

pub returns : goal.returns
returns c = λ held some others a b.
    same_entries by_bytes nat_list_cmp_total exact_bytes some others a.rises b.rises (λ key. a.found key ∙ sym (b.found key))
