use Rattle.std.proofs.Common.{refl}
use Rattle.std.specs.Prelude.{string_bytes}
use Rattle.cs_script.proofs.DumpLemmas.{on_ok, puts_replica}
use Rattle.cs_script.proofs.dumping.push_replica.Goals as goal

pub returns-clause-put : goal.returns-clause-put
returns-clause-put c = on_ok c.push_tables.result _ _ (λ given standing member stood is same.
    let place = c.place_of-place.ensures in
    puts_replica c.args.catalog.now c.args.replica c.place_of-place.result.version c.place_of-place.result.pending c.place_of-place.result.flight member
    (string_bytes c.args.text.now) (string_bytes c.push_place.new.text) (string_bytes c.push_tables.new.text)
    (place.version standing member stood is) (place.pending standing member stood is) (place.flight standing member stood is)
    c.in_ok-push_place.ensures (given standing member.view.tables stood (member, is, refl) same)) c.push_tables.ensures.put
