use Rattle.std.proofs.Common.{◌≡◌, refl, to_z, of_z, to_z-of_z, w64, rules}
use Rattle.cs_sql.proofs.StatementsLemmas.Taking.{taken_more, taken_over}
use Rattle.cs_sql.proofs.statements.reading.Entries.take.Goals as goal

pub returns-in_ok-push : goal.returns-in_ok-push
returns-in_ok-push c =
    let version = c.in_ok-version.version in
    let back : to_z w64 (of_z w64 version) ≡ version = to_z-of_z {w = w64} {z = version} (search rules) in
    let takes = (rw back at c.takes.ensures).0 c.if-takes.true in
    taken_more c.args.self.now _ c.args.row.now version c.in_ok-entry_in.field-0 c.in_ok-push.ensures.items c.in_ok-self.ensures.more refl takes.0 takes.1 c.in_ok-version.ensures.ok.1 c.in_ok-entry_in.ensures

pub returns-else-takes : goal.returns-else-takes
returns-else-takes c =
    let version = c.in_ok-version.version in
    let back : to_z w64 (of_z w64 version) ≡ version = to_z-of_z {w = w64} {z = version} (search rules) in
    taken_over c.args.self.now _ c.args.row.now version c.takes.result refl refl c.if-takes.false (rw back at c.takes.ensures) c.in_ok-version.ensures.ok.1
