use Rattle.cs_group.specs.Combined.{IsCombinedSpelling}
use Rattle.cs_group.specs.Steps.Reading.{IsReadJoinOf}
use Rattle.cs_group.specs.Steps.TableByTable.{SpellTables}
use Rattle.cs_group.proofs.Outcomes.{found_weaker}
use Rattle.cs_group.proofs.ReadJoins.{read_combined}
use Rattle.cs_group.proofs.combining.spell_at_once.Goals as goal

pub returns : goal.returns
returns c =
    let changesets = c.args.changesets.now in
    let tables = c.args.catalog.now in
    let made = rw c.tables.ensures.same at c.spell_read_tables.ensures in
    found_weaker c.spell_read_tables.result (SpellTables (IsReadJoinOf changesets) tables) (IsCombinedSpelling changesets) (λ bytes spelled. record {
      both = spelled.made;
      combined = read_combined c.form_laws.ensures changesets tables spelled.made c.requires.tables c.requires.shapes c.tables.ensures.tables c.requires.fits spelled.holds;
      spelled = spelled.spelled;
    }) made
