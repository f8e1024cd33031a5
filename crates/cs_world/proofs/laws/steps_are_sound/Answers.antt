use Rattle.cs_world.proofs.Keeps.{steps_are_sound}
use Rattle.cs_world.proofs.laws.steps_are_sound.Goals as goal

pub returns : goal.returns
returns c =
    steps_are_sound (record {
      longer = c.longer_log.ensures;
      catalogs = c.catalogs_are_tables.ensures;
      stands = c.stands_longer.ensures;
      others = c.caught_are_others.ensures.grows;
      edit = c.edit_stands.ensures;
      kept = c.steps_stand.ensures.kept;
      flight = c.flight_fits.ensures;
      most = c.most_bytes.ensures;
      last = c.last_number.ensures;
      service = record {
        changesets = c.changesets.ensures;
        form = c.one_normal_form.ensures;
        fit = c.no_fault_where_fit.ensures;
        taken = c.normal_is_taken.ensures;
        again = c.normal_again.ensures;
        request = c.one_request.ensures;
        answer = c.one_told_answer.ensures;
        read = c.told_are_read.ensures;
        appended = c.appended_is_log.ensures;
        longer = c.longer_log.ensures;
        catalogs = c.catalogs_are_tables.ensures;
        caught = c.caught_are_others.ensures.told;
        caught_short = c.caught_are_others.ensures.short;
        origin = c.widen_is_entry.ensures.origin;
        widen_entry = c.widen_is_entry.ensures.entry;
        most = c.most_bytes.ensures;
      };
      answers = record {
        entry = c.steps_stand.ensures.entry;
        kept = c.steps_stand.ensures.kept;
        flight = c.flight_fits.ensures;
        leads = c.pulled_leads.ensures;
        read = c.one_read.ensures;
        taken = c.normal_is_taken.ensures;
        again = c.normal_again.ensures;
        body = c.one_body.ensures;
        catalogs = c.catalogs_are_tables.ensures;
        next = c.catalog_next.ensures;
        rows = c.one_contents.ensures.log_rows;
        lead = c.steps_stand.ensures.lead;
        consolidated = c.consolidated_leads.ensures;
        changesets = c.changesets.ensures.one;
        form = c.one_normal_form.ensures;
      };
    })
