use Rattle.cs_world.proofs.Merging.{Below, catches_merge, pulls_merge}
use Rattle.cs_world.proofs.laws.pulls_merge.Goals as goal

pub returns : goal.returns
returns c =
    let laws : Below = record {
      answers = record {
        entry = c.steps_stand.ensures.entry;
        kept = c.steps_stand.ensures.kept;
        flight = c.flight_fits.ensures;
        leads = c.pulled_leads.ensures;
        read = c.one_read.ensures;
        taken = c.normal_is_taken.ensures;
        again = c.normal_again.ensures;
        body = c.one_body.ensures;
        catalogs = c.catalogs_are_tables.ensures;
        next = c.catalog_next.ensures;
        rows = c.one_contents.ensures.log_rows;
        lead = c.steps_stand.ensures.lead;
        consolidated = c.consolidated_leads.ensures;
        changesets = c.changesets.ensures.one;
        form = c.one_normal_form.ensures;
      };
      view = c.one_view.ensures.one;
      side = c.merge_alike.ensures.one_side;
    } in
    record { each = pulls_merge laws; together = catches_merge laws }
