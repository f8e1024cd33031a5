use Rattle.cs_world.proofs.Keeps.{answers_fit}
use Rattle.cs_world.proofs.laws.answers_fit.Goals as goal

pub returns : goal.returns
returns c =
    answers_fit (record {
      changesets = c.changesets.ensures;
      form = c.one_normal_form.ensures;
      fit = c.no_fault_where_fit.ensures;
      taken = c.normal_is_taken.ensures;
      again = c.normal_again.ensures;
      request = c.one_request.ensures;
      answer = c.one_told_answer.ensures;
      read = c.told_are_read.ensures;
      appended = c.appended_is_log.ensures;
      longer = c.longer_log.ensures;
      catalogs = c.catalogs_are_tables.ensures;
      caught = c.caught_are_others.ensures.told;
      caught_short = c.caught_are_others.ensures.short;
      origin = c.widen_is_entry.ensures.origin;
      widen_entry = c.widen_is_entry.ensures.entry;
      most = c.most_bytes.ensures;
    })
