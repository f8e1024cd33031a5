use Rattle.cs_group.proofs.laws.form_laws.Goals as goal

pub returns : goal.returns
returns c = record {
  pair = record { net = c.net_takes.ensures; key = c.one_entry_key.ensures; set = c.set_columns_fit.ensures };
  apart = c.catalog_is_apart.ensures;
  has_form = c.fit_has_form.ensures;
  at_key = c.form_at_key.ensures;
  have_tables = c.headers_have_tables.ensures;
  headers = c.headers_fit.ensures;
  fitting = c.fitting_is_normal.ensures;
}
