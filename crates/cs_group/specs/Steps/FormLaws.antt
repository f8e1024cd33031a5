-- What the laws of lower crates say of normal forms.
use Rattle.cs_change.specs.Laws.{NetTakes}
use Rattle.cs_normal.specs.Laws.{CatalogIsApart, FittingIsNormal, HeadersFit, OneEntryKey, SetColumnsFit}
use Rattle.cs_normalising.specs.Laws.{FitHasForm, FormAtKey, HeadersHaveTables}

-- of a pair of changes
pub record PairLaws : Type 0 where
  pub net : NetTakes
  pub key : OneEntryKey
  pub set : SetColumnsFit

-- of changesets and their normal forms
pub record FormLaws : Type 0 where
  pub pair : PairLaws
  pub apart : CatalogIsApart
  pub has_form : FitHasForm
  pub at_key : FormAtKey
  pub have_tables : HeadersHaveTables
  pub headers : HeadersFit
  pub fitting : FittingIsNormal
