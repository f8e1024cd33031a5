-- A copy in memory of a store that holds rows and values alone.
use Rattle.std.specs.Prelude.{◌≡◌, List}
use Rattle.std.specs.FinMap.{empty}
use Rattle.cs_value.specs.declared.catalog.TableDef.{TableDef}
use Rattle.cs_store.specs.Contents.{Contents}
use Rattle.cs_store.specs.Whole.{IsWhole}

-- all that is held is what its place says, no change is pending at a place, and there is no log
pub record HoldsRowsAlone (tables : List TableDef) (contents : Contents) : Type 0 where
  pub whole : IsWhole tables contents
  pub pending : contents.pending ≡ empty
  pub log : contents.log ≡ empty
