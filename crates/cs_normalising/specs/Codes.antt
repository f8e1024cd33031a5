-- The code by which programs tell why a changeset has no normal form.
use Rattle.std.specs.Prelude.{ℕ}
use Rattle.cs_normalising.specs.declared.unfit.Unfit.{Unfit}
use Rattle.cs_normalising.specs.declared.unfit.Unfit.TheVariants.{Memory, UnknownTable, Shape, NullKey, KeyTwice}

-- 1 is want of memory
abbrev pub unfit_code : Unfit → ℕ
unfit_code Memory = 1
unfit_code UnknownTable = 30
unfit_code Shape = 31
unfit_code NullKey = 32
unfit_code KeyTwice = 33
