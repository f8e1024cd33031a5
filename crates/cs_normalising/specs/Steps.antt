-- What the code holds on its way: no definition that a public clause cites.
pub mod Lent
pub mod Named
pub mod Prepared
pub mod Standing
pub mod TableByTable
