-- What the code holds on its way: no definition that a public clause cites.
pub mod Held
