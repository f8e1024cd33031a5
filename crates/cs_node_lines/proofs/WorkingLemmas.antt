pub mod Counting
pub mod Printing
pub mod Going
pub mod Dumping
pub mod Made
pub mod Tables
pub mod OneLine
