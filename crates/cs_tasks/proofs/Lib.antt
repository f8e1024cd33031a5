pub mod BlobFits
pub mod Blobs
pub mod Fronts
pub mod Groups
pub mod LentKeys
pub mod Onlies
