pub mod EditLemmas
pub mod NumberLemmas
pub mod TextLemmas
pub mod ValueLemmas
pub mod WordLemmas
pub mod WishLemmas
pub mod WrittenLemmas
