mod Behind
mod Changes
mod Listings
mod OneEdits
mod Pended
mod Sound
mod WideStore
mod Widened
