mod Asked
mod CarryingOut
mod CatalogKept
mod ChangedStore
mod ChangingOperations
mod Counted
mod CountedKinds
mod DeletedSessions
mod Founding
mod Ended
mod FoundAgain
mod FreeCommands
mod GatheredSlots
mod Grouped
mod HeldInOrder
mod HeldKinds
mod InTurn
mod IndexedStore
mod Labels
mod ListsInOrder
mod ManagedChannels
mod Neighbours
mod OfKinds
mod OpenedDatabase
mod OtherCommands
mod OwnerSearch
mod Passing
mod Performing
mod PlacedRows
mod Pooled
mod PooledSizes
mod ReadingCard
mod ReadingCosts
mod ReadingMoves
mod SeenSessions
mod Sides
mod SlotCount
mod SortedTest
mod Sorting
mod SpelledKinds
mod TakenForms
mod Transacting
mod Verifying
pub mod Giving
pub mod Leaving
pub mod Stamped
pub mod Starting
pub mod Tested
pub mod Told
