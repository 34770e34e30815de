mod WorkedBounds
mod WorkedChanges
mod WorkedCreating
mod WorkedForms
mod WorkedMachine
mod WorkedReading
mod WorkedRows
mod WorkedSpelling
mod WorkedValidity
pub mod Acting
pub mod AddedUser
pub mod AnswerWords
pub mod Apart
pub mod Assigning
pub mod CardReads
pub mod ChangeLaws
pub mod ChangedGrants
pub mod ChangedLists
pub mod ChangedObjects
pub mod ChangedRows
pub mod ChangedUsers
pub mod ChangingSessions
pub mod ChosenRows
pub mod CommandsAgain
pub mod ContentsRise
pub mod Creating
pub mod CursorsStand
pub mod CutRows
pub mod Depths
pub mod EditLaws
pub mod FewCommits
pub mod FewerObjects
pub mod FewerUsers
pub mod FieldLaws
pub mod Folding
pub mod FormedCommands
pub mod FormedParts
pub mod FoundAgain
pub mod FoundUsers
pub mod FourCommits
pub mod FreshCard
pub mod Hearing
pub mod JoinedLives
pub mod Keeping
pub mod KeepsGrants
pub mod KeepsObjects
pub mod KeepsRows
pub mod KeepsUsers
pub mod KeepsViews
pub mod KindsApart
pub mod KnownNames
pub mod LastCommits
pub mod LinesFound
pub mod LivesRestore
pub mod LongerLists
pub mod Migrating
pub mod NameOrder
pub mod Naming
pub mod NothingWritten
pub mod ObjectsFollow
pub mod OperationFields
pub mod OperationLaws
pub mod Outcomes
pub mod PartsAgain
pub mod Positions
pub mod ReadFits
pub mod ReadingIsShown
pub mod ReadingSteps
pub mod RecordLaws
pub mod RecordLengths
pub mod RecordsOf
pub mod RefusalWords
pub mod Refusing
pub mod Removing
pub mod RightEdits
pub mod Room
pub mod SeenThrough
pub mod SparingEdits
pub mod SparingSteps
pub mod SpellingLengths
pub mod Spellings
pub mod Stored
pub mod TailsAgain
pub mod TakenFields
pub mod Touching
pub mod UsersFollow
pub mod ValidSteps
pub mod WithoutTouched
pub mod WrongSecrets
