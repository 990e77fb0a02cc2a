mod AllowedMoves
pub mod Best
pub mod CaughtTrains
pub mod ConnectionsAreWays
mod EachShift
mod EdgeJourneys
pub mod FewSteps
mod FiveMinutes
pub mod Found
pub mod Ground
mod Hops
mod InLists
mod Journeys
mod ListedConnections
mod NothingIsCut
pub mod Onward
pub mod Pushed
mod RideByRide
pub mod RidesUnderway
mod RoomForSteps
mod SameRides
pub mod Settling
pub mod Tests
pub mod Times
