mod Continued
mod EntryTests
mod FewCalls
pub mod FirstReason
mod Found
mod Gaps
pub mod Held
mod KeptEntering
mod KeptHistories
mod KeptState
mod KeptWithdrawing
mod KnownRows
mod LawfulTrains
mod Places
mod Pushed
mod RefusalTests
mod RefusalsAgree
pub mod RefusedBy
mod Removed
mod SoundIsRules
mod StopOrder
mod TypedTrains
mod Walk
mod Windows
