mod Found
pub mod Served
pub mod AfterOffer
pub mod AfterReset
mod Asked
pub mod Status
pub mod QueriesOnce
pub mod OnceOnly
pub mod Slots
pub mod Sent
pub mod ChannelRuns
pub mod Holding
pub mod BookRule
pub mod Walked
pub mod Reorder
pub mod Summary
pub mod Refusals
pub mod EveryHistory
pub mod EveryCall
pub mod Channels
pub mod Gathered
pub mod WellMade
pub mod Exchange
pub mod EitherWay
pub mod Tallied
pub mod Isolation
pub mod Relock
pub mod Demands
