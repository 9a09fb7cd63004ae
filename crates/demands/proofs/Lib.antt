-- The proofs of the demands
pub mod DemandsHold
pub mod TableHolds
pub mod ExportsHold
pub mod SuccessHolds
pub mod PlacesHold
pub mod RoomHolds
