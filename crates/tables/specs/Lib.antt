-- For the proofs only: a key's place in the table of its group, and what is answered of a name and of a place
pub mod KeyPlaces
