-- The laws: the largest records reach the greatest lengths, and nothing that is written is longer
pub mod LargestLaws
pub mod LengthLaws
pub mod TextLaws

-- Which parts a record has
