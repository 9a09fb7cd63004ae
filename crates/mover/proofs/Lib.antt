-- The laws: demand 3, which refusals a move gives, and that a key is kept
pub mod Theorem
pub mod Order
pub mod GoodMoves
-- The steps of the move
pub mod Sizes
pub mod Lines
pub mod Moving
