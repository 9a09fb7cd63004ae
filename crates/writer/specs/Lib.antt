-- What to read beside document 01: "The writer asks 19, 16, 17.", and the two buffers
pub mod Writing
-- The laws: how much is ever written, and that ample buffers never meet 17
pub mod Room
