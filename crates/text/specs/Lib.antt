-- What to read beside document 01: "Lines, alike in both", and the words in which the rules are said
pub mod Bytes
pub mod Parts
pub mod Words
pub mod Options
pub mod Relations
pub mod Occurrences
pub mod Pieces
pub mod Worked
-- The laws
pub mod Laws
pub mod RunLaws
pub mod PieceLaws
pub mod OptionLaws
pub mod RelationLaws
pub mod OccurrenceLaws
pub mod Decides
pub mod Printable
pub mod ByteTableLaws
-- For the proofs only: the table of bytes in code, and what the scans of the code answer, by index
pub mod ByteTable
pub mod Scans
