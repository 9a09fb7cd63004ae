-- What to read beside document 01, in its order: the numbers, the groups and their keys, what stands in a file, the faults of
-- a line and of a group, the reading, and what is asked of a file
pub mod Numbers
pub mod Tables
pub mod Sections
pub mod Faults
pub mod WordNumbers
pub mod Groups
pub mod Answering
pub mod Reading
pub mod Asking
pub mod ListedValues
-- The same rules a second time, of a file's bytes and lines, with nothing of the reading in them
pub mod GroupKeys
pub mod LineOrder
pub mod GroupRules
pub mod FileRules
pub mod AnswerRows
-- Worked cases
pub mod Cases
-- For the proofs only: names, and what is asked of an accepted file. The theorems are in proofs/, where must-fail edits of the
-- definitions are refused by them
pub mod NameLaws
pub mod AnsweringLaws
pub mod GoodAnswers
