-- What to read beside document 01: SearchDomains and Timeservers of "Settings and their kinds", said twice
pub mod EntryLists
pub mod EntryRules
-- The laws; what only the proofs need is in proofs/
pub mod EntryRuleLaws
-- Where the entries stand, in the code's type
pub mod Places
