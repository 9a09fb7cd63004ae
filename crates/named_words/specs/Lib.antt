-- What to read beside document 01: yes/no and the named words of "Settings and their kinds", said twice
pub mod NamedWords
pub mod WordRules
-- The laws
pub mod WordRuleLaws
pub mod Printable
