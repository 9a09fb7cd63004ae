-- What to read beside document 01: "IPv4 as dhcp, off, or static ..", of both families at once, and ConnMan's text for it, said twice
pub mod Addressing
pub mod Numbers
pub mod Settings
pub mod SettingRules
-- The laws; what only the proofs need is in proofs/
pub mod SettingRuleLaws
pub mod Printable
