-- The laws
pub mod ValueRuleLaws
pub mod Written
pub mod Printable
-- The judgement of a value by its kind
pub mod Judges
pub mod KindFirst
