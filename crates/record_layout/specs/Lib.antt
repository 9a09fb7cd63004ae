-- What to read beside the header: the join record in the C boundary's struct
pub mod Records
-- The laws: what is handed out may be brought in again
pub mod Laws
