-- Collected records as the trees after both passes tell them (Model); what the functions that write records say (Writes); how these find
-- the imports (Listing).
pub mod Model
pub mod Writes
pub mod Listing
