-- The theorems of the functions, by their contracts (FunctionsLaws), and what the functions of this crate ensure by the contracts of
-- the calls that they make (PairLaws; HostsLaws, with FilesLaws, for the exported calls).
mod FunctionsLaws
mod PairLaws
mod FilesLaws
mod HostsLaws
