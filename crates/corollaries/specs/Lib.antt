-- What the theorems say of the functions: of what they answer, hand back and leave (Functions), and of the exported calls (Hosts).
pub mod Functions
pub mod Hosts
