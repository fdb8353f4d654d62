pub mod Tables
pub mod ChainBlocks
pub mod Ends
pub mod Reads
