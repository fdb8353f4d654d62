pub mod LastApply
