pub mod Carrying
pub mod Laid
pub mod Laying
pub mod Offering
pub mod Posted
pub mod Posting
