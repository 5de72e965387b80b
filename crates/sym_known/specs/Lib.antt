pub mod Closing
pub mod Fronts
pub mod Holding
pub mod Knowing
pub mod Placing
