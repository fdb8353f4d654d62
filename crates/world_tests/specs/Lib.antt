pub mod PinSeats
pub mod AloneSeats
pub mod OneSeat
pub mod WriteSeats
pub mod LookSeats
