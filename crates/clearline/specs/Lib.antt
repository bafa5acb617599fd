-- What a line that damages nothing delivers.
pub mod Deliveries
