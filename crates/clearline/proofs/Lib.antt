-- Lemmas about deliveries.
pub mod DeliveryLaws
