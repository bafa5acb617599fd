-- Sending: what begin, finish and send answer, and which cells they write.
pub mod Numbers
pub mod Sendings
pub mod Laws
