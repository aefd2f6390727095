pub mod RoundTrip
pub mod laws
