pub mod MapFaults
