pub mod SameDays
