pub mod SetsAt
