mod FoundLaws
mod SparingLaws
