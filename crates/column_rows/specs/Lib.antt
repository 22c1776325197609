pub mod GatheredSets
