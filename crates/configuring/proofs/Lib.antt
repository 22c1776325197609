pub mod ConfigureLaws
pub mod WriteLaws
