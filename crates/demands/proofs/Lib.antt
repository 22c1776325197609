pub mod Demands
pub mod Finding
pub mod Joined
pub mod WallPage
pub mod ExactlyOne
pub mod ComparedKinds
pub mod CallGuards
pub mod Filled
