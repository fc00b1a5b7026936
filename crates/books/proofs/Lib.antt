pub mod Judging
pub mod Nearest
pub mod Placed
pub mod Singles
