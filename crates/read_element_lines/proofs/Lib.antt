pub mod Elements
pub mod Bodies
pub mod Counts
pub mod SettingEnds
pub mod SteppedElements
pub mod SteppedBodies
pub mod Settings
pub mod Quiet
