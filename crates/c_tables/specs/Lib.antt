pub mod Records
pub mod CurveNumbers
pub mod Parts
