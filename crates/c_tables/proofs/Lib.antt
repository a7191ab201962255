pub mod Parts
mod CurveNumbers
