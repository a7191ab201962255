pub mod OpenBody
