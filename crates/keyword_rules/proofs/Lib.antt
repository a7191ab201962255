mod FormLimits
mod Rows
