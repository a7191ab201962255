pub mod Keywords
pub mod Arguments
pub mod KeywordTable
pub mod ArgumentTable
