pub mod RisingLemmas
pub mod KeyLemmas
pub mod RowLemmas
