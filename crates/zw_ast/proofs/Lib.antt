mod RowLemmas
mod KindLemmas
mod FormLemmas
mod OperatorLemmas
