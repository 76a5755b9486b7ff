pub mod ErrorKind
pub mod Exception
pub mod LoadFault
pub mod Raise
