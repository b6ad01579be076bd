pub mod Pieces
pub mod RecordBytes
pub mod HeaderBytes
pub mod SheetBytes
