pub mod FieldLaws
pub mod PlaceLaws
pub mod RecordLaws
pub mod SizeLaws
pub mod Decoding
