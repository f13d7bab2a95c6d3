pub mod BytesLaws
pub mod Parts
pub mod OutputLaws
