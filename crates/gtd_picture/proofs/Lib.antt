-- Lemmas about columns, rectangles, paths, labels and words of pictures, and that each set has a picture.
pub mod ColumnFacts
pub mod CrowdFacts
pub mod LabelFacts
pub mod Made
pub mod PathFacts
pub mod PictureFacts
pub mod RectFacts
pub mod RectsFacts
pub mod SomePicture
pub mod TextFacts
pub mod TitleFacts
pub mod WordFacts
