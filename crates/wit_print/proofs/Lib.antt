pub mod Bodies
pub mod Others
pub mod PieceTexts
