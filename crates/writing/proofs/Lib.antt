mod Pieces
pub mod LinePieces
