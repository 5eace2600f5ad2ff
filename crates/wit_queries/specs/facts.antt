pub mod ValidBitsFacts
