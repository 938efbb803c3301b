-- The laws of places and of the frame parser.
pub mod ParserLaws
pub mod PlaceLaws
