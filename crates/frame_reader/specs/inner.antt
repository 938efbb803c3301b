-- What only inner steps need: the frame parser.
pub mod Parser
