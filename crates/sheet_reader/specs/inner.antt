-- What only inner steps need: a sheet judged place by place, and the bytes that it carries.
pub mod Judging
pub mod Payload
