-- What a reader of a claim must believe:
pub mod Status
pub mod Reply
pub mod Stages
pub mod Printable
-- Pages of text:
pub mod Help
-- Where a text goes, which words are left to the command, and standard input:
pub mod Goes
pub mod Own
pub mod Input
-- Kept inside (laws, and how fields are seen):
pub mod SeenReply
pub mod SeenRefusal
pub mod Items
pub mod SeenStanding
