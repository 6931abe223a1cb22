pub mod ReplyParts
