pub mod Told
pub mod Replies
pub mod TextAnswers
pub mod Serving
pub mod Replied
pub mod RanWhole
pub mod TagRanges
pub mod OwnTags
