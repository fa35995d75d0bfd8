pub mod OrderLines
pub mod RefusalTexts
pub mod Replies
pub mod Texts
