pub mod FolderAnswers
pub mod LineAnswers
pub mod NextLines
pub mod State
pub mod Drawn
pub mod Fakes
