pub mod Refusals
pub mod ModelAnswers
pub mod TwinAnswers
pub mod LinkAnswers
pub mod Alike
pub mod OneStep
pub mod SomeAnswer
