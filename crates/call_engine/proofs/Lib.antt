pub mod AnswersFit
pub mod EffectChanges
pub mod ExecutionLaws
pub mod Found
pub mod ShelfSteps
pub mod Wishes
