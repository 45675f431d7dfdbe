pub mod RowExamples
pub mod LinkExamples
pub mod WireExamples
pub mod MasterExamples
pub mod PlanExamples
