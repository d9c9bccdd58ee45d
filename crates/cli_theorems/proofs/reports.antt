pub mod OneJudgement
pub mod OneReport
