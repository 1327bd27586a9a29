pub mod DrivenLaws
pub mod SessionLaws
