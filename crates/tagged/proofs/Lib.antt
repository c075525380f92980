pub mod FormLaws
pub mod WordLaws
pub mod RowLaws
pub mod TextLaws
pub mod ReadLaws
pub mod AnswerLaws
