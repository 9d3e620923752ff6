pub mod ChangeLaws
pub mod UndoLaws
