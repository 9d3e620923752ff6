pub mod Misfits
pub mod Redone
pub mod Openings
pub mod Soundness
pub mod OneDamage
pub mod PlainLaws
pub mod PlainUndo
