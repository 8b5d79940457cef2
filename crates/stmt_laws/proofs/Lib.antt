pub mod PartLaws
pub mod StmtComplete
pub mod StmtSound
pub mod StmtViable
