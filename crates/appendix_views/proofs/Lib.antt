pub mod ViewLaws
pub mod CountLaws
pub mod RecordLaws
pub mod PutLaws
