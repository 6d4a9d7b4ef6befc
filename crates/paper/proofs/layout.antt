-- Records: bytes at an offset, the walk over them, and that it accepts exactly the records of lawful patterns.
pub mod Accepted
pub mod Standing
pub mod SetBody
pub mod RepeatBody
pub mod Turns
pub mod Header
pub mod MemberList
pub mod TreeRecord
pub mod WalkFinds
pub mod WalkAccepts
pub mod RecordBytes
pub mod Lawful
