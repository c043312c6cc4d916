pub mod SequenceLaws
pub mod FileCallLaws
pub mod FaultLaws
pub mod TurnLaws
pub mod WriteLaws
pub mod StreamLaws
pub mod PutLaws
pub mod CallLaws
pub mod DeedLaws
mod Contents
mod MemoryCalls
mod HostileLaws
pub mod PushLaws
pub mod OpenLaws
