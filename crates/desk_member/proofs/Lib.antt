pub mod ByMembers
pub mod Placing
pub mod SumLemmas
pub mod MemberRows
pub mod Shares
pub mod Adding
pub mod SpanLemmas
pub mod CountLemmas
