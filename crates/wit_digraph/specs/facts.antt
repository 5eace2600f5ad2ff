pub mod AmongFacts
pub mod BitFacts
pub mod EarlierFacts
pub mod FreshFacts
pub mod MemberFacts
pub mod PostOrderFacts
