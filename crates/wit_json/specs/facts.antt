pub mod MemberFacts
