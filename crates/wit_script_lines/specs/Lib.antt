pub mod Line
pub mod PackageLine
pub mod Request
pub mod Statement
pub mod Token
pub mod TypeText
pub mod facts
pub mod steps
