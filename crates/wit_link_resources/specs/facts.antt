pub mod IncomingLeads
pub mod Leads
pub mod MetTypes
