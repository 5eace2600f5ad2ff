pub mod CarriedOn
