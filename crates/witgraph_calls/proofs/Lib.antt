mod Growth
mod Stands
