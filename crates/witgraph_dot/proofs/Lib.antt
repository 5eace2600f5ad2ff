mod Appended
mod Gathered
mod Imported
mod Staged
mod Viewed
mod Written
