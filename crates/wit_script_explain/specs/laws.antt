pub mod CommandPlaces
