-- What the contracts say of places, of figures over the lists present, and of stretches.
pub mod Slots
pub mod Tally
pub mod Stretch
