-- What the contracts of the trail say.
pub mod Trail
