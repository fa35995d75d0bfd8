pub mod moving_people
pub mod offices
pub mod round_phases
pub mod round_outcomes
pub mod round_problems
pub mod sound_offices
