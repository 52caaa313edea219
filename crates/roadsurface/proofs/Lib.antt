-- What is told of one answer is told of its equal; and a verdict that comes by its numbers.
pub mod Telling
pub mod GivenVerdict
