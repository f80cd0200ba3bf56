mod Cappers
mod Ruled
mod Gathered
mod Decided
mod LinkByLink
