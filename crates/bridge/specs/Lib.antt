-- What a reader must believe: how a network is read as a graph and a table as a state, and what is shown of that.
pub mod Bridge
