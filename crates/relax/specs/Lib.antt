-- What a reader must believe: the model (Graph), and what the theorems say of it (Journeys).
pub mod Graph
pub mod Journeys
