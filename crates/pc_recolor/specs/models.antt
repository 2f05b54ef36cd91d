pub mod Recoloring
