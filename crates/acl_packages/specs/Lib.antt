pub mod Named
pub mod Packages
pub mod Current
