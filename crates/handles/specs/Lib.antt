pub mod Heap
pub mod Devices
pub mod Contexts
pub mod Lists
pub mod Players
