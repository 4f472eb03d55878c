pub mod History
pub mod Laws
pub mod Places
pub mod Sessions
pub mod Origins
pub mod Named
