pub mod Threaded
pub mod StobjScopes
pub mod Loans
pub mod Accepted
pub mod Laws
