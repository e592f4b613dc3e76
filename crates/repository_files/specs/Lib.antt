pub mod RepositoryFaults
