mod DrawsTable
pub mod QuotaChecks
pub mod QuotaEach
pub mod QuotaWindow
pub mod Shuffling
pub mod StreamLaws
