pub mod KeptRoutes
pub mod PassedMessages
