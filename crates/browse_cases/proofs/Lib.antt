mod Closed
mod Empty
mod Proper
