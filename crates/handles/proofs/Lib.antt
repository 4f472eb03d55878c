mod DeviceSteps
mod ContextSteps
mod ListSteps
mod PlayerSteps
