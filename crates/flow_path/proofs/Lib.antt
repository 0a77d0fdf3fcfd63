mod Reaching
mod Tracing
