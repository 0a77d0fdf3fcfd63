mod Widths
mod Sending
mod Answer
