mod Coding
mod Cutting
mod InOrder
mod Numbers
mod Printing
mod Reading
mod Stepping
