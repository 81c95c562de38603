mod Fitting
mod Reading
mod Walks
mod Consuming
