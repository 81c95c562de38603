mod Fitting
mod Mapping
