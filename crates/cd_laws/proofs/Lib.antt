mod Digits
mod Fitting
mod Reading
