mod Building
mod Giving
