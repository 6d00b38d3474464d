mod Joining
mod Reporting
