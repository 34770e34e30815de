mod Ending
mod Keeping
