mod Plays
mod Ranges
mod Strikes
