mod Counting
mod Answering
mod Played
