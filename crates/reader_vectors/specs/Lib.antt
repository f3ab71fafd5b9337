pub mod OneWords
