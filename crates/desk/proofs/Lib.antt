mod ExampleLines
mod FirstWords
mod LinesTaken
mod OptionsTold
